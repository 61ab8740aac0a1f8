-- The columns of the literals so far stand in front.
use Rattle.std.proofs.Common.{◌≡◌, ◌*◌, take}
use Rattle.std.specs.List.{flat_map}
use Rattle.store.specs.Rendering.{field, width}
use Rattle.store.proofs.columns.write_line.Given as goal

abbrev pub invariant-loop-i : goal.invariant-loop-i
invariant-loop-i l = take (width * l.i) l.line ≡ flat_map (field width) (take l.i l.clause.literals.now)
