-- What is left of the columns still comes to the same.
use Rattle.std.proofs.Common.{◌≡◌, ◌-◌, None, drop}
use Rattle.text.specs.Columns.{read_on, Within}
use Rattle.text.proofs.fields.columns.Given as goal

abbrev pub invariant-loop-i : goal.invariant-loop-i
invariant-loop-i l = (read_on (4 - l.i) l.i l.at (drop l.i l.s) ≡ read_on 4 0 None l.s) × Within l.i l.at
