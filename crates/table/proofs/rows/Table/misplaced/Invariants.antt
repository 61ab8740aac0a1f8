-- What is left of the plan still gives the answer.
-- Assumes nothing.
use Rattle.std.proofs.Common.{◌≡◌, ◌+◌, drop}
use Rattle.table.specs.Model.{meant}
use Rattle.table.specs.Verdicts.{misplaced}
use Rattle.table.proofs.rows.Table.misplaced.Given as goal

abbrev pub invariant-loop-i : goal.invariant-loop-i
invariant-loop-i l = misplaced (meant l.self) l.n l.before (l.i + 1) (drop l.i l.plan) ≡ misplaced (meant l.self) l.n (0, 0) 1 l.plan
