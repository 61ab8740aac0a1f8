-- What is left of the plan still gives the answer, from the state reached.
-- Assumes nothing.
use Rattle.std.proofs.Common.{◌≡◌, ◌+◌, drop}
use Rattle.encoding.specs.Plans.{initially, run}
use Rattle.table.specs.Model.{meant}
use Rattle.table.specs.States.{state_of}
use Rattle.table.specs.Verdicts.{stuck}
use Rattle.table.proofs.rows.Table.play.Given as goal

abbrev pub invariant-loop-i : goal.invariant-loop-i
invariant-loop-i l =
    (stuck (meant l.self) (state_of l.state) (l.i + 1) (drop l.i l.plan) ≡ stuck (meant l.self) (initially (meant l.self)) 1 l.plan)
    × (run (meant l.self) (state_of l.state) (drop l.i l.plan) ≡ run (meant l.self) (initially (meant l.self)) l.plan)
