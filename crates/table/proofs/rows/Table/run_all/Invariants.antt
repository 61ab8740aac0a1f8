-- What is left of the events still leads to the state, from the one reached.
-- Assumes nothing.
use Rattle.std.proofs.Common.{◌≡◌, drop}
use Rattle.encoding.specs.Plans.{initially, run}
use Rattle.table.specs.Model.{meant}
use Rattle.table.specs.States.{state_of}
use Rattle.table.proofs.rows.Table.run_all.Given as goal

abbrev pub invariant-loop-pair : goal.invariant-loop-pair
invariant-loop-pair l = run (meant l.self) (state_of l.state) (drop l.pair-index l.plan) ≡ run (meant l.self) (initially (meant l.self)) l.plan
