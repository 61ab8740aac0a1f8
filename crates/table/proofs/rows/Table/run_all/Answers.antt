-- Each event is run.
-- Assumes nothing.
use Rattle.std.proofs.Common.{ap, ◌∙◌, arith}
use Rattle.encoding.specs.Plans.{State, run}
use Rattle.table.specs.Model.{meant}
use Rattle.table.specs.States.{state_of}
use Rattle.table.proofs.Walks.{run-next, run_end, event-within}
use Rattle.table.proofs.rows.Table.run_all.Goals as goal

pub loop-pair-init : goal.loop-pair-init
loop-pair-init c = ap (λ (s : State). run (meant c.args.self.now) s c.args.plan.now) c.initially-state.ensures

pub run-state-requires : goal.run-state-requires
run-state-requires c =
    let h = event-within (meant c.args.self.now) c.args.plan.now c.loop-pair.pair-index c.requires c.loop-pair-test.true in omega (arith, h)

pub loop-pair-preserved : goal.loop-pair-preserved
loop-pair-preserved c =
    run-next c.args.plan.now c.loop-pair.pair-index (0, 0) c.loop-pair-test.true (meant c.args.self.now) (state_of c.loop-pair.state)
    (state_of c.run-state.result) c.run-state.ensures
    ∙ c.loop-pair.invariant

pub returns : goal.returns
returns c =
    run_end c.args.plan.now c.loop-pair.pair-index c.loop-pair-test.false (meant c.args.self.now) (state_of c.loop-pair.state) ∙ c.loop-pair.invariant
