-- Each event that runs is passed, and the first that does not is the answer.
-- Assumes nothing.
use Rattle.std.proofs.Common.{◌+◌, sym, ap, ◌∙◌}
use Rattle.encoding.specs.Plans.{State, run}
use Rattle.table.specs.Model.{meant}
use Rattle.table.specs.States.{state_of}
use Rattle.table.specs.Verdicts.{stuck}
use Rattle.table.proofs.Walks.{stuck-next, stuck-here, stuck-end, run-next, run_end}
use Rattle.table.proofs.rows.Table.play.Goals as goal

pub loop-i-init : goal.loop-i-init
loop-i-init c = (
  ap (λ (s : State). stuck (meant c.args.self.now) s 1 c.args.plan.now) c.initially-state.ensures,
  ap (λ (s : State). run (meant c.args.self.now) s c.args.plan.now) c.initially-state.ensures,
)

pub loop-i-preserved : goal.loop-i-preserved
loop-i-preserved c = (
  stuck-next c.args.plan.now c.loop-i.i (0, 0) c.loop-i-test.true (meant c.args.self.now) (state_of c.loop-i.state) (c.loop-i.i + 1)
      (state_of c.run-state.result) c.run-state.ensures (sym c.in_default.ensures)
      ∙ c.loop-i.invariant.0,
  run-next c.args.plan.now c.loop-i.i (0, 0) c.loop-i-test.true (meant c.args.self.now) (state_of c.loop-i.state)
      (state_of c.run-state.result) c.run-state.ensures
      ∙ c.loop-i.invariant.1,
)

pub returns-in-Some : goal.returns-in-Some
returns-in-Some c =
    sym c.loop-i.invariant.0
    ∙ stuck-here c.args.plan.now c.loop-i.i (0, 0) c.loop-i-test.true (meant c.args.self.now) (state_of c.loop-i.state) (c.loop-i.i + 1)
    c.in-Some.obstacle (sym c.in-Some.ensures)

pub returns : goal.returns
returns c = (
  sym c.loop-i.invariant.0 ∙ stuck-end c.args.plan.now c.loop-i.i c.loop-i-test.false (meant c.args.self.now) (state_of c.loop-i.state) (c.loop-i.i + 1),
  run_end c.args.plan.now c.loop-i.i c.loop-i-test.false (meant c.args.self.now) (state_of c.loop-i.state) ∙ c.loop-i.invariant.1,
)
