-- Each pair in order is passed, and the first that is not is the answer.
-- Assumes nothing.
use Rattle.std.proofs.Common.{◌+◌, sym, ◌∙◌}
use Rattle.table.specs.Model.{meant}
use Rattle.table.proofs.Walks.{misplaced-next, misplaced-here, misplaced-end}
use Rattle.table.proofs.rows.Table.misplaced.Goals as goal

pub loop-i-preserved : goal.loop-i-preserved
loop-i-preserved c =
    misplaced-next c.args.plan.now c.loop-i.i (0, 0) c.loop-i-test.true (meant c.args.self.now) c.args.n c.loop-i.before (c.loop-i.i + 1)
    (sym c.if-not-in_order.ensures)
    ∙ c.loop-i.invariant

pub returns-then-not-in_order : goal.returns-then-not-in_order
returns-then-not-in_order c =
    sym (misplaced-here c.args.plan.now c.loop-i.i (0, 0) c.loop-i-test.true (meant c.args.self.now) c.args.n c.loop-i.before (c.loop-i.i + 1)
    (sym c.if-not-in_order.ensures))
    ∙ c.loop-i.invariant

pub returns : goal.returns
returns c =
    sym (misplaced-end c.args.plan.now c.loop-i.i c.loop-i-test.false (meant c.args.self.now) c.args.n c.loop-i.before (c.loop-i.i + 1))
    ∙ c.loop-i.invariant
