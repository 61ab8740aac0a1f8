-- One action more.
-- Assumes nothing.
use Rattle.std.proofs.Common.{refl, arith}
use Rattle.formula.specs.Layouts.{table_in}
use Rattle.formula.proofs.Joining.{joined-none, joined-next, joined-last}
use Rattle.formula.specs.Parts.{kept_at}
use Rattle.encoding.specs.Ranges.{each}
use Rattle.formula.proofs.Equal.{kept-equal}
use Rattle.formula.proofs.layout.Layout.put_kept_from.Goals as goal

pub loop-number-init : goal.loop-number-init
unfolding each
loop-number-init g c = joined-none c.args.out.now

pub loop-number-preserved : goal.loop-number-preserved
loop-number-preserved g c =
    joined-next c.args.out.now c.loop-number.out c.push_if.new.self c.loop-number.number _ (kept_at (table_in c.args.self.now) c.args.event.number) _ c.loop-number.auto.number (omega arith) c.loop-number.invariant
    c.push_if.ensures (kept-equal _ _ _ _ _ _ c.excludes.ensures c.event.ensures c.open_at_turn-open.ensures)

pub returns-2 : goal.returns-2
returns-2 g c =
    joined-last c.args.out.now c.loop-number.out c.push_if.new.self c.loop-number.number (table_in c.args.self.now).actions (kept_at (table_in c.args.self.now) c.args.event.number) _ _ c.loop-number.auto.number (omega arith) c.loop-number.invariant
    c.push_if.ensures (kept-equal _ _ _ _ _ _ c.excludes.ensures c.event.ensures c.open_at_turn-open.ensures) (refl)
