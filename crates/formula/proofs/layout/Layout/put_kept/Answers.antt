-- One event more.
-- Assumes nothing.
use Rattle.std.proofs.Common.{◌*◌, refl, arith}
use Rattle.formula.specs.Layouts.{table_in}
use Rattle.formula.proofs.Joining.{joined-none, joined-next, joined-last}
use Rattle.formula.proofs.Ranges.{kept_from}
use Rattle.encoding.specs.Ranges.{each}
use Rattle.encoding.proofs.Emitting.{numbered-kept}
use Rattle.formula.proofs.layout.Layout.put_kept.Goals as goal

pub loop-number-init : goal.loop-number-init
unfolding each
loop-number-init g c = joined-none c.args.out.now

pub loop-number-preserved : goal.loop-number-preserved
loop-number-preserved g c =
    joined-next c.args.out.now c.loop-number.out c.put_kept_from.new.out c.loop-number.number _ (kept_from (table_in c.args.self.now)) _ c.loop-number.auto.number (omega arith) c.loop-number.invariant
    c.put_kept_from.ensures refl

pub returns-2 : goal.returns-2
returns-2 g c =
    joined-last c.args.out.now c.loop-number.out c.put_kept_from.new.out c.loop-number.number (2 * (table_in c.args.self.now).actions) (kept_from (table_in c.args.self.now)) _ _ c.loop-number.auto.number (omega arith) c.loop-number.invariant
    c.put_kept_from.ensures refl (numbered-kept (table_in c.args.self.now) 0)
