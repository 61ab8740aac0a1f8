-- One action more.
-- Assumes nothing.
use Rattle.std.proofs.Common.{[], ◌∷◌, ap, arith}
use Rattle.formula.specs.Layouts.{table_in}
use Rattle.formula.proofs.Joining.{joined-none, joined-next, joined-last}
use Rattle.formula.proofs.Ranges.{open_at}
use Rattle.encoding.specs.Ranges.{each}
use Rattle.encoding.specs.Clauses.{isnt}
use Rattle.encoding.proofs.Emitting.{numbered-none_open}
use Rattle.formula.proofs.layout.Layout.put_none_open.Goals as goal

pub loop-number-init : goal.loop-number-init
unfolding each
loop-number-init g c = joined-none c.args.out.now

pub loop-number-preserved : goal.loop-number-preserved
loop-number-preserved g c =
    joined-next c.args.out.now c.loop-number.out c.push.new.self c.loop-number.number _ (open_at (table_in c.args.self.now)) _ c.loop-number.auto.number (omega arith) c.loop-number.invariant
    c.push.ensures (ap (λ v. (isnt v ∷ []) ∷ []) c.open_before-open.ensures)

pub returns-2 : goal.returns-2
returns-2 g c =
    joined-last c.args.out.now c.loop-number.out c.push.new.self c.loop-number.number (table_in c.args.self.now).actions (open_at (table_in c.args.self.now)) _ _ c.loop-number.auto.number (omega arith) c.loop-number.invariant
    c.push.ensures (ap (λ v. (isnt v ∷ []) ∷ []) c.open_before-open.ensures) (numbered-none_open (table_in c.args.self.now) 0)
