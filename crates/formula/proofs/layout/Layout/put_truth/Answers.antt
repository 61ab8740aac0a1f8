-- One fact more.
-- Assumes nothing.
use Rattle.std.proofs.Common.{◌+◌, sym, refl, ◌∙◌, ap₂, arith}
use Rattle.encoding.specs.Ranges.{each, total}
use Rattle.encoding.specs.Variables.{width}
use Rattle.formula.specs.Layouts.{table_in}
use Rattle.formula.proofs.Bounds.{width-le}
use Rattle.formula.proofs.Joining.{joined-last, joined-next, joined-none}
use Rattle.formula.proofs.Ranges.{total-next, truth_from}
use Rattle.formula.proofs.Numbers.{truth-each, truth_is}
use Rattle.formula.proofs.layout.Layout.put_truth.Goals as goal

pub loop-fact-init : goal.loop-fact-init
unfolding total each
loop-fact-init g c = (refl, omega arith, joined-none c.args.out.now)

pub overflow_add-before : goal.overflow_add-before
overflow_add-before g c = omega (arith, c.args.self.now.table.now.sizes, c.facts-fact-end.ensures, c.loop-fact.invariant.1, c.width-width.ensures, width-le (table_in c.args.self.now) c.loop-fact.fact)

pub loop-fact-preserved : goal.loop-fact-preserved
loop-fact-preserved g c =
    let T = table_in c.args.self.now in (
      ap₂ ◌+◌ c.loop-fact.invariant.0 c.width-width.ensures ∙ sym (total-next c.loop-fact.fact _ (width T) c.loop-fact.auto.fact (omega arith)),
      omega (arith, c.loop-fact.auto.fact, c.loop-fact.invariant.1, c.width-width.ensures, width-le T c.loop-fact.fact),
      joined-next c.args.out.now c.loop-fact.out c.put.new.out c.loop-fact.fact _ (truth_from T) _ c.loop-fact.auto.fact (omega arith) c.loop-fact.invariant.2 c.put.ensures
          (truth_is T c.loop-fact.fact c.loop-fact.before c.loop-fact.auto.fact c.loop-fact.invariant.0),
    )

pub returns-2 : goal.returns-2
returns-2 g c =
    let T = table_in c.args.self.now in
    joined-last c.args.out.now c.loop-fact.out c.put.new.out c.loop-fact.fact T.facts (truth_from T) _ _ c.loop-fact.auto.fact (omega arith) c.loop-fact.invariant.2 c.put.ensures
    (truth_is T c.loop-fact.fact c.loop-fact.before c.loop-fact.auto.fact c.loop-fact.invariant.0) (truth-each T)
