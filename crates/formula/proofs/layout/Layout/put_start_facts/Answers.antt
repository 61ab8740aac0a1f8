-- One fact more.
-- Assumes nothing.
use Rattle.std.proofs.Common.{cond, [], ◌∷◌, ap, ◌∙◌, arith}
use Rattle.formula.specs.Layouts.{table_in}
use Rattle.formula.proofs.Joining.{joined-none, joined-next, joined-last}
use Rattle.formula.proofs.Ranges.{start_at}
use Rattle.encoding.specs.Ranges.{each}
use Rattle.encoding.specs.Clauses.{is, isnt}
use Rattle.encoding.proofs.Emitting.{numbered-start_facts}
use Rattle.formula.proofs.layout.Layout.put_start_facts.Goals as goal

pub loop-fact-init : goal.loop-fact-init
unfolding each
loop-fact-init g c = joined-none c.args.out.now

pub loop-fact-preserved : goal.loop-fact-preserved
loop-fact-preserved g c =
    joined-next c.args.out.now c.loop-fact.out c.push.new.self c.loop-fact.fact _ (start_at (table_in c.args.self.now)) _ c.loop-fact.auto.fact (omega arith) c.loop-fact.invariant
    c.push.ensures (ap (λ x. (x ∷ []) ∷ []) (c.literal.ensures ∙ ap (λ b. cond b (is c.loop-fact.fact) (isnt c.loop-fact.fact)) c.initial.ensures))

pub returns-2 : goal.returns-2
returns-2 g c =
    joined-last c.args.out.now c.loop-fact.out c.push.new.self c.loop-fact.fact (table_in c.args.self.now).facts (start_at (table_in c.args.self.now)) _ _ c.loop-fact.auto.fact (omega arith) c.loop-fact.invariant
    c.push.ensures (ap (λ x. (x ∷ []) ∷ []) (c.literal.ensures ∙ ap (λ b. cond b (is c.loop-fact.fact) (isnt c.loop-fact.fact)) c.initial.ensures)) (numbered-start_facts (table_in c.args.self.now))
