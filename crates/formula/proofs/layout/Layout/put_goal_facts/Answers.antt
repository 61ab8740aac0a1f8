-- One fact more.
-- Assumes nothing.
use Rattle.std.proofs.Common.{[], ◌∷◌, ap, arith}
use Rattle.formula.specs.Layouts.{table_in}
use Rattle.formula.proofs.Joining.{joined-none, joined-next, joined-last}
use Rattle.formula.proofs.Ranges.{goal_at}
use Rattle.encoding.specs.Ranges.{each, only}
use Rattle.encoding.specs.Clauses.{goal_facts, is, numbered}
use Rattle.encoding.specs.Variables.{number}
use Rattle.encoding.proofs.Emitting.{numbered-goal_facts}
use Rattle.formula.proofs.layout.Layout.put_goal_facts.Goals as goal

pub loop-fact-init : goal.loop-fact-init
unfolding each
loop-fact-init g c = joined-none c.args.out.now

pub loop-fact-preserved : goal.loop-fact-preserved
unfolding number
loop-fact-preserved g c =
    joined-next c.args.out.now c.loop-fact.out c.push_if.new.self c.loop-fact.fact _ (goal_at (table_in c.args.self.now)) _ c.loop-fact.auto.fact (omega arith) c.loop-fact.invariant
    c.push_if.ensures (ap (λ b. only b ((is c.loop-fact.fact ∷ []) ∷ [])) c.goal.ensures)

pub returns-2 : goal.returns-2
unfolding number
returns-2 g c =
    let T = table_in c.args.self.now in
    joined-last c.args.out.now c.loop-fact.out c.push_if.new.self c.loop-fact.fact T.facts (goal_at T) _ (numbered T (goal_facts T 0)) c.loop-fact.auto.fact (omega arith) c.loop-fact.invariant
    c.push_if.ensures (ap (λ b. only b ((is c.loop-fact.fact ∷ []) ∷ [])) c.goal.ensures) (numbered-goal_facts T 0)
