-- A relevant event's clauses, or none.
-- Assumes nothing.
use Rattle.std.proofs.Common.{◌≡◌, ◌+◌, true, cond, sym, ap, ◌∙◌, subst}
use Rattle.encoding.specs.Chains.{next_at}
use Rattle.encoding.specs.Clauses.{turn}
use Rattle.encoding.specs.Ranges.{only}
use Rattle.encoding.specs.Tables.{events, relevant, requires}
use Rattle.encoding.specs.Variables.{number, variables}
use Rattle.formula.specs.Layouts.{table_in}
use Rattle.formula.specs.Listings.{Joined}
use Rattle.formula.proofs.Equal.{turn-equal}
use Rattle.formula.proofs.layout.truth.Chain.put_turn.Goals as goal

pub returns : goal.returns
unfolding number
returns g c =
    let h = c.args.self.now in
    let T = table_in h.layout.now in
    let p = h.fact in
    let e = c.args.event.number in
    let k = c.args.count + 1 in
    let r : relevant T e p ≡ true = sym c.relevant.ensures ∙ c.if-not-relevant.false in
    let v = ap (λ x. x + (h.before + k)) c.before_pairs.ensures.count in
    record {
      count = ap (λ b. c.args.count + cond b 1 0) (sym r);
      puts = subst (Joined c.args.out.now c.put.new.out)
          (turn-equal _ _ _ _ _ _ _ _ _ _ _ _ c.requires_fact.ensures c.adds.ensures c.deletes.ensures c.event.ensures v c.next.ensures
          ∙ ap (λ b. only b (turn (requires T e p) (T.adds e p) (T.deletes e p) (variables T 0 + e) (variables T 0 + events T + (h.before + k)) (next_at T p (variables T 0) h.before k))) (sym r))
          c.put.ensures;
    }
