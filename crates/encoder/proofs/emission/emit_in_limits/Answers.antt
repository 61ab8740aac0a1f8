-- The counts of the template are those of the list, and so is the price.
-- Assumes nothing.
use Rattle.std.proofs.Common.{◌≤◌, refl, ◌∙◌, subst, arith}
use Rattle.encoding.specs.Clauses.{signed_formula}
use Rattle.store.specs.Clauses.{price_of}
use Rattle.table.specs.Model.{meant}
use Rattle.encoder.specs.Puts.{Adds}
use Rattle.encoder.proofs.Whole.{answer-count, answer-dear, length-is, list-is, ones-are, price-is, threes-are, twos-are}
use Rattle.encoder.proofs.emission.emit_in_limits.Goals as goal

pub returns-then-free-price : goal.returns-then-free-price
returns-then-free-price g c =
    let T = meant c.args.table.now in
    let S = g.S.ClauseStore in
    let h = c.of-template.ensures.families in
    let p = price-is T c.args.steps.count S.prices _ _ _ _ (c.of-counts.ensures.ones ∙ ones-are T _ h) (c.of-counts.ensures.twos ∙ twos-are T _ h) (c.of-counts.ensures.threes ∙ threes-are T _ h) c.price.ensures in
    record {
      answer = answer-dear T c.args.steps.count S.prices (S.units c.args.store.now) c.args.steps.some c.args.steps.few (omega (arith, c.if-free-price.true, c.free.ensures));
      after = refl;
      grows = S.growth.none c.args.store.now;
    }

pub returns : goal.returns
returns g c =
    let T = meant c.args.table.now in
    let S = g.S.ClauseStore in
    let h = c.of-template.ensures.families in
    let a = c.of-counts.ensures.ones ∙ ones-are T _ h in
    let b = c.of-counts.ensures.twos ∙ twos-are T _ h in
    let d = c.of-counts.ensures.threes ∙ threes-are T _ h in
    let p = price-is T c.args.steps.count S.prices _ _ _ _ a b d c.price.ensures in
    let room : price_of S.prices (signed_formula T c.args.steps.count) ≤ S.units c.args.store.now = omega (arith, c.if-free-price.false, c.free.ensures) in
    record {
      answer = answer-count T c.args.steps.count S.prices (S.units c.args.store.now) _ c.args.steps.some c.args.steps.few room (length-is T c.args.steps.count _ _ _ _ a b d c.clauses.ensures);
      after = subst (Adds S.held S.units S.prices c.args.store.now c.put_list.new.store) (list-is T _ h c.args.steps.count) c.put_list.ensures.puts room;
      grows = c.put_list.ensures.grows;
    }
