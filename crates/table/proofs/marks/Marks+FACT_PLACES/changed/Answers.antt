-- Past the places nothing is marked.
-- Assumes nothing.
use Rattle.std.proofs.Common.{◌≡◌, refl, Bool, true, false, not, ◌&&◌, ◌||◌, ltb, length, get_or, sym, ◌∙◌, ap₂, arith, rules, tests}
use Rattle.std.proofs.lemmas.Bool.{ltb-true, ltb-false}
use Rattle.std.proofs.lemmas.List.{get_or_past}
use Rattle.table.proofs.Lists.{made}
use Rattle.table.proofs.marks.Marks+FACT_PLACES.changed.Goals as goal

pub returns : goal.returns
returns c i = go (ltb i 33) refl where
  go : (b : Bool) → ltb i 33 ≡ b → get_or c.from_fn.result i false ≡ (get_or c.args.adds.marks i false || (get_or c.args.self.marks i false && not (get_or c.args.deletes.marks i false)))
  go true e =
      made _ _ (λ k. get_or c.args.adds.marks k false || (get_or c.args.self.marks k false && not (get_or c.args.deletes.marks k false))) (λ k b q h. search (rules, tests))
      c.from_fn.result 0 33 c.from_fn.ensures.items.each i false (omega arith) (ltb-true i 33 e)
  go false e =
      let l = ltb-false i 33 e in
      let added : length c.args.adds.marks ≡ 33 = search rules in
      let before : length c.args.self.marks ≡ 33 = search rules in
      let long = c.from_fn.ensures.items.long in
      get_or_past c.from_fn.result i false (omega arith)
      ∙ sym (ap₂ (λ x y. x || (y && not (get_or c.args.deletes.marks i false))) (get_or_past c.args.adds.marks i false (omega arith)) (get_or_past c.args.self.marks i false (omega arith)))
