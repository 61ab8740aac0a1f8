-- Clauses put one after another into any kind of store.
-- Assumes nothing.
use Rattle.std.proofs.Common.{◌≡◌, ℕ, List, [], ◌++◌, ℤ, subst, arith}
use Rattle.store.specs.Clauses.{Prices}
use Rattle.store.proofs.Adding.{added_more, added_none, price-append}
use Rattle.encoder.specs.Puts.{Adds}

module _ {X : Type 0} (held : X → List (List ℤ)) (units : X → ℕ) (prices : Prices) where
  pub adds_none : (s : X) → Adds held units prices s s []
  adds_none s h = added_none held units prices s

  pub adds-more : (s t u : X) (cs ds : List (List ℤ)) → Adds held units prices s t cs → Adds held units prices t u ds → Adds held units prices s u (cs ++ ds)
  adds-more s t u cs ds a b h =
      let e = price-append prices cs ds in
      let p = a (omega arith) in
      let q = b (omega (arith, p.paid)) in
      added_more held units prices s t u cs ds p q

  pub adds-two : (s t u : X) (cs ds es : List (List ℤ)) → Adds held units prices s t cs → Adds held units prices t u ds → cs ++ ds ≡ es → Adds held units prices s u es
  adds-two s t u cs ds es a b e = subst (Adds held units prices s u) e (adds-more s t u cs ds a b)
