-- Many clauses put one after another, for code over every kind of store: what was added so far, and one put more.
use Rattle.std.proofs.Common.{◌≡◌, ℕ, ◌+◌, ◌≤◌, List, [], ◌∷◌, ◌++◌, length, ℤ, sym, ap, ◌∙◌, append_assoc, append-nil, arith}
use Rattle.store.specs.Clauses.{Prices, cost, price_of, Joined, Added}

pub price-append : (p : Prices) (cs ds : List (List ℤ)) → price_of p (cs ++ ds) ≡ price_of p cs + price_of p ds
price-append p [] ds = omega arith
price-append p (c ∷ cs) ds = omega (arith, price-append p cs ds)

module _ {X : Type 0} (held : X → List (List ℤ)) (units : X → ℕ) (prices : Prices) where
  pub added_none : (s : X) → Added held units prices s s []
  added_none s = record { joined = sym (append-nil (held s)); paid = omega arith }

  pub added_more : (s t u : X) (cs ds : List (List ℤ)) → Added held units prices s t cs → Added held units prices t u ds → Added held units prices s u (cs ++ ds)
  added_more s t u cs ds a b = record {
    joined = b.joined ∙ ap (λ h. h ++ ds) a.joined ∙ append_assoc (held s) cs ds;
    paid = omega (arith, a.paid, b.paid, price-append prices cs ds);
  }

  -- a granted put adds its clause
  pub added-one : (s t : X) (c : List ℤ) → Joined (cost prices (length c)) (held s) (held t) (units s) (units t) c → Added held units prices s t (c ∷ [])
  added-one s t c j = record { joined = j.held; paid = omega (arith, j.room, j.units) }

  pub added-put : (s t u : X) (cs : List (List ℤ)) (c : List ℤ) → Added held units prices s t cs → Joined (cost prices (length c)) (held t) (held u) (units t) (units u) c → Added held units prices s u (cs ++ c ∷ [])
  added-put s t u cs c a j = added_more s t u cs (c ∷ []) a (added-one t u c j)

  -- where the price of all is covered, what is left covers the next
  pub left_over : (s t : X) (cs ds es : List (List ℤ)) → Added held units prices s t cs → price_of prices (cs ++ (ds ++ es)) ≤ units s → price_of prices ds ≤ units t
  left_over s t cs ds es a h = omega (arith, a.paid, price-append prices cs (ds ++ es), price-append prices ds es)
