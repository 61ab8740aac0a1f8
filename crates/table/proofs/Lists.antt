-- Lists of what is the same throughout, and lists with one element replaced.
-- Assumes nothing.
use Rattle.std.proofs.Common.{◌≡◌, ℕ, zero, suc, ◌+◌, ◌<◌, ◌≤◌, Bool, true, false, ◌&&◌, ◌||◌, eqb, List, length, get_or, set, replicate, sym, refl, ap, ◌∙◌, subst, arith, get_or-set_other, get_or-set_same}
use denote.Param.Members.{Mut}
use Rattle.std.specs.Array.{IsFromFnResultFrom}
use Rattle.std.specs.Fn.{Called}
use Rattle.std.proofs.lemmas.Bool.{eqb-true, eqb-false}

-- what x and the default have, each element of a list of x alone has
pub all_same : {X : Type 0} (P : X → Type 0) (n : ℕ) (x d : X) → P x → P d → (i : ℕ) → P (get_or (replicate n x) i d)
all_same P zero x d h k i = k
all_same P (suc n) x d h k zero = h
all_same P (suc n) x d h k (suc i) = all_same P n x d h k i

-- one element is replaced by y, of which f says what it said before, or t
pub set_at : {X : Type 0} (f : X → Bool) (xs : List X) (i j : ℕ) (y d : X) (t : Bool) → i < length xs
    → f y ≡ (t || f (get_or xs i d)) → f (get_or (set xs i y) j d) ≡ ((eqb j i && t) || f (get_or xs j d))
set_at f xs i j y d t h e = go (eqb j i) refl where
  go : (b : Bool) → eqb j i ≡ b → f (get_or (set xs i y) j d) ≡ ((b && t) || f (get_or xs j d))
  go true k =
      subst (λ m. f (get_or (set xs i y) m d) ≡ (t || f (get_or xs m d))) (sym (eqb-true j i k)) (ap f (get_or-set_same xs i y d h) ∙ e)
  go false k = ap f (get_or-set_other xs i j y d (eqb-false j i k))

-- what an array made from its places has at each
module _ {F B : Type 0} (g : Mut F (ℕ × Unit {0}) B) (f : F) (at : ℕ → B) (says : (i : ℕ) (b : B) (q : F) → Called g f (i, tt) b q → (q ≡ f) × (b ≡ at i)) where
  pub made : (ys : List B) (i n : ℕ) → IsFromFnResultFrom g f ys i n → (k : ℕ) (d : B) → i ≤ k → k < i + n → get_or ys k d ≡ at k
  made ys i zero h k d l u = absurd (omega arith)
  made ys i (suc n) h k d l u =
      let w = says i h.1 h.0 h.3 in
      let rest = subst (λ p. IsFromFnResultFrom g p ys (i + 1) n) w.0 h.4 in
      go (eqb k i) refl (λ v. made ys (i + 1) n rest k d v (omega arith)) where
        go : (b : Bool) → eqb k i ≡ b → (i + 1 ≤ k → get_or ys k d ≡ at k) → get_or ys k d ≡ at k
        go true e later = subst (λ j. get_or ys j d ≡ at j) (sym (eqb-true k i e)) (h.2.1 d ∙ (says i h.1 h.0 h.3).1)
        go false e later = let ne = eqb-false k i e in later (omega arith)
