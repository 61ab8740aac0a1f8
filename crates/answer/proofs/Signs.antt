-- Signed entries: which name a variable, and what the first that does tells of it.
use Rattle.std.proofs.Common.{◌≡◌, ℕ, zero, suc, ◌≤◌, true, leb, List, [], ◌∷◌, get_or, ℤ, pos, negsuc, neg_ℤ, nat_abs, Some, None, sym, refl, ap, ◌∙◌, inl, inr, arith}
use lib.Signed.{lt_z}
use Rattle.std.proofs.lemmas.Bool.{cond-true, cond-false, eq-eqb, ne_eqb, lt-ltb, leb-true, and_parts}
use Rattle.answer.specs.Kinds.{Names, FirstNames, entry_for, Decided, first_sign}
use Rattle.answer.specs.Variables.{is_variable, largest_variable}

-- an entry names the variable that is its magnitude, and no other
pub names-from : (v : ℕ) (x : ℤ) → nat_abs x ≡ v → Names v x
names-from v (pos n) e = inl (ap pos e)
names-from v (negsuc n) e = inr (ap (λ m. neg_ℤ (pos m)) e)

opposite : (v : ℕ) → nat_abs (neg_ℤ (pos v)) ≡ v
opposite zero = refl
opposite (suc v) = refl

pub names-to : (v : ℕ) (x : ℤ) → Names v x → nat_abs x ≡ v
names-to v x (inl e) = ap nat_abs e
names-to v x (inr e) = ap nat_abs e ∙ opposite v

-- an entry that names a variable is the one for the value that its sign tells
pub entry-is : (v : ℕ) (x : ℤ) → 1 ≤ v → Names v x → x ≡ entry_for v (lt_z (pos 0) x)
entry-is zero x low n = absurd (omega arith)
entry-is (suc v) x low (inl e) = e ∙ sym (ap (entry_for (suc v)) (ap (lt_z (pos 0)) e ∙ lt-ltb 0 (suc v) (omega arith)))
entry-is (suc v) x low (inr e) = e ∙ sym (ap (entry_for (suc v)) (ap (lt_z (pos 0)) e))

pub sign-none : (v : ℕ) (xs : List ℤ) → FirstNames v xs None → first_sign v xs ≡ None
sign-none v [] h = refl
sign-none v (x ∷ xs) h =
    cond-false _ _ _ (ne_eqb _ v (λ e. h 0 (omega arith) (names-from v x e))) ∙ sign-none v xs (λ k l n. h (suc k) (omega arith) n)

pub sign-some : (v : ℕ) (xs : List ℤ) (i : ℕ) → FirstNames v xs (Some i) → first_sign v xs ≡ Some (lt_z (pos 0) (get_or xs i (pos 0)))
sign-some v [] i h = absurd (let l = h.0 in omega arith)
sign-some v (x ∷ xs) zero h = cond-true _ _ _ (eq-eqb _ v (names-to v x h.1))
sign-some v (x ∷ xs) (suc i) h =
    cond-false _ _ _ (ne_eqb _ v (λ e. h.2 0 (omega arith) (names-from v x e)))
    ∙ sign-some v xs i (let l = h.0 in omega arith, h.1, λ k l n. h.2 (suc k) (omega arith) n)

pub decided-some : (v : ℕ) (xs : List ℤ) (i : ℕ) → is_variable v ≡ true → FirstNames v xs (Some i) → Decided v xs (Some (lt_z (pos 0) (get_or xs i (pos 0))))
decided-some v xs i e h = (i, h, entry-is v (get_or xs i (pos 0)) (leb-true 1 v (and_parts (leb 1 v) (leb v largest_variable) e).0) h.1)
