-- There is one lowest variable without a value, and `lowest_missing` computes it.
use Rattle.std.proofs.Common.{◌≡◌, ℕ, zero, suc, Bool, true, false, cond, is_some, Some, None, Option, sym, refl, ap, ◌∙◌, ⊎_elim, arith}
use Rattle.std.specs.Option.{option_or}
use Rattle.std.proofs.lemmas.Bool.{cases_order, true≢false}
use Rattle.answer.specs.Missing.{AllTold, LowestMissing, lowest_missing, Lowest}

none_from : (o : Option Bool) → is_some o ≡ false → o ≡ None
none_from None e = refl
none_from (Some b) e = absurd (true≢false e)

module _ (told : ℕ → Option Bool) where
  untold : (v : ℕ) {P : Type 0} → told v ≡ None → is_some (told v) ≡ true → P
  untold v e h = absurd (true≢false (sym h ∙ ap is_some e))

  lowest-once : (n : ℕ) (r s : Option ℕ) → LowestMissing told n r → LowestMissing told n s → r ≡ s
  lowest-once n None None a b = refl
  lowest-once n None (Some w) a b = untold w b.2 (a w b.0 (let h = b.1 in omega arith))
  lowest-once n (Some v) None a b = untold v a.2 (b v a.0 (let h = a.1 in omega arith))
  lowest-once n (Some v) (Some w) a b =
      ⊎_elim (λ same. ap Some same)
      (⊎_elim (λ below. untold v a.2 (b.3 v a.0 below)) (λ above. untold w b.2 (a.3 w b.0 above)))
      (cases_order v w)

  lowest-is : (n : ℕ) → LowestMissing told n (lowest_missing told n)
  lowest-is zero = λ v low high. absurd (omega arith)
  lowest-is (suc n) = go (lowest_missing told n) (lowest-is n)
    where
      more : (b : Bool) → is_some (told (suc n)) ≡ b → AllTold told (suc n) → LowestMissing told (suc n) (cond b None (Some (suc n)))
      more true e all = λ v low high. ⊎_elim (λ same. ap (λ w. is_some (told w)) same ∙ e) (⊎_elim (λ below. all v low below) (λ above. absurd (omega arith))) (cases_order v (suc n))
      more false e all = (omega arith, omega arith, none_from (told (suc n)) e, all)

      go : (r : Option ℕ) → LowestMissing told n r → LowestMissing told (suc n) (option_or r (cond (is_some (told (suc n))) None (Some (suc n))))
      go None all = more (is_some (told (suc n))) refl all
      go (Some v) h = (h.0, (let l = h.1 in omega arith), h.2, h.3)

  pub lowest-from : (n : ℕ) (r : Option ℕ) → LowestMissing told n r → Lowest told n r
  lowest-from n r h = record { is = lowest-once n r (lowest_missing told n) h (lowest-is n); lowest = h }
