-- What four columns show of a number is its field, and nothing else is.
use Rattle.std.proofs.Common.{◌≡◌, ℕ, ◌+◌, ◌-◌, ◌*◌, ◌/◌, ◌%◌, ◌<◌, ◌≤◌, List, [], ◌∷◌, ◌++◌, decimal, refl, ap, ◌∙◌, inl, inr, arith}
use Rattle.std.proofs.lemmas.Fmt.{decimal_digit, decimal_step}
use Rattle.std.proofs.lemmas.Bool.{cases_lt}
use Rattle.text.proofs.Shapes.{Field}
use Rattle.text.specs.Numbers.{justified}

two : (n : ℕ) → 10 ≤ n → n < 100 → decimal n ≡ (48 + n / 10) ∷ (48 + n % 10) ∷ []
two n h g = decimal_step n h (omega arith) ∙ ap (λ x. x ++ ((48 + n % 10) ∷ [])) (decimal_digit (n / 10) (omega arith))

three : (n : ℕ) → 100 ≤ n → n < 1000 → decimal n ≡ (48 + n / 10 / 10) ∷ (48 + n / 10 % 10) ∷ (48 + n % 10) ∷ []
three n h g = decimal_step n (omega arith) (omega arith) ∙ ap (λ x. x ++ ((48 + n % 10) ∷ [])) (two (n / 10) (omega arith) (omega arith))

four : (n : ℕ) → 1000 ≤ n → n < 10000 → decimal n ≡ (48 + n / 10 / 10 / 10) ∷ (48 + n / 10 / 10 % 10) ∷ (48 + n / 10 % 10) ∷ (48 + n % 10) ∷ []
four n h g = decimal_step n (omega arith) (omega arith) ∙ ap (λ x. x ++ ((48 + n % 10) ∷ [])) (three (n / 10) (omega arith) (omega arith))

pub field_of : (n : ℕ) → n < 10000 → Field (justified n) n
field_of n h =
    elim (cases_lt n 10) [
      | inl a ↦ rw (decimal_digit n a) (inl (refl, inl (refl, inl (refl, ((omega arith, omega arith), tt)))), omega arith)
      | inr a ↦
          elim (cases_lt n 100) [
            | inl b ↦ rw (two n a b) (inl (refl, inl (refl, inr (omega arith, omega arith, ((omega arith, omega arith), tt)))), omega arith)
            | inr b ↦
                elim (cases_lt n 1000) [
                  | inl d ↦ rw (three n b d) (inl (refl, inr (omega arith, omega arith, ((omega arith, omega arith), ((omega arith, omega arith), tt)))), omega arith)
                  | inr d ↦
                      rw (four n d h) (inr (omega arith, omega arith, ((omega arith, omega arith), ((omega arith, omega arith), ((omega arith, omega arith), tt)))), omega arith)
                ]
          ]
    ]

-- and a field is what is printed of its number
same-four : (a b c d a' b' c' d' : ℕ) → a ≡ a' → b ≡ b' → c ≡ c' → d ≡ d' → (a ∷ b ∷ c ∷ d ∷ []) ≡ (a' ∷ b' ∷ c' ∷ d' ∷ [])
same-four a b c d a' b' c' d' p q r s = cc

pub printed-of : (s : List ℕ) (n : ℕ) → Field s n → (n < 10000) × (s ≡ justified n)
printed-of [] n f = absurd f.0
printed-of (a ∷ []) n f = absurd (elim f.0 [ inl x ↦ x.1 | inr y ↦ y.2 ])
printed-of (a ∷ b ∷ []) n f = absurd (elim f.0 [ inl x ↦ elim x.1 [ inl u ↦ u.1 | inr v ↦ v.2 ] | inr y ↦ y.2.1 ])
printed-of (a ∷ b ∷ c ∷ []) n f =
    absurd (elim f.0 [ inl x ↦ elim x.1 [ inl u ↦ elim u.1 [ inl p ↦ p.1 | inr q ↦ q.2 ] | inr v ↦ v.2.1 ] | inr y ↦ y.2.1.1 ])
printed-of (a ∷ b ∷ c ∷ d ∷ (e ∷ t)) n f =
    absurd (elim f.0 [ inl x ↦ elim x.1 [ inl u ↦ elim u.1 [ inl p ↦ p.1.1 | inr q ↦ q.2.1 ] | inr v ↦ v.2.1.1 ] | inr y ↦ y.2.1.1.1 ])
printed-of (a ∷ b ∷ c ∷ d ∷ []) n f =
    elim f.0 [
      | inl x ↦ elim x.1 [
        | inl u ↦ elim u.1 [
          | inl p ↦ (let l : n < 10 = omega (arith, f.1, x.0, u.0, p.0, p.1.0.0, p.1.0.1) in
              (omega arith, rw (decimal_digit n l) (same-four a b c d 32 32 32 (48 + n) x.0 u.0 p.0 (omega (arith, f.1, x.0, u.0, p.0, p.1.0.0, p.1.0.1)))))
          | inr q ↦ (let l : n ≡ 10 * (c - 48) + (d - 48) = omega (arith, f.1, x.0, u.0, q.0) in
              let m : (49 ≤ c) × (c < 58) × (48 ≤ d) × (d < 58) = (q.0, q.1, q.2.0.0, q.2.0.1) in
              (omega arith, rw (two n (omega arith) (omega arith)) (same-four a b c d 32 32 (48 + n / 10) (48 + n % 10) x.0 u.0 (omega arith) (omega arith))))
        ]
        | inr v ↦ (let l : n ≡ 10 * (10 * (b - 48) + (c - 48)) + (d - 48) = omega (arith, f.1, x.0, v.0) in
            let m : (49 ≤ b) × (b < 58) × (48 ≤ c) × (c < 58) × (48 ≤ d) × (d < 58) = (v.0, v.1, v.2.0.0, v.2.0.1, v.2.1.0.0, v.2.1.0.1) in
            (omega arith, rw (three n (omega arith) (omega arith)) (same-four a b c d 32 (48 + n / 10 / 10) (48 + n / 10 % 10) (48 + n % 10) x.0 (omega arith) (omega arith) (omega arith))))
      ]
      | inr y ↦ (let l : n ≡ 10 * (10 * (10 * (a - 48) + (b - 48)) + (c - 48)) + (d - 48) = omega (arith, f.1, y.0) in
          let m : (49 ≤ a) × (a < 58) × (48 ≤ b) × (b < 58) × (48 ≤ c) × (c < 58) × (48 ≤ d) × (d < 58) = (y.0, y.1, y.2.0.0, y.2.0.1, y.2.1.0.0, y.2.1.0.1, y.2.1.1.0.0, y.2.1.1.0.1) in
          (omega arith, rw (four n (omega arith) (omega arith)) (same-four a b c d (48 + n / 10 / 10 / 10) (48 + n / 10 / 10 % 10) (48 + n / 10 % 10) (48 + n % 10) (omega arith) (omega arith) (omega arith) (omega arith))))
    ]
