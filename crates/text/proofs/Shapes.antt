-- The columns of a number as a language: blanks, then digits, the first of which is no 0, but for a lone 0 in the last column.
use Rattle.std.proofs.Common.{◌≡◌, ℕ, zero, suc, ◌+◌, ◌-◌, ◌*◌, ◌<◌, ◌≤◌, ◌⊎◌, List, [], ◌∷◌}

abbrev pub Digit : ℕ → Type 0
Digit b = (48 ≤ b) × (b < 58)

-- exactly j digits
abbrev pub DigitRun : ℕ → List ℕ → Type 0
DigitRun zero [] = Unit {0}
DigitRun zero (b ∷ bs) = ⊥
DigitRun (suc j) [] = ⊥
DigitRun (suc j) (b ∷ bs) = Digit b × DigitRun j bs

abbrev pub Justified : ℕ → List ℕ → Type 0
Justified zero s = ⊥
Justified (suc j) [] = ⊥
Justified (suc zero) (b ∷ bs) = Digit b × DigitRun 0 bs
Justified (suc (suc j)) (b ∷ bs) = ((b ≡ 32) × Justified (suc j) bs) ⊎ ((49 ≤ b) × (b < 58) × DigitRun (suc j) bs)

-- the number that blanks and digits stand for
abbrev pub value_from : ℕ → List ℕ → ℕ
value_from v [] = v
value_from v (b ∷ bs) = value_from (10 * v + (b - 48)) bs

abbrev pub Field : List ℕ → ℕ → Type 0
Field s n = Justified 4 s × (n ≡ value_from 0 s)
