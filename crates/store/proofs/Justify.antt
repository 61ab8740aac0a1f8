-- A column written from its last byte on is the number right-justified.
use Rattle.std.proofs.lemmas.Bool.Decides.{nat_tests}
use Rattle.std.proofs.Common.{◌≡◌, ℕ, zero, suc, ◌+◌, ◌-◌, ◌/◌, ◌%◌, ◌^◌, ◌<◌, ◌≤◌, Bool, true, false, cond, ◌&&◌, ltb, List, [], ◌∷◌, ◌++◌, length, replicate, sym, refl, ap, ◌∙◌, ⊎_elim, append_assoc, arith}
use Rattle.std.proofs.lemmas.Bool.{cases_lt}
use Rattle.std.proofs.lemmas.List.{length_push, replicate_more}
use Rattle.std.proofs.lemmas.Fmt.{decimal_digit, decimal_step, decimal_nonempty}
use Rattle.std.proofs.Math.Bool.{and-true}
use Rattle.store.specs.Rendering.{justified}
use Rattle.store.specs.Spelling.{spelled, filled}

-- a column: its last byte is a digit in any case
abbrev columns : ℕ → ℕ → Bool → List ℕ
columns zero n minus = []
columns (suc w) n minus = filled w (n / 10) minus ++ (48 + n % 10) ∷ []

filled-columns : (w n : ℕ) (minus : Bool) → 0 < n → filled w n minus ≡ columns w n minus
filled-columns zero n minus h = refl
filled-columns (suc w) n minus h =
    let p : ltb 0 n ≡ true = grind (arith, nat_tests) in
    ap (λ b. filled w (n / 10) (minus && b) ++ cond b (48 + n % 10) (cond minus 45 32) ∷ []) p ∙ ap (λ m. filled w (n / 10) m ++ (48 + n % 10) ∷ []) (and-true minus)

filled-blanks : (k : ℕ) → filled k 0 false ≡ replicate k 32
filled-blanks zero = refl
filled-blanks (suc k) = ap (λ t. t ++ 32 ∷ []) (filled-blanks k) ∙ replicate_more k 32 ∙ (let e : k + 1 ≡ suc k = omega arith in ap (λ t. replicate t 32) e)

-- one digit more
spelled_step : (n : ℕ) (minus : Bool) → 10 ≤ n → n < 2 ^ 64 → spelled n minus ≡ spelled (n / 10) minus ++ (48 + n % 10) ∷ []
spelled_step n true h l = ap (λ t. 45 ∷ t) (decimal_step n h l)
spelled_step n false h l = decimal_step n h l

spelled-some : (n : ℕ) (minus : Bool) → n < 2 ^ 64 → 0 < length (spelled n minus)
spelled-some n true l = omega arith
spelled-some n false l = decimal_nonempty n l

one-digit : (w n : ℕ) (minus : Bool) → n < 10 → length (spelled n minus) ≤ suc w → columns (suc w) n minus ≡ justified (suc w) (spelled n minus)
one-digit w n minus l h =
    let q : n / 10 ≡ 0 = omega arith in
    let m : n % 10 ≡ n = omega arith in
    ap (λ t. filled w t minus ++ (48 + n % 10) ∷ []) q ∙ ap (λ t. filled w 0 minus ++ (48 + t) ∷ []) m ∙ go w minus h
  where
    go : (w : ℕ) (minus : Bool) → length (spelled n minus) ≤ suc w → filled w 0 minus ++ (48 + n) ∷ [] ≡ justified (suc w) (spelled n minus)
    go w false h =
        ap (λ t. t ++ (48 + n) ∷ []) (filled-blanks w) ∙ sym (ap (λ t. replicate (suc w - length t) 32 ++ t) (decimal_digit n l) ∙ (let e : suc w - 1 ≡ w = omega arith in ap (λ t. replicate t 32 ++ (48 + n) ∷ []) e))
    go zero true h = absurd (omega (arith, ap length (decimal_digit n l)))
    go (suc w) true h =
        ap (λ t. (t ++ 45 ∷ []) ++ (48 + n) ∷ []) (filled-blanks w) ∙ append_assoc (replicate w 32) (45 ∷ []) ((48 + n) ∷ []) ∙ sym (ap (λ t. replicate (suc (suc w) - length (45 ∷ t)) 32 ++ (45 ∷ t)) (decimal_digit n l) ∙ (let e : suc (suc w) - 2 ≡ w = omega arith in ap (λ t. replicate t 32 ++ 45 ∷ (48 + n) ∷ []) e))

columns-justified : (w n : ℕ) (minus : Bool) → n < 2 ^ 64 → length (spelled n minus) ≤ w → columns w n minus ≡ justified w (spelled n minus)
columns-justified zero n minus l h = absurd (omega (arith, spelled-some n minus l))
columns-justified (suc w) n minus l h =
    ⊎_elim
    (λ (s : n < 10). one-digit w n minus s h)
    (λ (b : 10 ≤ n). more (columns-justified w (n / 10) minus) b)
    (cases_lt n 10)
  where
    more : (n / 10 < 2 ^ 64 → length (spelled (n / 10) minus) ≤ w → columns w (n / 10) minus ≡ justified w (spelled (n / 10) minus)) → 10 ≤ n → columns (suc w) n minus ≡ justified (suc w) (spelled n minus)
    more ih b =
        let s : spelled n minus ≡ spelled (n / 10) minus ++ (48 + n % 10) ∷ [] = spelled_step n minus b l in
        let k : length (spelled n minus) ≡ length (spelled (n / 10) minus) + 1 = ap length s ∙ length_push (spelled (n / 10) minus) (48 + n % 10) in
        let d : w - length (spelled (n / 10) minus) ≡ suc w - length (spelled n minus) = omega arith in
        ap (λ t. t ++ (48 + n % 10) ∷ []) (filled-columns w (n / 10) minus (omega arith) ∙ ih (omega arith) (omega arith))
        ∙ append_assoc (replicate (w - length (spelled (n / 10) minus)) 32) (spelled (n / 10) minus) ((48 + n % 10) ∷ [])
        ∙ ap (λ t. replicate t 32 ++ (spelled (n / 10) minus ++ (48 + n % 10) ∷ [])) d
        ∙ ap (λ t. replicate (suc w - length (spelled n minus)) 32 ++ t) (sym s)

-- the last byte is a digit, and those before it are filled
pub last_digit : (w n : ℕ) (minus : Bool) → n < 2 ^ 64 → length (spelled n minus) ≤ suc w → filled w (n / 10) minus ++ (48 + n % 10) ∷ [] ≡ justified (suc w) (spelled n minus)
last_digit w n minus l h = columns-justified (suc w) n minus l h
