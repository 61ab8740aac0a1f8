-- The reader of a field answers its number, or the place of the first bad byte.
use Rattle.std.proofs.Common.{◌≡◌, ℕ, zero, suc, ◌+◌, ◌-◌, ◌*◌, ◌<◌, ◌≤◌, ◌⊎◌, List, [], ◌∷◌, length, take, Some, None, Ok, Err, Result, sym, refl, ap, ◌∙◌, subst, inl, inr, zero-add, arith, lit<, lit≤, MatchResult}
use Rattle.std.proofs.lemmas.Bool.Decides.{nat_tests}
use Rattle.std.proofs.lemmas.Bool.{cases_eq, cases_lt}
use Rattle.std.proofs.lemmas.Result.{MatchResult-weaker}
use Rattle.text.specs.Columns.{read_on, column}
use Rattle.text.proofs.Shapes.{Digit, DigitRun, Justified, value_from}
use Rattle.text.specs.Texts.{Viable, FirstBad, Any, Stuck}
use Rattle.text.specs.Numbers.{Number}
use Rattle.text.proofs.Render.{field_of, printed-of}
use Rattle.std.proofs.lemmas.List.{length-take}
use Rattle.text.proofs.Bad.{bad-step, bad-here, bad-end, bad-same}

-- each language has a text
pub some-digits : (j : ℕ) → Viable (DigitRun j) []
some-digits zero = ([], tt)
some-digits (suc j) = (48 ∷ (some-digits j).0, ((lit≤ tt, lit< tt), (some-digits j).1))

pub some_number : (j : ℕ) → Viable (Justified (suc j)) []
some_number zero = (48 ∷ [], ((lit≤ tt, lit< tt), tt))
some_number (suc j) = (32 ∷ (some_number j).0, inl (refl, (some_number j).1))

abbrev Good : (List ℕ → Type 0) → ℕ → ℕ → List ℕ → ℕ → Type 0
Good L j v s n = L (take j s) × (n ≡ value_from v (take j s))

abbrev Bad : (List ℕ → Type 0) → ℕ → ℕ → List ℕ → ℕ → Type 0
Bad L j i s e = (k : ℕ) × (e ≡ i + k) × (k < j) × FirstBad L s k

-- what a byte can be
pub byte-kinds : (b : ℕ) → Digit b ⊎ (Digit b → ⊥)
byte-kinds b = elim (cases_lt b 48) [ inl h ↦ inr (λ d. omega arith) | inr g ↦ elim (cases_lt b 58) [ inl h ↦ inl (g, h) | inr h ↦ inr (λ d. omega arith) ] ]

pub digits-law : (j i v : ℕ) (s : List ℕ) → MatchResult (read_on j i (Some v) s) (Good (DigitRun j) j v s) (Bad (DigitRun j) j i s)
digits-law zero i v s = (tt, refl)
digits-law (suc j) i v [] = (0, omega arith, omega arith, bad-end (DigitRun (suc j)) (some-digits (suc j)) (λ h. h))
digits-law (suc j) i v (b ∷ bs) =
    elim (byte-kinds b) [
      | inl d ↦ (
          let e : column i (Some v) b ≡ Ok (Some (10 * v + (b - 48))) = grind (arith, nat_tests) in
          rw e (MatchResult-weaker (read_on j (suc i) (Some (10 * v + (b - 48))) bs) (digits-law j (suc i) (10 * v + (b - 48)) bs)
          (λ n g. ((d, g.0), g.1))
          (λ x g. (suc g.0, omega (arith, g.1), omega (arith, g.2), bad-step (DigitRun (suc j)) b bs g.0 (bad-same (DigitRun j) (λ t. DigitRun (suc j) (b ∷ t)) bs g.0 (λ t h. (d, h)) (λ t h. h.1) g.3)))))
      | inr no_digit ↦ (
          let e : column i (Some v) b ≡ Err i = grind (arith, nat_tests) in
          rw e (0, omega arith, omega arith, bad-here (DigitRun (suc j)) b bs (some-digits (suc j)) (λ q h. no_digit h.0)))
    ]

pub number-law : (j i : ℕ) (s : List ℕ) → i + suc j ≡ 4 → MatchResult (read_on (suc j) i None s) (Good (Justified (suc j)) (suc j) 0 s) (Bad (Justified (suc j)) (suc j) i s)
number-law zero i [] p = (0, omega arith, omega arith, bad-end (Justified 1) (some_number 0) (λ h. h))
number-law (suc j) i [] p = (0, omega arith, omega arith, bad-end (Justified (suc (suc j))) (some_number (suc j)) (λ h. h))
number-law zero i (b ∷ bs) p =
    elim (byte-kinds b) [
      | inl d ↦ (
          let e : column i None b ≡ Ok (Some (b - 48)) = grind (arith, nat_tests) in
          rw e ((d, tt), omega arith))
      | inr no_digit ↦ (
          let e : column i None b ≡ Err i = grind (arith, nat_tests) in
          rw e (0, omega arith, omega arith, bad-here (Justified 1) b bs (some_number 0) (λ q h. no_digit h.0)))
    ]
number-law (suc j) i (b ∷ bs) p =
    elim (cases_eq b 32) [
      | inl x ↦ (
          let e : column i None b ≡ Ok None = grind (arith, nat_tests) in
          rw e (MatchResult-weaker (read_on (suc j) (suc i) None bs) (number-law j (suc i) bs (omega arith))
          (λ n g. (inl (x, g.0), rw x g.1))
          (λ y g. (suc g.0, omega (arith, g.1), omega (arith, g.2), bad-step (Justified (suc (suc j))) b bs g.0 (bad-same (Justified (suc j)) (λ t. Justified (suc (suc j)) (b ∷ t)) bs g.0 (λ t h. inl (x, h)) (λ t h. elim h [ inl z ↦ z.1 | inr z ↦ absurd (omega (arith, z.0, x)) ]) g.3)))))
      | inr no-blank ↦ elim (cases_lt 48 b) [
        | inl low ↦ elim (cases_lt b 58) [
          | inl high ↦ (
              let e : column i None b ≡ Ok (Some (b - 48)) = grind (arith, nat_tests) in
              rw e (MatchResult-weaker (read_on (suc j) (suc i) (Some (b - 48)) bs) (digits-law (suc j) (suc i) (b - 48) bs)
              (λ n g. (inr (low, high, g.0), g.1 ∙ ap (λ v. value_from v (take (suc j) bs)) (sym (zero-add (b - 48)))))
              (λ y g. (suc g.0, omega (arith, g.1), omega (arith, g.2), bad-step (Justified (suc (suc j))) b bs g.0 (bad-same (DigitRun (suc j)) (λ t. Justified (suc (suc j)) (b ∷ t)) bs g.0 (λ t h. inr (low, high, h)) (λ t h. elim h [ inl z ↦ absurd (no-blank z.0) | inr z ↦ z.2 ]) g.3)))))
          | inr high ↦ (
              let e : column i None b ≡ Err i = grind (arith, nat_tests) in
              rw e (0, omega arith, omega arith, bad-here (Justified (suc (suc j))) b bs (some_number (suc j)) (λ q h. elim h [ inl z ↦ no-blank z.0 | inr z ↦ omega (arith, z.1) ])))
        ]
        | inr low ↦ (
            let e : column i None b ≡ Err i = grind (arith, nat_tests) in
            rw e (0, omega arith, omega arith, bad-here (Justified (suc (suc j))) b bs (some_number (suc j)) (λ q h. elim h [ inl z ↦ no-blank z.0 | inr z ↦ omega (arith, z.0) ])))
      ]
    ]

run_long : (j : ℕ) (s : List ℕ) → DigitRun j s → length s ≡ j
run_long zero [] h = refl
run_long zero (b ∷ s) h = absurd h
run_long (suc j) [] h = absurd h
run_long (suc j) (b ∷ s) h = ap suc (run_long j s h.1)

pub number-long : (j : ℕ) (s : List ℕ) → Justified j s → length s ≡ j
number-long zero s h = absurd h
number-long (suc j) [] h = absurd h
number-long (suc zero) (b ∷ s) h = ap suc (run_long 0 s h.1)
number-long (suc (suc j)) (b ∷ s) h = ap suc (elim h [ inl x ↦ number-long (suc j) s x.1 | inr y ↦ run_long (suc j) s y.2 ])

pub field-long : (n : ℕ) (s : List ℕ) → Number n s → length s ≡ 4
field-long n s h = number-long 4 s (let P : List ℕ → Type 0 = λ t. Justified 4 t in subst P (sym h.1) (field_of n h.0).0)

short-take : (k : ℕ) (s : List ℕ) → length (take k s) ≤ k
short-take k s = rw length-take (omega arith)

pub number-stuck : (s : List ℕ) (k : ℕ) → k < 4 → FirstBad (Justified 4) s k → Stuck (Any Number) s k
number-stuck s k h bad = (
  bad-same (Justified 4) (Any Number) s k (λ t l. (value_from 0 t, printed-of t (value_from 0 t) (l, refl))) (λ t l. let P : List ℕ → Type 0 = λ t. Justified 4 t in subst P (sym l.1.1) (field_of l.0 l.1.0).0) bad,
  (λ l. omega (arith, field-long l.0 (take k s) l.1, short-take k s)),
)

pub field-law : (s : List ℕ) (r : Result ℕ ℕ) → r ≡ read_on 4 0 None s → MatchResult r (λ n. Number n (take 4 s)) (λ k. Stuck (Any Number) s k)
field-law s r e =
    rw e (MatchResult-weaker (read_on 4 0 None s) (number-law 3 0 s refl) (λ n g. printed-of (take 4 s) n g)
    (λ x g. let p : g.0 ≡ x = omega (arith, g.1) in rw (← p) (number-stuck s g.0 g.2 g.3)))
