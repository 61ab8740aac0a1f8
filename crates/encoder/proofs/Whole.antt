-- The whole list: its limits, its counts and its price, from the template of its table.
-- Assumes nothing.
use Rattle.std.proofs.Common.{◌≡◌, ℕ, ◌+◌, ◌*◌, ◌<◌, ◌≤◌, cond, eqb, List, [], ◌∷◌, ◌++◌, map, length, ℤ, Ok, Err, Result, sym, refl, ap, ◌∙◌, ap₂, arith}
use lib.ListN.{length-map}
use Rattle.std.proofs.lemmas.List.Sums.{sum_by-append, sum_by-cons}
use Rattle.std.proofs.lemmas.Bool.Decides.{nat_tests}
use Rattle.encoding.specs.Clauses.{agenda, formula, goal, kept, rename, signed, signed_formula, start, step, truth}
use Rattle.encoding.specs.Counts.{of_length, ones, price, threes, twos}
use Rattle.encoding.specs.Limits.{step_limit}
use Rattle.encoding.specs.Ranges.{count}
use Rattle.encoding.specs.Tables.{Table}
use Rattle.encoding.specs.Variables.{number}
use Rattle.encoding.proofs.Counting.{counted, price-map, tally-goal, tally-start, tally-step}
use Rattle.store.specs.Clauses.{Prices, cost, price_of}
use Rattle.formula.specs.declared.template.Family.TheVariants.{Start, Goal}
use Rattle.formula.specs.declared.template.Template.{Template}
use Rattle.formula.specs.Templates.{Templated, said, unrolled}
use Rattle.formula.proofs.Unrolling.{unrolled-is}
use Rattle.encoder.specs.declared.faults.EmitFault.{EmitFault}
use Rattle.encoder.specs.declared.faults.EmitFault.TheVariants.{PriceExceedsFree}
use Rattle.encoder.specs.Emission.{emit_answer}
use Rattle.encoder.specs.Puts.{in_step, signs}

price-of : (p : Prices) (cs : List (List ℤ)) → price_of p cs ≡ price (cost p) cs
price-of p [] = refl
price-of p (c ∷ cs) = ap (λ n. cost p (length c) + n) (price-of p cs) ∙ sym (sum_by-cons (λ c. cost p (length c)) c cs)

module _ (T : Table) (t : Template) (h : Templated T t) where
  pub list-is : (n : ℕ) → signs (unrolled t n) ≡ signed_formula T n
  list-is n = ap signs (unrolled-is T t h n)

  -- how many clauses of each length
  pub ones-are : of_length 1 (said t Start) + of_length 1 (said t Goal) ≡ ones T
  unfolding ones
  ones-are =
      let k = λ (j : ℕ). cond (eqb j 1) 1 0 in
      let a : of_length 1 (said t Start) ≡ T.facts + T.actions = ap (of_length 1) h.start ∙ price-map k (rename (number T)) (start T) ∙ tally-start T k ∙ omega arith in
      let b : of_length 1 (said t Goal) ≡ count T.facts T.goal + T.actions = ap (of_length 1) h.goal ∙ price-map k (rename (number T)) (goal T 0) ∙ tally-goal T 0 k ∙ omega arith in
      omega arith

  in_step_lem : (k : ℕ) → in_step t k ≡ of_length k (step T 1)
  unfolding step
  in_step_lem k =
      let c = λ (j : ℕ). cond (eqb j k) 1 0 in
      let a = ap (of_length k) h.agenda ∙ price-map c (rename (number T)) (agenda T 0) in
      let b = ap (of_length k) h.kept ∙ price-map c (rename (number T)) (kept T 0) in
      let d = ap (of_length k) h.truth ∙ price-map c (rename (number T)) (truth T 0) in
      ap₂ ◌+◌ (ap₂ ◌+◌ a b) d
      ∙ sym (sum_by-append (λ c. cond (eqb (length c) k) 1 0) (agenda T 0 ++ kept T 0) (truth T 0) ∙ ap (λ n. n + of_length k (truth T 0)) (sum_by-append (λ c. cond (eqb (length c) k) 1 0) (agenda T 0) (kept T 0)))

  pub twos-are : in_step t 2 ≡ twos T
  twos-are = in_step_lem 2 ∙ tally-step T 0 (λ (j : ℕ). cond (eqb j 2) 1 0) ∙ omega arith

  pub threes-are : in_step t 3 ≡ threes T
  threes-are = in_step_lem 3 ∙ tally-step T 0 (λ (j : ℕ). cond (eqb j 3) 1 0) ∙ omega arith

-- the price and the length of the list, by these counts
pub price-is : (T : Table) (n : ℕ) (p : Prices) (a b c r : ℕ) → a ≡ ones T → b ≡ twos T → c ≡ threes T → r ≡ a * p.one + n * b * p.two + n * c * p.three → r ≡ price_of p (signed_formula T n)
price-is T n p a b c r e f g h = h ∙ (rw (e, f, g) refl) ∙ sym (price-of p (signed_formula T n) ∙ counted.priced T n (cost p))

pub length-is : (T : Table) (n a b c r : ℕ) → a ≡ ones T → b ≡ twos T → c ≡ threes T → r ≡ a + n * b + n * c → r ≡ length (signed_formula T n)
length-is T n a b c r e f g h = h ∙ (rw (e, f, g) refl) ∙ sym (length-map (formula T n) (map signed) ∙ counted.all T n)

-- the answers at a number of steps within the limits
pub answer-dear : (T : Table) (n : ℕ) (p : Prices) (free : ℕ) → 1 ≤ n → n ≤ step_limit → free < price_of p (signed_formula T n) → ◌≡◌ {A = Result ℕ EmitFault} (Err PriceExceedsFree) (emit_answer T n p free)
answer-dear T n p free l h d = grind (arith, nat_tests)

pub answer-count : (T : Table) (n : ℕ) (p : Prices) (free r : ℕ) → 1 ≤ n → n ≤ step_limit → price_of p (signed_formula T n) ≤ free → r ≡ length (signed_formula T n) → ◌≡◌ {A = Result ℕ EmitFault} (Ok r) (emit_answer T n p free)
answer-count T n p free r l h d e = grind (arith, nat_tests)
