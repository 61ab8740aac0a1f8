-- The numbers 1 .. n, as `1..=n` gives them, counted by a test and added up by a function.
-- Assumes nothing.
use Rattle.std.proofs.Common.{◌≡◌, ℕ, zero, suc, ◌+◌, ◌-◌, Bool, false, cond, map, sym, refl, ap, ◌∙◌, ap₂, add-one, one-add, subst, arith}
use Rattle.std.proofs.lemmas.List.FromFn.{sum_by-map-range_with_len_more}
use Rattle.std.proofs.lemmas.List.Sums.{sum-map}
use Rattle.std.proofs.iter.runs.Sources.{nat_range_inclusive_steps}
use Rattle.std.proofs.lemmas.Iterator.{YieldsList}
use Rattle.std.specs.List.{range_with_len, sum_by}
use Rattle.std.specs.Range.{range_inclusive_start, range_inclusive_end, range_inclusive_exhausted, range_inclusive_len}
use Rattle.std.specs.declared.ops.RangeInclusive.{RangeInclusive}
use Rattle.encoding.specs.Ranges.{count, total}
use Rattle.table.proofs.Lowest.{gives_numbers}

pub gives-up-to : (n : ℕ) (s : RangeInclusive ℕ) → range_inclusive_start s ≡ 1 → range_inclusive_end s ≡ n → range_inclusive_exhausted s ≡ false → YieldsList nat_range_inclusive_steps (λ x. x) s (range_with_len 1 n)
gives-up-to n s from to fresh =
    let e : range_inclusive_len (λ x y. y - x) (range_inclusive_start s) (range_inclusive_end s) (range_inclusive_exhausted s) ≡ n = omega (arith, ap (range_inclusive_len (λ x y. y - x) (range_inclusive_start s) (range_inclusive_end s)) fresh) in
    subst (YieldsList nat_range_inclusive_steps (λ x. x) s) (ap₂ range_with_len from e) (gives_numbers s)

pub sum-numbers : (n : ℕ) (f : ℕ → ℕ) → sum_by f (range_with_len 1 n) ≡ total n f
unfolding total
sum-numbers zero f = refl
sum-numbers (suc n) f =
    sym (sum-map f (range_with_len 1 (suc n)))
    ∙ ap (λ m. sum_by (λ x. x) (map f (range_with_len 1 m))) (sym (add-one n))
    ∙ sum_by-map-range_with_len_more (λ x. x) f 1 n (suc n) (one-add n)
    ∙ ap (λ x. x + f (suc n)) (sum-map f (range_with_len 1 n) ∙ sum-numbers n f)

count-total : (n : ℕ) (f : ℕ → Bool) → total n (λ i. cond (f i) 1 0) ≡ count n f
unfolding total count
count-total zero f = refl
count-total (suc n) f = ap (λ x. x + cond (f (suc n)) 1 0) (count-total n f)

pub count-numbers : (n : ℕ) (f : ℕ → Bool) → sum_by (λ i. cond (f i) 1 0) (range_with_len 1 n) ≡ count n f
count-numbers n f = sum-numbers n (λ i. cond (f i) 1 0) ∙ count-total n f
