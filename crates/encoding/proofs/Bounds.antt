-- The numbers of pairs and of variables within the limits.
-- Assumes nothing.
use Rattle.std.proofs.Common.{ℕ, zero, suc, ◌+◌, ◌*◌, ◌≤◌, suc-mul, mul-le-mul, arith}
use Rattle.std.specs.List.{AllByRecursion}
use Rattle.std.proofs.ByRecursion.{All-weaker}
use Rattle.encoding.specs.Ranges.{Each, total}
use Rattle.encoding.specs.Tables.{Table, events, relevant}
use Rattle.encoding.specs.Limits.{literal_limit, pair_limit, step_limit, variable_limit}
use Rattle.encoding.specs.Variables.{pairs, step_size, variables, width}
use Rattle.encoding.specs.Clauses.{formula, variable}
use Rattle.encoding.specs.Theorem.{Bounded, Small}
use Rattle.encoding.proofs.Ranges.{count-le}
use Rattle.encoding.proofs.Whole.{within}

total-le : (m n : ℕ) (f : ℕ → ℕ) → Each n (λ i. f i ≤ m) → total n f ≤ n * m
unfolding total
total-le m zero f h = omega arith
total-le m (suc n) f h = let k = total-le m n f (λ i u v. h i u (omega arith)) in let l = h (suc n) (omega arith) (omega arith) in rw suc-mul (omega arith)

pairs-le : (T : Table) → pairs T ≤ T.facts * events T
unfolding pairs width
pairs-le T = total-le (events T) T.facts (width T) (λ p u v. count-le (events T) (λ e. relevant T e p))

pairs-within : (T : Table) → Small T → pairs T ≤ pair_limit
pairs-within T h =
    let e : events T ≤ 32 = omega arith in
    let m : T.facts * events T ≤ 32 * 32 = mul-le-mul h.0 e in
    let p = pairs-le T in
    omega arith

variables-within : (T : Table) (n : ℕ) → Small T → n ≤ step_limit → variables T n ≤ variable_limit
unfolding variables step_size
variables-within T n h l =
    let p = pairs-within T h in
    let s : T.facts + 3 * T.actions + pairs T ≤ 1104 = omega arith in
    let k : n * (T.facts + 3 * T.actions + pairs T) ≤ 64 * 1104 = mul-le-mul l s in
    omega arith

pub bounded : Bounded
bounded = record {
  pairs_fit = pairs-within;
  variables_fit = variables-within;
  literals_fit = λ T n h l. All-weaker (AllByRecursion (λ x. (1 ≤ variable x) × (variable x ≤ variables T n))) (AllByRecursion (λ x. (1 ≤ variable x) × (variable x ≤ literal_limit)))
      (All-weaker (λ x. (1 ≤ variable x) × (variable x ≤ variables T n)) (λ x. (1 ≤ variable x) × (variable x ≤ literal_limit)) (λ x k. let m = variables-within T n h l in (k.0, omega arith))) (formula T n) (within T n);
}
