-- The clauses of a table's families, moved to any step within the limits, name variables that a clause may name.
-- Assumes nothing.
use Rattle.std.proofs.Common.{ℕ, suc, ◌*◌, ◌<◌, ◌≤◌, List, ◌++◌, ap, subst, arith, ◌∙◌}
use Rattle.std.specs.List.{AllByRecursion}
use Rattle.encoding.specs.Clauses.{Literal, agenda, goal, kept, numbered, start, step, truth}
use Rattle.encoding.specs.Limits.{step_limit}
use Rattle.encoding.specs.Ranges.{each}
use Rattle.encoding.specs.Tables.{Table}
use Rattle.encoding.specs.Theorem.{Small}
use Rattle.encoding.specs.Variables.{step_size}
use Rattle.encoding.proofs.Bounds.{bounded}
use Rattle.encoding.proofs.Emitting.{formula-is, numbered-append}
use Rattle.encoding.proofs.Ranges.{all-each, all_left, all_right}
use Rattle.encoding.proofs.Unrolling.{agenda-plus, goal-plus, kept-plus, plus_none, truth-plus}
use Rattle.formula.specs.Listings.{InLimits, shifted}

abbrev All : List (List (Literal ℕ)) → Type 0
All = AllByRecursion (AllByRecursion InLimits)

module _ (T : Table) (small : Small T) where
  whole : (n : ℕ) → n ≤ step_limit → All (numbered T (start T) ++ each n (λ t. numbered T (step T t)) ++ numbered T (goal T n))
  whole n l = subst All (formula-is T n) (bounded.literals_fit T n small l)

  before : (n : ℕ) → n ≤ step_limit → All (numbered T (start T) ++ each n (λ t. numbered T (step T t)))
  before n l = all_left (AllByRecursion InLimits) _ (numbered T (goal T n)) (whole n l)

  pub start-lawful : All (shifted 0 (numbered T (start T)))
  start-lawful = subst All (plus_none 0 _ (λ i. 0)) (all_left (AllByRecursion InLimits) (numbered T (start T)) (each 0 (λ t. numbered T (step T t))) (before 0 (omega arith)))

  pub goal-lawful : (n : ℕ) → n ≤ step_limit → All (shifted (n * step_size T) (numbered T (goal T 0)))
  goal-lawful n l = subst All (goal-plus T n) (all_right (AllByRecursion InLimits) (numbered T (start T) ++ each n (λ t. numbered T (step T t))) (numbered T (goal T n)) (whole n l))

  in-step : (s : ℕ) → s < step_limit → All ((numbered T (agenda T s) ++ numbered T (kept T s)) ++ numbered T (truth T s))
  unfolding step
  in-step s l =
      let h = all-each (AllByRecursion InLimits) step_limit (λ t. numbered T (step T t)) (all_right (AllByRecursion InLimits) (numbered T (start T)) _ (before step_limit (omega arith))) in
      subst All (numbered-append T (agenda T s ++ kept T s) (truth T s) ∙ ap (λ cs. cs ++ numbered T (truth T s)) (numbered-append T (agenda T s) (kept T s)))
      (h (suc s) (omega arith) (omega arith))

  pub agenda-lawful : (s : ℕ) → s < step_limit → All (shifted (s * step_size T) (numbered T (agenda T 0)))
  agenda-lawful s l = subst All (agenda-plus T s) (all_left (AllByRecursion InLimits) (numbered T (agenda T s)) (numbered T (kept T s)) (all_left (AllByRecursion InLimits) (numbered T (agenda T s) ++ numbered T (kept T s)) _ (in-step s l)))

  pub kept-lawful : (s : ℕ) → s < step_limit → All (shifted (s * step_size T) (numbered T (kept T 0)))
  kept-lawful s l = subst All (kept-plus T s) (all_right (AllByRecursion InLimits) (numbered T (agenda T s)) (numbered T (kept T s)) (all_left (AllByRecursion InLimits) (numbered T (agenda T s) ++ numbered T (kept T s)) _ (in-step s l)))

  pub truth-lawful : (s : ℕ) → s < step_limit → All (shifted (s * step_size T) (numbered T (truth T 0)))
  truth-lawful s l = subst All (truth-plus T s) (all_right (AllByRecursion InLimits) (numbered T (agenda T s) ++ numbered T (kept T s)) (numbered T (truth T s)) (in-step s l))
