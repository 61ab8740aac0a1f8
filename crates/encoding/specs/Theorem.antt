-- What the clauses mean: exactly the valid plans, each with exactly the values of its run.
-- Assumes nothing.
use Rattle.std.specs.Prelude.{◌≡◌, ℕ, suc, ◌+◌, ◌*◌, ◌≤◌, Bool, ◌≢◌, ◌↔◌, map, length, Some, None}
use Rattle.std.specs.List.{AllByRecursion}
use Rattle.encoding.specs.Ranges.{Each, up_to}
use Rattle.encoding.specs.Tables.{Table}
use Rattle.encoding.specs.Plans.{Plan, Valid}
use Rattle.encoding.specs.Limits.{fact_limit, action_limit, step_limit, pair_limit, variable_limit, literal_limit}
use Rattle.encoding.specs.Variables.{pairs, step_size, variables, number, vars}
use Rattle.encoding.specs.Clauses.{Satisfies, variable, step, rename, numbered, formula, signed_formula}
use Rattle.encoding.specs.Labels.{unlabelled, labelled, Label, first_false, FirstFalse}
use Rattle.encoding.specs.Counts.{of_length, price, ones, twos, threes}
use Rattle.encoding.specs.Values.{values, assignment, plan_of}

-- An assignment that satisfies the clauses says a valid plan
abbrev pub Sound : Type 0
Sound = (T : Table) (n : ℕ) (σ : ℕ → Bool) → Satisfies σ (formula T n) → Valid T n (plan_of T n σ)

-- A valid plan's values are an assignment that satisfies the clauses and says that plan
abbrev pub Complete : Type 0
Complete = (T : Table) (n : ℕ) (π : Plan) → Valid T n π → Satisfies (assignment (values T n π)) (formula T n) × (plan_of T n (assignment (values T n π)) ≡ π)

-- An assignment that satisfies the clauses and says a plan has that plan's values, at each of the variables 1 .. N
abbrev pub Unique : Type 0
Unique = (T : Table) (n : ℕ) (σ : ℕ → Bool) (π : Plan) → Satisfies σ (formula T n) → plan_of T n σ ≡ π → Each (variables T n) (λ i. σ i ≡ assignment (values T n π) i)

-- Each literal's variable is one of 1 .. N
abbrev pub Within : Type 0
Within = (T : Table) (n : ℕ) → AllByRecursion (AllByRecursion (λ l. (1 ≤ variable l) × (variable l ≤ variables T n))) (formula T n)

-- So nothing but the values of 1 .. N matters to the clauses, nor to the plan that is said
abbrev pub Local : Type 0
Local = (T : Table) (n : ℕ) (σ τ : ℕ → Bool) → Each (variables T n) (λ i. σ i ≡ τ i) → (Satisfies σ (formula T n) → Satisfies τ (formula T n)) × (plan_of T n σ ≡ plan_of T n τ)

-- All in one: what satisfies the clauses and says a valid plan is exactly what has that plan's values
abbrev pub Exact : Type 0
Exact = (T : Table) (n : ℕ) (π : Plan) (σ : ℕ → Bool) → Valid T n π → (Satisfies σ (formula T n) × (plan_of T n σ ≡ π)) ↔ Each (variables T n) (λ i. σ i ≡ assignment (values T n π) i)

pub record Encodes : Type 0 where
  pub sound : Sound
  pub complete : Complete
  pub unique : Unique
  pub within : Within
  pub local : Local
  pub exact : Exact

-- The numbers of the variables of n steps are 1 .. N, in order, so each number is that of exactly one; and a plan gives each a value
abbrev pub Numbered : Type 0
Numbered = (T : Table) (n : ℕ) → (map (number T) (vars T n) ≡ up_to (variables T n)) × ((π : Plan) → length (values T n π) ≡ variables T n)

-- Within the limits of a cell: its pairs, its variables and what its literals name
abbrev pub Small : Table → Type 0
Small T = (T.facts ≤ fact_limit) × (T.actions ≤ action_limit)

pub record Bounded : Type 0 where
  pub pairs_fit : (T : Table) → Small T → pairs T ≤ pair_limit
  pub variables_fit : (T : Table) (n : ℕ) → Small T → n ≤ step_limit → variables T n ≤ variable_limit
  pub literals_fit : (T : Table) (n : ℕ) → Small T → n ≤ step_limit → AllByRecursion (AllByRecursion (λ l. (1 ≤ variable l) × (variable l ≤ literal_limit))) (formula T n)

-- The labelled list is the clause list with labels. No clause of it is false exactly when the clauses are satisfied;
-- otherwise the first false one is found, with its place, family and step
pub record Labels : Type 0 where
  pub same : (T : Table) (n : ℕ) → unlabelled (labelled T n) ≡ formula T n
  pub lawful : (T : Table) (n : ℕ) → AllByRecursion (λ l. Label n l.family l.step) (labelled T n)
  pub none : (T : Table) (n : ℕ) (σ : ℕ → Bool) → (first_false σ 1 (labelled T n) ≡ None) ↔ Satisfies σ (formula T n)
  pub first : (T : Table) (n : ℕ) (σ : ℕ → Bool) (k f t : ℕ) → (first_false σ 1 (labelled T n) ≡ Some (k, f, t)) ↔ FirstFalse σ (labelled T n) k f t

-- The clauses of one, two and three literals are as many as `Counts` says, and there are no others
pub record Counted : Type 0 where
  pub one : (T : Table) (n : ℕ) → of_length 1 (formula T n) ≡ ones T
  pub two : (T : Table) (n : ℕ) → of_length 2 (formula T n) ≡ n * twos T
  pub three : (T : Table) (n : ℕ) → of_length 3 (formula T n) ≡ n * threes T
  pub others : (T : Table) (n k : ℕ) → k ≢ 1 → k ≢ 2 → k ≢ 3 → of_length k (formula T n) ≡ 0
  pub lengths : (T : Table) (n : ℕ) → AllByRecursion (λ c. (1 ≤ length c) × (length c ≤ 3)) (formula T n)
  pub all : (T : Table) (n : ℕ) → length (formula T n) ≡ ones T + n * twos T + n * threes T
  -- so this is the price of the whole list, as signed numbers
  pub priced : (T : Table) (n : ℕ) (cost : ℕ → ℕ) → price cost (signed_formula T n) ≡ ones T * cost 1 + n * twos T * cost 2 + n * threes T * cost 3

-- The clauses of a step are those of the step before with S added to each variable
abbrev pub Shifted : Type 0
Shifted = (T : Table) (t : ℕ) → 1 ≤ t → numbered T (step T (suc t)) ≡ map (map (rename (λ v. v + step_size T))) (numbered T (step T t))
