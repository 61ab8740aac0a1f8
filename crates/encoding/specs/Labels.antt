-- The clause list with, for each clause, its family and its step; and the first clause that is false under an assignment.
-- Assumes nothing.
use Rattle.std.specs.Prelude.{◌≡◌, ℕ, zero, suc, ◌+◌, ◌≤◌, Bool, false, cond, ◌⊎◌, List, [], ◌∷◌, ◌++◌, map, length, Some, None, Option}
use Rattle.encoding.specs.Ranges.{each}
use Rattle.encoding.specs.Tables.{Table}
use Rattle.encoding.specs.Clauses.{Literal, Clause, clause_holds, Satisfies, start, agenda, kept, truth, goal, numbered}

-- A clause over numbers, its family 1 .. 5 and its step: 0 in family 1, t in families 2, 3 and 4 of step t, n in family 5
pub record Labelled : Type 0 where
  pub family : ℕ
  pub step : ℕ
  pub clause : List (Literal ℕ)

abbrev pub unlabelled : List Labelled → List (List (Literal ℕ))
unlabelled ls = map (λ l. l.clause) ls

abbrev pub label : Table → (family step : ℕ) → List Clause → List Labelled
label T k t cs = map (λ c. record { family = k; step = t; clause = c }) (numbered T cs)

-- what a label of n steps may be
abbrev pub Label : (n family step : ℕ) → Type 0
Label n k t = ((k ≡ 1) × (t ≡ 0)) ⊎ ((2 ≤ k) × (k ≤ 4) × (1 ≤ t) × (t ≤ n)) ⊎ ((k ≡ 5) × (t ≡ n))

-- those of step t, from step 1 on
unfoldable pub labelled_step : Table → ℕ → List Labelled
labelled_step T zero = []
labelled_step T (suc s) = label T 2 (suc s) (agenda T s) ++ label T 3 (suc s) (kept T s) ++ label T 4 (suc s) (truth T s)

-- those of n steps
unfoldable pub labelled : Table → ℕ → List Labelled
labelled T n = label T 1 0 (start T) ++ each n (labelled_step T) ++ label T 5 n (goal T n)

-- The place, the family and the step of the first false clause, where the list's first clause has place k
unfoldable pub first_false : (ℕ → Bool) → ℕ → List Labelled → Option (ℕ × ℕ × ℕ)
first_false σ k [] = None
first_false σ k (l ∷ ls) = cond (clause_holds σ l.clause) (first_false σ (suc k) ls) (Some (k, l.family, l.step))

-- Clause k of a list, counted from 1, is false, and all before it hold
pub record FirstFalse (σ : ℕ → Bool) (ls : List Labelled) (k family step : ℕ) : Type 0 where
  pub past : List Labelled
  pub found : List (Literal ℕ)
  pub rest : List Labelled
  pub cut : ls ≡ past ++ record { family = family; step = step; clause = found } ∷ rest
  pub place : k ≡ length past + 1
  pub hold : Satisfies σ (unlabelled past)
  pub broken : clause_holds σ found ≡ false
