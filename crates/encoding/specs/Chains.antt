-- The truth clauses of a fact once more, by arithmetic alone, as a loop writes them: the variable that a value is handed on to is found
-- by counting, with no search for the next relevant event. proofs/Emitting.antt has that they are those of `Clauses`.
-- Assumes nothing.
use Rattle.std.specs.Prelude.{ℕ, ◌+◌, cond, List, ◌++◌, nat_lt}
use Rattle.encoding.specs.Ranges.{each, count, only}
use Rattle.encoding.specs.Tables.{Table, events, requires, relevant}
use Rattle.encoding.specs.Variables.{width, pairs}
use Rattle.encoding.specs.Clauses.{Literal, same, turn}

-- base is how many variables come before those of the step, before how many relevant pairs come before those of fact p
module _ (T : Table) (p base before : ℕ) where
  -- where c relevant events are past: the V of the next, or X
  abbrev pub next_at : ℕ → ℕ
  next_at c = cond (nat_lt c (width T p)) (base + events T + (before + c + 1)) (base + events T + pairs T + p)

  -- of event e, the c-th that is relevant
  abbrev pub turn_at : ℕ → ℕ → List (List (Literal ℕ))
  turn_at e c = only (relevant T e p) (turn (requires T e p) (T.adds e p) (T.deletes e p) (base + e) (base + events T + (before + c)) (next_at c))

  -- of the fact, with x its value's variable before the step
  abbrev pub truth_at : ℕ → List (List (Literal ℕ))
  truth_at x = same x (next_at 0) ++ each (events T) (λ e. turn_at e (count e (λ d. relevant T d p)))
