-- A plan's values once more, turn by turn, as a loop works them out. Nothing here says what the values are: `Values` does,
-- and proofs/Tracing.antt has that both agree.
-- Assumes nothing.
use Rattle.std.specs.Prelude.{ℕ, zero, suc, ◌-◌, Bool, false, cond, List, [], ◌∷◌, ◌++◌}
use Rattle.encoding.specs.Ranges.{each, only}
use Rattle.encoding.specs.Tables.{Table, events, relevant}
use Rattle.encoding.specs.Plans.{State, after, initially}
use Rattle.encoding.specs.Variables.{Var, X, O, Y, V}

-- The state after the turns of the events 1 .. k of a step that begins in s; y says which of them are in the step
unfoldable pub walk : Table → (ℕ → Bool) → ℕ → State → State
walk T y zero s = s
walk T y (suc k) s = cond (y (suc k)) (after T (suc k) (walk T y k s)) (walk T y k s)

-- The state after t steps; y says which events are in which step
unfoldable pub walk_steps : Table → (ℕ → ℕ → Bool) → ℕ → State
walk_steps T y zero = initially T
walk_steps T y (suc t) = walk T (y (suc t)) (events T) (walk_steps T y t)

-- The value of a variable
unfoldable pub value_at : Table → (ℕ → ℕ → Bool) → Var → Bool
value_at T y (X t p) = (walk_steps T y t).holds p
value_at T y (O t a) = (walk_steps T y t).is_open a
value_at T y (Y t e) = y t e
value_at T y (V zero e p) = false
value_at T y (V (suc t) zero p) = false
value_at T y (V (suc t) (suc k) p) = (walk T (y (suc t)) k (walk_steps T y t)).holds p

-- The values of the variables of a step that begins in s, in order
unfoldable pub step_values : Table → (ℕ → Bool) → State → List Bool
step_values T y s =
    each (events T) (λ e. y e ∷ [])
    ++ each T.facts (λ p. each (events T) (λ e. only (relevant T e p) ((walk T y (e - 1) s).holds p ∷ [])))
    ++ each T.facts (λ p. (walk T y (events T) s).holds p ∷ [])
    ++ each T.actions (λ a. (walk T y (events T) s).is_open a ∷ [])
