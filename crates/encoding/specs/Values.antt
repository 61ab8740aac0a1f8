-- The values that a plan gives to the variables, and the plan that an assignment says.
-- Assumes nothing.
use Rattle.std.specs.Prelude.{ℕ, suc, ◌-◌, Bool, false, ◌&&◌, ◌||◌, List, [], ◌∷◌, map, filter, ◌==◌, nat_lt, slice_index_or}
use Rattle.encoding.specs.Ranges.{each, only}
use Rattle.encoding.specs.Tables.{Table, events}
use Rattle.encoding.specs.Plans.{State, initially, run, Plan}
use Rattle.encoding.specs.Variables.{Var, X, O, Y, V, number, vars}

-- Whether a pair of a plan comes before the turn of event e in step t
unfoldable pub earlier : (t e : ℕ) → (ℕ × ℕ) → Bool
earlier t e x = nat_lt x.0 t || (x.0 == t && nat_lt x.1 e)

-- The state just before the turn of event e in step t: that after the pairs which come before it
unfoldable pub state_before : Table → Plan → (t e : ℕ) → State
state_before T π t e = run T (initially T) (filter (earlier t e) π)

-- The state after step t, which is that before the first turn of the next step
abbrev pub state_after : Table → Plan → ℕ → State
state_after T π t = state_before T π (suc t) 1

-- Whether event e is in step t of a plan
unfoldable pub in_step : Plan → (t e : ℕ) → Bool
in_step [] t e = false
in_step (x ∷ π) t e = (x.0 == t && x.1 == e) || in_step π t e

-- The value of a variable under a plan
unfoldable pub value_of : Table → Plan → Var → Bool
value_of T π (X t p) = (state_after T π t).holds p
value_of T π (O t a) = (state_after T π t).is_open a
value_of T π (Y t e) = in_step π t e
value_of T π (V t e p) = (state_before T π t e).holds p

-- The values of the variables 1 .. N
unfoldable pub values : Table → ℕ → Plan → List Bool
values T n π = map (value_of T π) (vars T n)

-- The assignment that a list of values shows: the value of variable i stands at place i
unfoldable pub assignment : List Bool → ℕ → Bool
assignment bs i = slice_index_or bs (i - 1) false

-- The plan of the pairs (t, e), t in 1 .. n, for which y holds, rising
unfoldable pub plan_from : Table → ℕ → (ℕ → ℕ → Bool) → Plan
plan_from T n y = each n (λ t. each (events T) (λ e. only (y t e) ((t, e) ∷ [])))

-- The plan that an assignment of the numbers says: the pairs whose Y is true
unfoldable pub plan_of : Table → ℕ → (ℕ → Bool) → Plan
plan_of T n σ = plan_from T n (λ t e. σ (number T (Y t e)))
