-- Why a plan is not valid: the first cause in the order of the checks, with the lowest fact or action to blame.
-- `plan_answer` says it of every list of pairs; `Decides` says that it grants exactly the valid plans.
-- Assumes nothing.
use Rattle.std.specs.Prelude.{◌≡◌, ℕ, zero, suc, Bool, cond, not, ◌&&◌, ◌||◌, [], ◌∷◌, Some, None, Ok, Err, Option, Result, ◌==◌, nat_lt}
use Rattle.std.specs.List.{list_all}
use Rattle.std.specs.Option.{option_or, option_map}
use Rattle.refusal.specs.declared.causes.Obstacle.{Obstacle}
use Rattle.refusal.specs.declared.causes.Obstacle.TheVariants.{RequiredFactFalse, ActionAlreadyOpen, ActionNotOpen, HeldFactDeleted}
use Rattle.refusal.specs.declared.causes.Unmet.{Unmet}
use Rattle.refusal.specs.declared.causes.Unmet.TheVariants.{ActionLeftOpen, GoalFactFalse}
use Rattle.encoding.specs.Tables.{Table, events, owner, starts, requires, harms}
use Rattle.encoding.specs.Plans.{State, Plan, after, initially, run, Valid}
use Rattle.table.specs.declared.faults.PlanFault.{PlanFault}
use Rattle.table.specs.declared.faults.PlanFault.TheVariants.{Misplaced, DoesNotRun, WrongEnding}
use Rattle.table.specs.declared.states.State.{State as Memory}
use Rattle.table.specs.Entries.{from}
use Rattle.table.specs.States.{state_of}

-- the lowest of 1 .. n at which f holds, if any
unfoldable pub lowest : ℕ → (ℕ → Bool) → Option ℕ
lowest zero f = None
lowest (suc n) f = option_or (lowest n f) (cond (f (suc n)) (Some (suc n)) None)

-- Pairs

-- a step of 1 .. n and an event of the table
abbrev pub in_place : Table → ℕ → (ℕ × ℕ) → Bool
in_place T n x = from 1 n x.0 && from 1 (events T) x.1

-- by step, then by event
abbrev pub comes_before : (ℕ × ℕ) → (ℕ × ℕ) → Bool
comes_before x y = nat_lt x.0 y.0 || (x.0 == y.0 && nat_lt x.1 y.1)

-- the place of the first pair that is out of limits or does not rise above the pair before it; places count on from k
unfoldable pub misplaced : Table → ℕ → (ℕ × ℕ) → ℕ → Plan → Option ℕ
misplaced T n before k [] = None
misplaced T n before k (x ∷ π) = cond (in_place T n x && comes_before before x) (misplaced T n x (suc k) π) (Some k)

-- Events

-- fact p is required, and false
abbrev pub lacks : Table → ℕ → State → ℕ → Bool
lacks T e s p = requires T e p && not (s.holds p)

-- action a is another one, open, and holds a fact that the event deletes
abbrev pub robs : Table → ℕ → State → ℕ → Bool
robs T e s a = not (a == owner e) && (s.is_open a && harms T e a)

-- a start's action is open, or an end's is not
abbrev pub agenda_obstacle : ℕ → State → Option Obstacle
agenda_obstacle e s =
    cond (starts e)
    (cond (s.is_open (owner e)) (Some (ActionAlreadyOpen (owner e))) None)
    (cond (s.is_open (owner e)) None (Some (ActionNotOpen (owner e))))

-- why event e does not run in a state, if it does not
abbrev pub obstacle : Table → ℕ → State → Option Obstacle
obstacle T e s =
    option_or (option_map RequiredFactFalse (lowest T.facts (lacks T e s)))
    (option_or (agenda_obstacle e s)
    (option_map HeldFactDeleted (lowest T.actions (robs T e s))))

-- the first event that does not run in its turn; places count on from k
unfoldable pub stuck : Table → State → ℕ → Plan → Option PlanFault
stuck T s k [] = None
stuck T s k (x ∷ π) = option_or (option_map (DoesNotRun k) (obstacle T x.1 s)) (stuck T (after T x.1 s) (suc k) π)

-- The end

-- a goal fact that is false
abbrev pub misses : Table → State → ℕ → Bool
misses T s p = T.goal p && not (s.holds p)

abbrev pub unmet : Table → State → Option Unmet
unmet T s = option_or (option_map ActionLeftOpen (lowest T.actions s.is_open)) (option_map GoalFactFalse (lowest T.facts (misses T s)))

-- The whole plan: all pairs are looked at before any event runs, and all events before the end

unfoldable pub plan_fault : Table → ℕ → Plan → Option PlanFault
plan_fault T n π =
    option_or (option_map Misplaced (misplaced T n (0, 0) 1 π))
    (option_or (stuck T (initially T) 1 π)
    (option_map WrongEnding (unmet T (run T (initially T) π))))

abbrev pub unless_fault : {X : Type 0} → X → Option PlanFault → Result X PlanFault
unless_fault x None = Ok x
unless_fault x (Some f) = Err f

abbrev pub plan_answer : Table → ℕ → Plan → Result (Unit {0}) PlanFault
plan_answer T n π = unless_fault tt (plan_fault T n π)

-- whether each event is one of the table's
abbrev pub events_in : Table → Plan → Bool
events_in T π = list_all (λ x. from 1 (events T) x.1) π

-- the events run, and this is the state after them; or one is stuck
abbrev pub Played : Table → Plan → Result Memory PlanFault → Type 0
Played T π (Ok s) = (stuck T (initially T) 1 π ≡ None) × (state_of s ≡ run T (initially T) π)
Played T π (Err f) = stuck T (initially T) 1 π ≡ Some f

-- An answer that is granted exactly to a valid plan
abbrev pub Decides : Table → ℕ → Plan → Result (Unit {0}) PlanFault → Type 0
Decides T n π r = (r ≡ Ok tt → Valid T n π) × (Valid T n π → r ≡ Ok tt)
