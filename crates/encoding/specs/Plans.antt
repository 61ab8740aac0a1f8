-- Plans: states of a cell, when an event runs and what it does, and which plans are valid.
-- Assumes nothing.
use Rattle.std.specs.Prelude.{◌≡◌, ℕ, ◌<◌, ◌≤◌, Bool, true, false, cond, not, ◌&&◌, ◌||◌, ◌≢◌, ◌⊎◌, List, [], ◌∷◌, ◌==◌}
use Rattle.std.specs.List.{AllByRecursion}
use Rattle.encoding.specs.Ranges.{Each}
use Rattle.encoding.specs.Tables.{Table, events, owner, starts, requires}

-- The facts that are true and the actions that are open
pub record State : Type 0 where
  pub holds : ℕ → Bool
  pub is_open : ℕ → Bool

-- When event e runs in a state
pub record Runs (T : Table) (e : ℕ) (s : State) : Type 0 where
  -- each fact that it requires is true
  pub required : Each T.facts (λ p. requires T e p ≡ true → s.holds p ≡ true)
  -- the action of a start is not open, that of an end is
  pub ready : s.is_open (owner e) ≡ not (starts e)
  -- it deletes no held fact of another open action
  pub keeps : Each T.actions (λ a. a ≢ owner e → s.is_open a ≡ true → Each T.facts (λ p. T.held a p ≡ true → T.deletes e p ≡ false))

-- Running an event removes what it deletes, puts in what it adds, and opens or closes its action
unfoldable pub after : Table → ℕ → State → State
after T e s = record { holds = λ p. T.adds e p || (s.holds p && not (T.deletes e p)); is_open = λ a. cond (a == owner e) (starts e) (s.is_open a) }

-- The beginning: the initial facts, and no action open
unfoldable pub initially : Table → State
initially T = record { holds = T.initial; is_open = λ a. false }

-- A plan: pairs of a step and an event
abbrev pub Plan : Type 0
Plan = List (ℕ × ℕ)

-- by step, then by event
abbrev pub Before : (ℕ × ℕ) → (ℕ × ℕ) → Type 0
Before x y = (x.0 < y.0) ⊎ ((x.0 ≡ y.0) × (x.1 < y.1))

abbrev pub Rising : Plan → Type 0
Rising [] = Unit {0}
Rising (x ∷ []) = Unit {0}
Rising (x ∷ y ∷ π) = Before x y × Rising (y ∷ π)

-- the state after a plan's events, one after another
unfoldable pub run : Table → State → Plan → State
run T s [] = s
run T s (x ∷ π) = run T (after T x.1 s) π

-- each event of a plan runs in its turn
abbrev pub Run : Table → State → Plan → Type 0
Run T s [] = Unit {0}
Run T s (x ∷ π) = Runs T x.1 s × Run T (after T x.1 s) π

-- a step of 1 .. n and an event of the table
abbrev pub Placed : Table → ℕ → (ℕ × ℕ) → Type 0
Placed T n x = (1 ≤ x.0) × (x.0 ≤ n) × (1 ≤ x.1) × (x.1 ≤ events T)

-- A valid plan of n steps
pub record Valid (T : Table) (n : ℕ) (π : Plan) : Type 0 where
  pub placed : AllByRecursion (Placed T n) π
  pub rising : Rising π
  -- each event runs in turn, from the initial facts with no action open
  pub runs : Run T (initially T) π
  -- and then every goal fact is true and no action is open
  pub goals : Each T.facts (λ p. T.goal p ≡ true → (run T (initially T) π).holds p ≡ true)
  pub closed : Each T.actions (λ a. (run T (initially T) π).is_open a ≡ false)
