-- The variables of a table's clauses for n steps, and their numbers 1 .. N.
-- A variable is a symbol first; `number` gives its number, and `vars` lists all of them in the order of their numbers.
-- Assumes nothing.
use Rattle.std.specs.Prelude.{◌≡◌, ℕ, zero, suc, ◌+◌, ◌*◌, ◌≤◌, true, List, [], ◌∷◌, ◌++◌}
use Rattle.encoding.specs.Ranges.{each, only, count, total}
use Rattle.encoding.specs.Tables.{Table, events, relevant}

-- X t p: fact p is true after step t. O t a: action a is open after step t. Y t e: event e is in step t.
-- V t e p, of an event e and a fact p relevant to it: p is true just before e's turn in step t, whether or not e is in the step.
-- After step 0 is the beginning
pub data Var : Type 0 where
  X O Y : ℕ → ℕ → Var
  V : ℕ → ℕ → ℕ → Var

-- v is one of the variables of n steps
abbrev pub InRange : Table → ℕ → Var → Type 0
InRange T n (X t p) = (t ≤ n) × (1 ≤ p) × (p ≤ T.facts)
InRange T n (O t a) = (t ≤ n) × (1 ≤ a) × (a ≤ T.actions)
InRange T n (Y t e) = (1 ≤ t) × (t ≤ n) × (1 ≤ e) × (e ≤ events T)
InRange T n (V t e p) = (1 ≤ t) × (t ≤ n) × (1 ≤ e) × (e ≤ events T) × (1 ≤ p) × (p ≤ T.facts) × (relevant T e p ≡ true)

-- to how many events fact p is relevant
unfoldable pub width : Table → ℕ → ℕ
width T p = count (events T) (λ e. relevant T e p)

-- R: how many relevant pairs of a fact and an event there are
unfoldable pub pairs : Table → ℕ
pairs T = total T.facts (width T)

-- r: the place of a relevant pair among all of them, by fact and then by event, from 1 on
unfoldable pub rank : Table → (e p : ℕ) → ℕ
rank T e zero = 0
rank T e (suc q) = total q (width T) + count e (λ d. relevant T d (suc q))

-- S: how many variables a step has, P + 3A + R
unfoldable pub step_size : Table → ℕ
step_size T = T.facts + 3 * T.actions + pairs T

-- N: how many variables n steps have. So many also come before those of step n + 1
unfoldable pub variables : Table → ℕ → ℕ
variables T n = T.facts + T.actions + n * step_size T

-- The number of a variable. Step 0 has no Y and no V
unfoldable pub number : Table → Var → ℕ
number T (X zero p) = p
number T (O zero a) = T.facts + a
number T (Y zero e) = 0
number T (V zero e p) = 0
number T (Y (suc s) e) = variables T s + e
number T (V (suc s) e p) = variables T s + events T + rank T e p
number T (X (suc s) p) = variables T s + events T + pairs T + p
number T (O (suc s) a) = variables T s + events T + pairs T + T.facts + a

-- The variables of each kind and step t, in order
abbrev pub Xs : Table → ℕ → List Var
Xs T t = each T.facts (λ p. X t p ∷ [])

abbrev pub Os : Table → ℕ → List Var
Os T t = each T.actions (λ a. O t a ∷ [])

abbrev pub Ys : Table → ℕ → List Var
Ys T t = each (events T) (λ e. Y t e ∷ [])

abbrev pub Vs : Table → ℕ → List Var
Vs T t = each T.facts (λ p. each (events T) (λ e. only (relevant T e p) (V t e p ∷ [])))

-- all those of step t, from step 1 on
unfoldable pub step_vars : Table → ℕ → List Var
step_vars T t = Ys T t ++ Vs T t ++ Xs T t ++ Os T t

-- all those of n steps
unfoldable pub vars : Table → ℕ → List Var
vars T n = Xs T 0 ++ Os T 0 ++ each n (step_vars T)
