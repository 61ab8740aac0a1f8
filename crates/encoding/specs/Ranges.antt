-- Ranges of numbers from 1 on: what holds at each, lists and counts made from each.
-- Assumes nothing.
use Rattle.std.specs.Prelude.{ℕ, zero, suc, ◌+◌, ◌≤◌, Bool, false, cond, ◌||◌, List, [], ◌∷◌, ◌++◌}

-- P holds of each of 1 .. n
abbrev pub Each : ℕ → (ℕ → Type 0) → Type 0
Each n P = (i : ℕ) → 1 ≤ i → i ≤ n → P i

-- the lists f 1, .., f n, one behind the other
unfoldable pub each : {X : Type 0} → ℕ → (ℕ → List X) → List X
each zero f = []
each (suc n) f = each n f ++ f (suc n)

-- whether f holds at one of 1 .. n
unfoldable pub some : ℕ → (ℕ → Bool) → Bool
some zero f = false
some (suc n) f = some n f || f (suc n)

-- at how many of 1 .. n f holds
unfoldable pub count : ℕ → (ℕ → Bool) → ℕ
count zero f = 0
count (suc n) f = count n f + cond (f (suc n)) 1 0

-- f 1 + .. + f n
unfoldable pub total : ℕ → (ℕ → ℕ) → ℕ
total zero f = 0
total (suc n) f = total n f + f (suc n)

-- the numbers 1 .. n
abbrev pub up_to : ℕ → List ℕ
up_to n = each n (λ i. i ∷ [])

-- the list, if b holds, and otherwise none
abbrev pub only : {X : Type 0} → Bool → List X → List X
only b xs = cond b xs []
