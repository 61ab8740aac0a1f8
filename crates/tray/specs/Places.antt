-- Places of a list, counted from 1: what stands at one, and the first whose element passes a test.
-- `FirstPlace` is what a reader must believe; `first_place` computes the one answer of which it holds.
-- Assumes nothing.
use Rattle.std.specs.Prelude.{◌≡◌, ℕ, zero, suc, ◌<◌, Bool, true, false, List, Some, None, Option, position}
use Rattle.std.specs.Option.{option_map}
use Rattle.std.specs.List.{slice_get}

-- the element at a place, which has one element fewer before it: none at place 0, and none beyond the list
abbrev pub item_at : {X : Type 0} → List X → ℕ → Option X
item_at xs zero = None
item_at xs (suc before) = slice_get xs before

-- r is the first place whose element passes the test, or none where no element does
abbrev pub FirstPlace : {X : Type 0} → (X → Bool) → List X → Option ℕ → Type 0
FirstPlace {X} f xs None = (k : ℕ) (x : X) → item_at xs k ≡ Some x → f x ≡ false
FirstPlace {X} f xs (Some place) =
    ((x : X) × (item_at xs place ≡ Some x) × (f x ≡ true))
    × ((k : ℕ) (x : X) → k < place → item_at xs k ≡ Some x → f x ≡ false)

-- the first place whose element passes the test
abbrev pub first_place : {X : Type 0} → (X → Bool) → List X → Option ℕ
first_place f xs = option_map suc (position f xs)

-- r is the first place whose element equals x. Whatever equals x is found there, too.
pub record Found {X : Type 0} (equal : X → X → Bool) (x : X) (xs : List X) (r : Option ℕ) : Type 0 where
  pub place : r ≡ first_place (λ y. equal y x) xs
  pub first : FirstPlace (λ y. equal y x) xs r
  pub alike : (z : X) → equal z x ≡ true → r ≡ first_place (λ y. equal y z) xs
