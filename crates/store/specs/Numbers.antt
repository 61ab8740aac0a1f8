-- What the number store's memory holds: each clause as its literals and a 0.
-- `numbers_of` is the layout. `clauses_in` reads it back, so that a store's clauses are a function of its memory.
use Rattle.std.specs.Prelude.{zero, suc, ◌+◌, List, [], ◌∷◌, ◌++◌, ℤ, pos, negsuc}
use Rattle.std.proofs.Common.{lit≤}
use Rattle.std.specs.List.{flat_map}
use Rattle.store.specs.Clauses.{Prices, prices_by, Priced}

abbrev pub ended : List ℤ → List ℤ
ended c = c ++ pos 0 ∷ []

abbrev pub numbers_of : List (List ℤ) → List ℤ
numbers_of cs = flat_map ended cs

-- The runs of numbers that a 0 ends, where the first begins with `front`
abbrev pub runs : List ℤ → List ℤ → List (List ℤ)
runs front [] = []
runs front (pos zero ∷ zs) = front ∷ runs [] zs
runs front (pos (suc n) ∷ zs) = runs (front ++ pos (suc n) ∷ []) zs
runs front (negsuc n ∷ zs) = runs (front ++ negsuc n ∷ []) zs

abbrev pub clauses_in : List ℤ → List (List ℤ)
clauses_in zs = runs [] zs

-- A clause of k literals takes k + 1 numbers
abbrev pub number_prices : Prices
number_prices = prices_by (λ k. k + 1)

pub number_priced : Priced number_prices
number_priced = record { one = (lit≤ tt, lit≤ tt); two = (lit≤ tt, lit≤ tt); three = (lit≤ tt, lit≤ tt); four = (lit≤ tt, lit≤ tt) }
