-- A chain of implications as clauses, and what putting it into a store answers and leaves.
use Rattle.std.specs.Prelude.{◌≡◌, ℕ, zero, suc, ◌+◌, ◌<◌, ◌≤◌, List, [], ◌∷◌, ◌++◌, length, ℤ, pos, negsuc, Ok, Err, Result}
use Rattle.store.specs.declared.clauses.PutFault.{PutFault}
use Rattle.store.specs.declared.clauses.PutFault.TheVariants.{ClauseOutOfLimits, PriceExceedsFree}
use Rattle.store.specs.Clauses.{Prices, price_of, greatest_variable, Added}
use Rattle.store.specs.Growth.{over}

-- Variable k + 1 implies variable k + 2, for each k below n
abbrev pub implications : ℕ → List (List ℤ)
implications zero = []
implications (suc n) = implications n ++ (negsuc n ∷ pos (n + 2) ∷ []) ∷ []

-- Variable 1 holds, and so on up to variable n + 1
abbrev pub chain : ℕ → List (List ℤ)
chain n = ((pos 1 ∷ []) ∷ []) ++ implications n

-- All of the chain was put
pub record Granted {X : Type 0} (held : X → List (List ℤ)) (units : X → ℕ) (prices : Prices) (s t : X) (n m : ℕ) : Type 0 where
  pub count : m ≡ length (chain n)
  pub low : n < greatest_variable
  pub room : price_of prices (chain n) ≤ units s
  pub added : Added held units prices s t (chain n)

-- The chain joins a store s, which is t afterwards, exactly where its variables are within the limits and the free units cover
-- its price. The answer is how many clauses it has. A refusal leaves the store as it was.
abbrev pub Chained : {X : Type 0} (held : X → List (List ℤ)) (units : X → ℕ) (prices : Prices) (s t : X) (n : ℕ) → Result ℕ PutFault → Type 0
Chained held units prices s t n (Ok m) = Granted held units prices s t n m
Chained held units prices s t n (Err ClauseOutOfLimits) = (t ≡ s) × (greatest_variable ≤ n)
Chained held units prices s t n (Err PriceExceedsFree) = (t ≡ s) × (n < greatest_variable) × (units s < price_of prices (chain n))

-- What becomes of memory lent for a chain, where `layout` is what it holds of a list of clauses, and of which `free` units are
-- free at first. Granted, the answer is how much of it is used. The rest is as it was in any case.
abbrev pub Laid : {E : Type 0} (layout : List (List ℤ) → List E) (prices : Prices) (free n : ℕ) (memory after : List E) → Result ℕ PutFault → Type 0
Laid layout prices free n memory after (Ok m) = (m ≡ length (layout (chain n))) × (n < greatest_variable) × (price_of prices (chain n) ≤ free) × (after ≡ over (layout (chain n)) memory)
Laid layout prices free n memory after (Err ClauseOutOfLimits) = (greatest_variable ≤ n) × (after ≡ over (layout []) memory)
Laid layout prices free n memory after (Err PriceExceedsFree) = (n < greatest_variable) × (free < price_of prices (chain n)) × (after ≡ over (layout []) memory)
