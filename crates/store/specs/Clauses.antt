-- What a clause store means: the clauses it may hold, its prices, and what `put` answers and leaves.
-- A literal is a signed number, a clause a list of literals, and a store is known by the list of clauses that it holds and by
-- its free units. Everything here is about any kind of store. Assumes nothing.
use Rattle.std.specs.Prelude.{◌≡◌, ℕ, zero, suc, ◌+◌, ◌-◌, ◌<◌, ◌≤◌, Bool, true, false, ◌&&◌, List, [], ◌∷◌, ◌++◌, length, ℤ, Ok, Err, Result, nat_le, unsigned_abs}
use Rattle.std.specs.List.{list_all}
use Rattle.store.specs.declared.clauses.PutFault.{PutFault}
use Rattle.store.specs.declared.clauses.PutFault.TheVariants.{ClauseOutOfLimits, PriceExceedsFree}

-- The largest variable that a literal may name
abbrev pub greatest_variable : ℕ
greatest_variable = 99999

-- How many literals a clause may have
abbrev pub longest_clause : ℕ
longest_clause = 4

-- From low to high
abbrev pub in_limits : ℕ → ℕ → ℕ → Bool
in_limits low high n = nat_le low n && nat_le n high

-- A variable, or its negative
abbrev pub is_literal : ℤ → Bool
is_literal z = in_limits 1 greatest_variable (unsigned_abs z)

abbrev pub all_literals : List ℤ → Bool
all_literals c = list_all is_literal c

-- A clause within the limits: one to four literals
abbrev pub is_clause : List ℤ → Bool
is_clause c = in_limits 1 longest_clause (length c) && all_literals c

-- The prices that a kind of store fixes, for clauses of one to four literals
pub record Prices : Type 0 where
  pub one : ℕ
  pub two : ℕ
  pub three : ℕ
  pub four : ℕ

-- The prices by a rule
abbrev pub prices_by : (ℕ → ℕ) → Prices
prices_by rule = record { one = rule 1; two = rule 2; three = rule 3; four = rule 4 }

-- The price of a clause of k literals: 0 outside 1 to 4
abbrev pub cost : Prices → ℕ → ℕ
cost p zero = 0
cost p (suc zero) = p.one
cost p (suc (suc zero)) = p.two
cost p (suc (suc (suc zero))) = p.three
cost p (suc (suc (suc (suc zero)))) = p.four
cost p (suc (suc (suc (suc (suc _))))) = 0

-- The price of clauses together
abbrev pub price_of : Prices → List (List ℤ) → ℕ
price_of p [] = 0
price_of p (c ∷ cs) = cost p (length c) + price_of p cs

-- Each of the four prices is 1 to 64 units
pub record Priced (p : Prices) : Type 0 where
  pub one : (1 ≤ p.one) × (p.one ≤ 64)
  pub two : (1 ≤ p.two) × (p.two ≤ 64)
  pub three : (1 ≤ p.three) × (p.three ≤ 64)
  pub four : (1 ≤ p.four) × (p.four ≤ 64)

-- The clause, which is within the limits and whose price the free units cover, joined the end, and its price left them
pub record Joined (price : ℕ) (was is : List (List ℤ)) (had has : ℕ) (c : List ℤ) : Type 0 where
  pub lawful : is_clause c ≡ true
  pub room : price ≤ had
  pub held : is ≡ was ++ c ∷ []
  pub units : has ≡ had - price

-- What `put` answers, and what becomes of a store s, which is t afterwards. The limits are checked before the price, and a
-- refusal leaves the store as it was.
abbrev pub Put : {X U : Type 0} (held : X → List (List ℤ)) (units : X → ℕ) (prices : Prices) (s t : X) (c : List ℤ) → Result U PutFault → Type 0
Put held units prices s t c (Ok _) = Joined (cost prices (length c)) (held s) (held t) (units s) (units t) c
Put held units prices s t c (Err ClauseOutOfLimits) = (t ≡ s) × (is_clause c ≡ false)
Put held units prices s t c (Err PriceExceedsFree) = (t ≡ s) × (is_clause c ≡ true) × (units s < cost prices (length c))

-- Clauses joined the end of a store s, which is t afterwards, one after another, and their prices left the free units
pub record Added {X : Type 0} (held : X → List (List ℤ)) (units : X → ℕ) (prices : Prices) (s t : X) (cs : List (List ℤ)) : Type 0 where
  pub joined : held t ≡ held s ++ cs
  pub paid : units t + price_of prices cs ≡ units s
