-- The text of a list of clauses, in the DIMACS CNF form with columns of a fixed width: a header line, then a line for each clause.
-- A byte is its ASCII code: 32 is a blank, 48 the digit 0, 10 a line feed. `decimal` and `signed_decimal` of the standard
-- library are what `{n}` prints. Assumes nothing.
use Rattle.std.specs.Prelude.{ℕ, ◌+◌, ◌-◌, ◌*◌, min, max, cond, List, [], ◌∷◌, ◌++◌, length, replicate, ℤ, pos, codes, nat_lt, unsigned_abs}
use Rattle.std.proofs.Common.{lit≤}
use Rattle.std.specs.Fmt.{signed_decimal}
use Rattle.std.specs.List.{flat_map}
use Rattle.store.specs.Clauses.{Prices, prices_by, Priced}

-- Right-justified in w columns
abbrev pub justified : ℕ → List ℕ → List ℕ
justified w bs = replicate (w - length bs) 32 ++ bs

-- A number in a column of width w
unfoldable pub field : ℕ → ℤ → List ℕ
field w z = justified w (signed_decimal z)

-- A blank, a 0 and a line feed end a clause's line
abbrev pub line_end : List ℕ
line_end = 32 ∷ 48 ∷ 10 ∷ []

abbrev pub line_of : ℕ → List ℤ → List ℕ
line_of w c = flat_map (field w) c ++ line_end

-- "p cnf", the largest variable, the number of clauses, and a line feed
abbrev pub header_of : ℕ → ℕ → ℕ → List ℕ
header_of w largest count = codes "p cnf" ++ (field w (pos largest) ++ (field w (pos count) ++ 10 ∷ []))

-- The largest variable of a clause, and of a list of clauses: 0 if there is none
abbrev pub largest_of : List ℤ → ℕ
largest_of [] = 0
largest_of (z ∷ c) = max (unsigned_abs z) (largest_of c)

abbrev pub largest_in : List (List ℤ) → ℕ
largest_in [] = 0
largest_in (c ∷ cs) = max (largest_of c) (largest_in cs)

abbrev pub text_of : ℕ → List (List ℤ) → List ℕ
text_of w cs = header_of w (largest_in cs) (length cs) ++ flat_map (line_of w) cs

-- The text store's columns, the length of its header, and how many of the lent bytes count at most
abbrev pub width : ℕ
width = 7

abbrev pub header_length : ℕ
header_length = 2 * width + 6

abbrev pub longest_text : ℕ
longest_text = 9999999

-- What a text store over L bytes shows: nothing where the header has no room
abbrev pub shown_in : ℕ → List (List ℤ) → List ℕ
shown_in L cs = cond (nat_lt L header_length) [] (text_of width cs)

-- The free units of a text store over L bytes
abbrev pub room_in : ℕ → ℕ → ℕ
room_in L used = cond (nat_lt L header_length) 0 (min L longest_text - used)

-- A clause of k literals takes k columns, a blank, a 0 and a line feed
abbrev pub text_prices : Prices
text_prices = prices_by (λ k. width * k + 3)

pub text_priced : Priced text_prices
text_priced = record { one = (lit≤ tt, lit≤ tt); two = (lit≤ tt, lit≤ tt); three = (lit≤ tt, lit≤ tt); four = (lit≤ tt, lit≤ tt) }
