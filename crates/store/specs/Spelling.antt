-- What the inner functions write: for their contracts. No public contract cites it.
use Rattle.std.specs.Prelude.{ℕ, zero, suc, ◌+◌, ◌/◌, ◌%◌, Bool, cond, List, [], ◌∷◌, ◌++◌, decimal, nat_lt, ◌&&◌}

-- A number with its sign
abbrev pub spelled : ℕ → Bool → List ℕ
spelled n minus = cond minus (45 ∷ decimal n) (decimal n)

-- A byte of a column: a digit of what is left, or the sign before the digits, or a blank
abbrev pub column_byte : ℕ → Bool → ℕ
column_byte n minus = cond (nat_lt 0 n) (48 + n % 10) (cond minus 45 32)

-- k bytes, from the last on, for what is left of a number: none of them has to be a digit
abbrev pub filled : ℕ → ℕ → Bool → List ℕ
filled zero n minus = []
filled (suc k) n minus = filled k (n / 10) (minus && nat_lt 0 n) ++ column_byte n minus ∷ []
