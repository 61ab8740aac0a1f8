-- Numbers, right-justified in four columns.
-- Assumes nothing.
use Rattle.std.specs.Prelude.{◌≡◌, ℕ, ◌-◌, ◌<◌, List, ◌++◌, length, replicate, decimal}

-- how many columns a number takes, and the first number that they cannot show
abbrev pub width : ℕ
width = 4

abbrev pub shown_below : ℕ
shown_below = 10000

-- blanks, and the number's decimal digits without leading zeros
abbrev pub justified : ℕ → List ℕ
justified n = replicate (width - length (decimal n)) 32 ++ decimal n

-- s is what four columns show of n
abbrev pub Number : ℕ → List ℕ → Type 0
Number n s = (n < shown_below) × (s ≡ justified n)
