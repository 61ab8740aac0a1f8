-- Tests that are written as lists, for tables that are given whole.
-- Assumes nothing.
use Rattle.std.specs.Prelude.{ℕ, Bool, false, ◌&&◌, ◌||◌, List, [], ◌∷◌, ◌==◌}

-- whether a number is listed
unfoldable pub listed : List ℕ → ℕ → Bool
listed [] x = false
listed (y ∷ ys) x = x == y || listed ys x

-- whether a pair is
unfoldable pub listed_pair : List (ℕ × ℕ) → ℕ → ℕ → Bool
listed_pair [] a p = false
listed_pair (x ∷ xs) a p = (a == x.0 && p == x.1) || listed_pair xs a p
