-- Lines and columns, counted from 1. A line feed belongs to the line that it ends.
-- Assumes nothing.
use Rattle.std.specs.Prelude.{ℕ, ◌+◌, cond, List, [], ◌∷◌, ◌==◌}

-- the line and the column after bytes that begin on line l in column c
abbrev pub walk : ℕ → ℕ → List ℕ → ℕ × ℕ
walk l c [] = (l, c)
walk l c (b ∷ bs) = cond (b == 10) (walk (l + 1) 1 bs) (walk l (c + 1) bs)

-- the line and the column of the byte that follows the bytes p
abbrev pub place_of : List ℕ → ℕ × ℕ
place_of p = walk 1 1 p
