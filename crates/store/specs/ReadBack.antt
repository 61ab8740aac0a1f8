-- The clauses that a text says, so that a text store's clauses are a function of its memory.
-- Nothing rests on how a text is read but this: the store's bytes are the rendering of the clauses read from them, and a clause
-- put is the clause read.
use Rattle.std.specs.Prelude.{ℕ, zero, suc, ◌+◌, ◌-◌, ◌*◌, Bool, true, false, cond, List, [], ◌∷◌, ◌++◌, map, length, take, drop, ℤ, pos, neg_ℤ, fold, ◌==◌, nat_lt}
use Rattle.store.specs.Rendering.{width, header_length}

-- What was read of a column so far
pub record Read : Type 0 where
  pub minus : Bool
  pub number : ℕ

-- A blank leaves all as it is, a '-' is the sign, and a digit goes to the end of the number
abbrev pub read_byte : Read → ℕ → Read
read_byte r b = cond (b == 32) r (cond (b == 45) (record { minus = true; number = r.number }) (record { minus = r.minus; number = r.number * 10 + (b - 48) }))

unfoldable pub read_column : List ℕ → Read
read_column bs = fold read_byte (record { minus = false; number = 0 }) bs

abbrev pub signed_by : Read → ℤ
signed_by r = cond r.minus (neg_ℤ (pos r.number)) (pos r.number)

-- Whole columns of width w, f of them at most
abbrev pub read_columns : ℕ → ℕ → List ℕ → List ℤ
read_columns w zero bs = []
read_columns w (suc f) bs = cond (nat_lt (length bs) w) [] (signed_by (read_column (take w bs)) ∷ read_columns w f (drop w bs))

abbrev pub read_line : ℕ → List ℕ → List ℤ
read_line w bs = read_columns w (length bs) bs

-- The lines, each with its line feed, where the first begins with `front`
abbrev pub lines : List ℕ → List ℕ → List (List ℕ)
lines front [] = []
lines front (b ∷ bs) = cond (b == 10) ((front ++ b ∷ []) ∷ lines [] bs) (lines (front ++ b ∷ []) bs)

-- The clauses of the lines after the header
abbrev pub clauses_of : List ℕ → List (List ℤ)
clauses_of bs = map (read_line width) (lines [] (drop header_length bs))
