-- What the reader of a number does column by column. Only the readers of columns speak of this; what a number is says `Numbers`.
-- Assumes nothing.
use Rattle.std.specs.Prelude.{ℕ, zero, suc, ◌+◌, ◌-◌, ◌*◌, ◌^◌, ◌<◌, Bool, false, cond, List, [], ◌∷◌, Some, None, Ok, Err, Option, Result, ◌==◌, nat_le, nat_lt}

abbrev pub is_digit : ℕ → Bool
is_digit b = cond (nat_le 48 b) (nat_lt b 58) false

-- What the columns show so far: no number while only blanks stand there. Then a blank may stand in the first three columns, a 0 in the
-- last, another digit anywhere; after a digit, any digit may stand
abbrev pub column : ℕ → Option ℕ → ℕ → Result (Option ℕ) ℕ
column i None b =
    cond (b == 32) (cond (nat_lt i 3) (Ok None) (Err i))
    (cond (b == 48) (cond (nat_lt i 3) (Err i) (Ok (Some 0)))
    (cond (is_digit b) (Ok (Some (b - 48))) (Err i)))
column i (Some n) b = cond (is_digit b) (Ok (Some (10 * n + (b - 48)))) (Err i)

abbrev pub Within : ℕ → Option ℕ → Type 0
Within i None = Unit {0}
Within i (Some n) = n < 10 ^ i

abbrev pub through : {X Y E : Type 0} → Result X E → (X → Result Y E) → Result Y E
through (Err e) f = Err e
through (Ok x) f = f x

-- what j columns from column i on come to
abbrev pub read_on : ℕ → ℕ → Option ℕ → List ℕ → Result ℕ ℕ
read_on zero i None s = Err i
read_on zero i (Some n) s = Ok n
read_on (suc j) i at [] = Err i
read_on (suc j) i at (b ∷ bs) = through (column i at b) (λ a. read_on j (suc i) a bs)
