-- What a map tells, by its bytes, and what a list tells, by its signed entries.
-- `Decided` says of a list, by places, what `list_tells` computes.
-- Assumes nothing.
use Rattle.std.specs.Prelude.{◌≡◌, ℕ, ◌-◌, ◌<◌, Bool, true, false, cond, ◌⊎◌, List, [], ◌∷◌, length, ℤ, pos, neg_ℤ, Some, None, Option, ◌==◌, int_lt, slice_index, slice_index_or, unsigned_abs}
use Rattle.std.proofs.lemmas.Bool.{cond-false}
use Rattle.answer.specs.Variables.{is_variable}

-- what a byte tells: 1 is false, 2 is true, any other is none
abbrev pub byte_tells : ℕ → Option Bool
byte_tells b = cond (b == 1) (Some false) (cond (b == 2) (Some true) None)

-- the first byte is that of variable 1; where there is no byte, 0 stands for it
abbrev pub map_tells : List ℕ → ℕ → Option Bool
map_tells bytes v = cond (is_variable v) (byte_tells (slice_index bytes (v - 1))) None

-- an entry names v when it is v or minus v
abbrev pub Names : ℕ → ℤ → Type 0
Names v x = (x ≡ pos v) ⊎ (x ≡ neg_ℤ (pos v))

-- i is the index of the first entry that names v, or none names it
abbrev pub FirstNames : ℕ → List ℤ → Option ℕ → Type 0
FirstNames v xs None = (k : ℕ) → k < length xs → Names v (slice_index_or xs k (pos 0)) → ⊥
FirstNames v xs (Some i) =
    (i < length xs) × Names v (slice_index_or xs i (pos 0)) × ((k : ℕ) → k < i → Names v (slice_index_or xs k (pos 0)) → ⊥)

-- the entry that gives a variable a value: v for true, minus v for false
abbrev pub entry_for : ℕ → Bool → ℤ
entry_for v b = cond b (pos v) (neg_ℤ (pos v))

-- the first entry that names v is the one for this value, or none names it
abbrev pub Decided : ℕ → List ℤ → Option Bool → Type 0
Decided v xs None = FirstNames v xs None
Decided v xs (Some b) = (i : ℕ) × FirstNames v xs (Some i) × (slice_index_or xs i (pos 0) ≡ entry_for v b)

-- the sign of the first entry that names v
abbrev pub first_sign : ℕ → List ℤ → Option Bool
first_sign v [] = None
first_sign v (x ∷ xs) = cond (unsigned_abs x == v) (Some (int_lt (pos 0) x)) (first_sign v xs)

abbrev pub list_tells : List ℤ → ℕ → Option Bool
list_tells entries v = cond (is_variable v) (first_sign v entries) None

pub map-outside : (bytes : List ℕ) (v : ℕ) → is_variable v ≡ false → map_tells bytes v ≡ None
map-outside bytes v h = cond-false (is_variable v) _ _ h

pub list-outside : (entries : List ℤ) (v : ℕ) → is_variable v ≡ false → list_tells entries v ≡ None
list-outside entries v h = cond-false (is_variable v) _ _ h
