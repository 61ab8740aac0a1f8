-- The lowest of the variables 1 to n without a value. `LowestMissing` is what a reader must believe; `lowest_missing` computes the one
-- answer of which it holds.
-- Assumes nothing.
use Rattle.std.specs.Prelude.{◌≡◌, ℕ, zero, suc, ◌<◌, ◌≤◌, Bool, true, cond, is_some, Some, None, Option}
use Rattle.std.specs.Option.{option_or}

-- each variable from 1 on, below a limit, has a value
abbrev pub AllTold : (ℕ → Option Bool) → ℕ → Type 0
AllTold told limit = (v : ℕ) → 1 ≤ v → v < limit → is_some (told v) ≡ true

-- r is the lowest of 1 to n without a value, or none where each has one
abbrev pub LowestMissing : (ℕ → Option Bool) → ℕ → Option ℕ → Type 0
LowestMissing told n None = AllTold told (suc n)
LowestMissing told n (Some v) = (1 ≤ v) × (v ≤ n) × (told v ≡ None) × AllTold told v

abbrev pub lowest_missing : (ℕ → Option Bool) → ℕ → Option ℕ
lowest_missing told zero = None
lowest_missing told (suc n) = option_or (lowest_missing told n) (cond (is_some (told (suc n))) None (Some (suc n)))

pub record Lowest (told : ℕ → Option Bool) (n : ℕ) (r : Option ℕ) : Type 0 where
  pub is : r ≡ lowest_missing told n
  pub lowest : LowestMissing told n r
