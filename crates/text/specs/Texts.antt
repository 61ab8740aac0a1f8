-- Languages of bytes, and the first byte with which no text of a language continues.
-- Assumes nothing.
use Rattle.std.specs.Prelude.{◌≡◌, ℕ, suc, ◌<◌, ◌⊎◌, List, ◌++◌, length, take}

-- some text of L begins with p
abbrev pub Viable : (List ℕ → Type 0) → List ℕ → Type 0
Viable L p = (q : List ℕ) × L (p ++ q)

-- some text of L begins with the first k bytes of s, but none with one byte more, or s ends there and is no text of L
abbrev pub FirstBad : (List ℕ → Type 0) → List ℕ → ℕ → Type 0
FirstBad L s k = Viable L (take k s) × (((k < length s) × (Viable L (take (suc k) s) → ⊥)) ⊎ ((k ≡ length s) × (L s → ⊥)))

-- the same, before a text of L is whole: s does not begin with a text of L, and k is the place of the first byte with which none continues,
-- or just past the end
abbrev pub Stuck : (List ℕ → Type 0) → List ℕ → ℕ → Type 0
Stuck L s k = FirstBad L s k × (L (take k s) → ⊥)

-- a text that stands for some x
abbrev pub Any : {X : Type 0} → (X → List ℕ → Type 0) → List ℕ → Type 0
Any {X} A s = (x : X) × A x s
