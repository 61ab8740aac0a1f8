-- Texts made of parts.
use Rattle.std.proofs.Common.{◌≡◌, ℕ, List, ◌++◌}

-- a text of A for some x, and then one of B for that x
abbrev pub Then : {X : Type 0} → (X → List ℕ → Type 0) → (X → List ℕ → Type 0) → List ℕ → Type 0
Then {X} A B s = (x : X) × (a : List ℕ) × (b : List ℕ) × (s ≡ a ++ b) × A x a × B x b

-- no text of A begins another, and each stands for one x
abbrev pub Coded : {X : Type 0} → (X → List ℕ → Type 0) → Type 0
Coded {X} A = (x y : X) (a b u v : List ℕ) → A x a → A y b → a ++ u ≡ b ++ v → (x ≡ y) × (a ≡ b)
