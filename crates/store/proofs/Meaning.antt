-- Lemmas on clauses, prices and `put` for whoever writes a store, or code over every kind of store.
use Rattle.std.proofs.lemmas.Bool.{and_parts}
use Rattle.std.proofs.lemmas.Bool.Decides.{nat_tests}
use Rattle.std.proofs.Common.{◌≡◌, ℕ, zero, suc, ◌<◌, ◌≤◌, true, false, List, [], ◌∷◌, length, ℤ, pos, negsuc, Err, sym, refl, ◌∙◌, arith}
use Rattle.store.specs.declared.clauses.PutFault.{PutFault}
use Rattle.store.specs.declared.clauses.PutFault.TheVariants.{ClauseOutOfLimits, PriceExceedsFree}
use Rattle.store.specs.Clauses.{is_literal, all_literals, is_clause, Prices, prices_by, cost, Put}

pub clause-parts : (c : List ℤ) → is_clause c ≡ true → (1 ≤ length c) × (length c ≤ 4) × (all_literals c ≡ true)
clause-parts c e = (grind (arith, nat_tests), grind (arith, nat_tests), grind (arith, nat_tests))

pub literals-parts : (z : ℤ) (c : List ℤ) → all_literals (z ∷ c) ≡ true → (is_literal z ≡ true) × (all_literals c ≡ true)
literals-parts z c e = and_parts (is_literal z) (all_literals c) e

-- literals of a variable's number
pub literal-pos : (n : ℕ) → 0 < n → n < 100000 → is_literal (pos n) ≡ true
literal-pos n l h = grind (arith, nat_tests)

pub literal-neg : (n : ℕ) → n < 99999 → is_literal (negsuc n) ≡ true
literal-neg n h = grind (arith, nat_tests)

-- clauses of literals
pub clause-1 : (a : ℤ) → is_literal a ≡ true → is_clause (a ∷ []) ≡ true
clause-1 a e = rw e

pub clause-2 : (a b : ℤ) → is_literal a ≡ true → is_literal b ≡ true → is_clause (a ∷ b ∷ []) ≡ true
clause-2 a b e f = rw (e, f)

pub clause-3 : (a b c : ℤ) → is_literal a ≡ true → is_literal b ≡ true → is_literal c ≡ true → is_clause (a ∷ b ∷ c ∷ []) ≡ true
clause-3 a b c e f g = rw (e, f, g)

pub clause-4 : (a b c d : ℤ) → is_literal a ≡ true → is_literal b ≡ true → is_literal c ≡ true → is_literal d ≡ true → is_clause (a ∷ b ∷ c ∷ d ∷ []) ≡ true
clause-4 a b c d e f g h = rw (e, f, g, h)

-- prices by a rule are what the rule says, at one to four literals
pub cost-by : (rule : ℕ → ℕ) (k : ℕ) → 1 ≤ k → k ≤ 4 → cost (prices_by rule) k ≡ rule k
cost-by rule zero l h = absurd (omega arith)
cost-by rule (suc zero) l h = refl
cost-by rule (suc (suc zero)) l h = refl
cost-by rule (suc (suc (suc zero))) l h = refl
cost-by rule (suc (suc (suc (suc zero)))) l h = refl
cost-by rule (suc (suc (suc (suc (suc k))))) l h = absurd (omega arith)

-- a put of a clause that is within the limits, and whose price the free units cover, is not refused
pub no-refusal : {X : Type 0} (U : Type 0) (held : X → List (List ℤ)) (units : X → ℕ) (prices : Prices) (s t : X) (c : List ℤ) (f : PutFault) → is_clause c ≡ true → cost prices (length c) ≤ units s → Put {U = U} held units prices s t c (Err f) → ⊥
no-refusal U held units prices s t c ClauseOutOfLimits l r p = let z : false ≡ true = sym p.1 ∙ l in grind arith
no-refusal U held units prices s t c PriceExceedsFree l r p = omega (arith, p.2)

-- a refused put leaves the store as it was
pub refused-same : {X : Type 0} (U : Type 0) (held : X → List (List ℤ)) (units : X → ℕ) (prices : Prices) (s t : X) (c : List ℤ) (f : PutFault) → Put {U = U} held units prices s t c (Err f) → t ≡ s
refused-same U held units prices s t c ClauseOutOfLimits p = p.0
refused-same U held units prices s t c PriceExceedsFree p = p.0
