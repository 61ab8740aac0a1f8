-- The chain's clauses as the code writes them, how many there are, and their price.
use Rattle.std.proofs.Common.{◌≡◌, ℕ, zero, suc, ◌+◌, ◌*◌, ◌<◌, ◌≤◌, true, List, [], ◌∷◌, ◌++◌, length, ℤ, pos, negsuc, ◌+ℤ◌, ◌-ℤ◌, sym, refl, ap, ◌∙◌, mul-le-mul_right, add-mul, add-one, arith, w32, to_z, of_z}
use Rattle.std.proofs.lemmas.List.{length_push}
use Rattle.std.proofs.lemmas.Int.{ints}
use Rattle.store.specs.Clauses.{is_clause, Prices, price_of}
use Rattle.store.proofs.Meaning.{literal-pos, literal-neg, clause-2}
use Rattle.store.proofs.Adding.{price-append}
use Rattle.stores_demo.specs.Chain.{implications, chain}

-- the clause of step k as the code writes it
unfoldable pub written : ℕ → List ℤ
written k = to_z w32 (of_z w32 (pos 0 -ℤ to_z w32 (of_z w32 (to_z w32 k +ℤ pos 1)))) ∷ to_z w32 (of_z w32 (to_z w32 (of_z w32 (to_z w32 k +ℤ pos 1)) +ℤ pos 1)) ∷ []

pub written_is : (k : ℕ) → k < 99998 → written k ≡ negsuc k ∷ pos (k + 2) ∷ []
unfolding written
written_is k h =
    let a : to_z w32 (of_z w32 (pos 0 -ℤ to_z w32 (of_z w32 (to_z w32 k +ℤ pos 1)))) ≡ negsuc k = omega (arith, ints) in
    let b : to_z w32 (of_z w32 (to_z w32 (of_z w32 (to_z w32 k +ℤ pos 1)) +ℤ pos 1)) ≡ pos (k + 2) = omega (arith, ints) in
    cc

pub written-lawful : (k : ℕ) → k < 99998 → is_clause (written k) ≡ true
written-lawful k h = ap is_clause (written_is k h) ∙ clause-2 (negsuc k) (pos (k + 2)) (literal-neg k (omega arith)) (literal-pos (k + 2) (omega arith) (omega arith))

-- one implication more
pub implications-more : (k : ℕ) → k < 99998 → implications k ++ written k ∷ [] ≡ implications (k + 1)
implications-more k h = ap (λ c. implications k ++ c ∷ []) (written_is k h) ∙ ap implications (sym (add-one k))

pub implications-price : (p : Prices) (n : ℕ) → price_of p (implications n) ≡ n * p.two
implications-price p zero = omega arith
implications-price p (suc n) = price-append p (implications n) ((negsuc n ∷ pos (n + 2) ∷ []) ∷ []) ∙ omega (arith, implications-price p n, add-mul n 1 p.two, ap (λ t. t * p.two) (add-one n))

pub chain-price : (p : Prices) (n : ℕ) → price_of p (chain n) ≡ p.one + n * p.two
chain-price p n = ap (λ t. p.one + t) (implications-price p n)

implications-length : (n : ℕ) → length (implications n) ≡ n
implications-length zero = refl
implications-length (suc n) = length_push (implications n) (negsuc n ∷ pos (n + 2) ∷ []) ∙ omega (arith, implications-length n)

pub chain_length : (n : ℕ) → n + 1 ≡ length (chain n)
chain_length n = omega (arith, implications-length n)

-- where k of n are paid, one more is covered
pub covered : (k n p one had left : ℕ) → k < n → one + n * p ≤ had → left + (one + k * p) ≡ had → p ≤ left
covered k n p one had left h r e = let m : (k + 1) * p ≤ n * p = mul-le-mul_right p (omega arith) in omega (arith, add-mul k 1 p)
