-- The columns of a number one after another.
use Rattle.std.proofs.Common.{◌≡◌, ℕ, suc, ◌+◌, ◌-◌, ◌*◌, ◌^◌, ◌<◌, ◌≤◌, List, [], length, get_or, drop, Some, None, Ok, Err, Option, ok_or, pow-suc, add-one, arith, lit<}
use native.Mathlib.Nat.{one-le-pow}
use Rattle.std.proofs.lemmas.Bool.Decides.{nat_tests}
use Rattle.std.proofs.lemmas.List.{drop_more, drop_all}
use Rattle.text.specs.Columns.{read_on, column, Within}

pub read-end : (i : ℕ) (at : Option ℕ) (s : List ℕ) → i < 4 → length s ≤ i → read_on (4 - i) i at (drop i s) ≡ Err i
read-end i at s h e =
    let p : 4 - i ≡ suc (4 - (i + 1)) = omega arith in
    let q : drop i s ≡ [] = drop_all i s e in
    rw (p, q)

pub read-done : (i : ℕ) (at : Option ℕ) (s : List ℕ) → i ≡ 4 → read_on (4 - i) i at (drop i s) ≡ ok_or at 4
read-done i None s e = rw e
read-done i (Some n) s e = rw e

pub read_none : (i x : ℕ) (at : Option ℕ) (s : List ℕ) → i < 4 → i < length s → column i at (get_or s i 0) ≡ Err x → read_on (4 - i) i at (drop i s) ≡ Err x
read_none i x at s h e no_step =
    let p : 4 - i ≡ suc (4 - (i + 1)) = omega arith in
    rw (p, drop_more s i 0 e, no_step)

pub read_some : (i : ℕ) (at a : Option ℕ) (s : List ℕ) → i < 4 → i < length s → column i at (get_or s i 0) ≡ Ok a → read_on (4 - i) i at (drop i s) ≡ read_on (4 - (i + 1)) (i + 1) a (drop (i + 1) s)
read_some i at a s h e more =
    let p : 4 - i ≡ suc (4 - (i + 1)) = omega arith in
    rw (p, drop_more s i 0 e, more, add-one)

ten-more : (i m d : ℕ) → m < 10 ^ i → d < 10 → 10 * m + d < 10 ^ (i + 1)
ten-more i m d h g = rw (add-one, pow-suc) (omega arith)

digit-more : (i d : ℕ) → d < 10 → d < 10 ^ (i + 1)
digit-more i d g = let h : 0 < 10 ^ i = one-le-pow i 10 (lit< tt) in omega (arith, ten-more i 0 d h g)

pub within_more : (i : ℕ) (at a : Option ℕ) (b : ℕ) → i < 4 → column i at b ≡ Ok a → Within i at → Within (i + 1) a
within_more i None None b h e w = tt
within_more i (Some n) None b h e w = tt
within_more i None (Some m) b h e w = grind (arith, nat_tests, digit-more i m)
within_more i (Some n) (Some m) b h e w = grind (arith, nat_tests, ten-more i n (b - 48))
