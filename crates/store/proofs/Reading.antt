-- What was written is read back: a number from its column, a clause from its line, the clauses from their lines.
use Rattle.std.proofs.lemmas.Bool.Decides.{nat_tests}
use Rattle.std.proofs.Common.{◌≡◌, ℕ, zero, suc, ◌+◌, ◌-◌, ◌*◌, ◌/◌, ◌%◌, ◌^◌, ◌<◌, ◌≤◌, Bool, true, false, cond, eqb, ltb, List, [], ◌∷◌, ◌++◌, map, length, take, drop, replicate, ℤ, pos, negsuc, nat_abs, decimal, fold, sym, refl, ap, ◌∙◌, append_assoc, append-nil, mod-lt, div-add-mod', arith}
use Rattle.std.specs.Fmt.{signed_decimal}
use Rattle.std.specs.List.{flat_map, AllByRecursion}
use Rattle.std.proofs.lemmas.Fmt.{decimal_by_steps}
use Rattle.std.proofs.ByRecursion.{All-append, All-push}
use Rattle.std.proofs.lemmas.List.{take_at, drop_at, length-append, map-append}
use Rattle.std.proofs.lemmas.List.Sums.{fold_push}
use Rattle.store.specs.Clauses.{is_literal, all_literals}
use Rattle.store.specs.Rendering.{width, field, line_end, line_of}
use Rattle.store.specs.ReadBack.{Read, read_byte, read_column, signed_by, read_columns, read_line, lines}
use Rattle.store.proofs.Meaning.{literals-parts}
use Rattle.store.proofs.Lines.{length-field, length-line}

abbrev reads : Bool → ℕ → Read
reads minus n = record { minus = minus; number = n }

read-digit : (minus : Bool) (q d : ℕ) → d < 10 → read_byte (reads minus q) (48 + d) ≡ reads minus (q * 10 + d)
read-digit minus q d h =
    let a : eqb (48 + d) 32 ≡ false = grind (arith, nat_tests) in
    let b : eqb (48 + d) 45 ≡ false = grind (arith, nat_tests) in
    let e : 48 + d - 48 ≡ d = omega arith in
    simp (a, b, e)

read-blanks : (k : ℕ) (r : Read) (bs : List ℕ) → fold read_byte r (replicate k 32 ++ bs) ≡ fold read_byte r bs
read-blanks zero r bs = refl
read-blanks (suc k) r bs = read-blanks k r bs

read-decimal : (minus : Bool) (n : ℕ) → n < 2 ^ 64 → fold read_byte (reads minus 0) (decimal n) ≡ reads minus n
read-decimal minus n h =
    decimal_by_steps (λ n ds. fold read_byte (reads minus 0) ds ≡ reads minus n)
    (λ n l. read-digit minus 0 n l ∙ (let e : 0 * 10 + n ≡ n = omega arith in ap (reads minus) e))
    (λ n ds l e.
    fold_push read_byte (reads minus 0) ds (48 + n % 10)
    ∙ ap (λ r. read_byte r (48 + n % 10)) e
    ∙ read-digit minus (n / 10) (n % 10) (mod-lt n (omega arith))
    ∙ ap (reads minus) (div-add-mod' n 10))
    n h

-- at any width
pub read-field : (w : ℕ) (z : ℤ) → nat_abs z < 2 ^ 64 → signed_by (read_column (field w z)) ≡ z
unfolding read_column field
read-field w (pos n) h = ap signed_by (read-blanks (w - length (decimal n)) (reads false 0) (decimal n) ∙ read-decimal false n h)
read-field w (negsuc n) h = ap signed_by (read-blanks (w - length (signed_decimal (negsuc n))) (reads false 0) (signed_decimal (negsuc n)) ∙ read-decimal true (suc n) h)

small : (z : ℤ) → is_literal z ≡ true → nat_abs z < 2 ^ 64
small (pos n) e = let h : n < 100000 = grind (arith, nat_tests) in omega arith
small (negsuc n) e = let h : suc n < 100000 = grind (arith, nat_tests) in omega arith

read-columns : (f : ℕ) (c : List ℤ) → length c ≤ f → all_literals c ≡ true → read_columns width (suc f) (line_of width c) ≡ c
read-columns f [] h a = refl
read-columns zero (z ∷ c) h a = absurd (omega arith)
read-columns (suc f) (z ∷ c) h a =
    let p = literals-parts z c a in
    let r = line_of width c in
    let lz : length (field width z) ≡ width = length-field z p.0 in
    let e : line_of width (z ∷ c) ≡ field width z ++ r = append_assoc (field width z) (flat_map (field width) c) line_end in
    let l : length (field width z ++ r) ≡ width + length r = length-append (field width z) r ∙ ap (λ t. t + length r) lz in
    let t : ltb (length (field width z ++ r)) width ≡ false = grind (arith, nat_tests) in
    ap (read_columns width (suc (suc f))) e
    ∙ ap (λ b. cond b [] (signed_by (read_column (take width (field width z ++ r))) ∷ read_columns width (suc f) (drop width (field width z ++ r)))) t
    ∙ ap (λ x. signed_by (read_column x) ∷ read_columns width (suc f) (drop width (field width z ++ r))) (take_at (field width z) r width lz)
    ∙ ap (λ x. signed_by (read_column (field width z)) ∷ read_columns width (suc f) x) (drop_at (field width z) r width lz)
    ∙ ap (λ x. x ∷ read_columns width (suc f) r) (read-field width z (small z p.0))
    ∙ ap (λ x. z ∷ x) (read-columns f c (omega arith) p.1)

pub read-line : (c : List ℤ) → all_literals c ≡ true → read_line width (line_of width c) ≡ c
read-line c a =
    let e : length (line_of width c) ≡ suc (width * length c + 2) = length-line c a ∙ omega arith in
    ap (λ f. read_columns width f (line_of width c)) e ∙ read-columns (width * length c + 2) c (omega arith) a

-- what is left after the last line feed
unended : List ℕ → List ℕ → List ℕ
unended front [] = front
unended front (b ∷ bs) = cond (eqb b 10) (unended [] bs) (unended (front ++ b ∷ []) bs)

lines-append : (a xs ys : List ℕ) → lines a (xs ++ ys) ≡ lines a xs ++ lines (unended a xs) ys
unfolding unended
lines-append a [] ys = refl
lines-append a (b ∷ xs) ys =
    elim (eqb b 10) as (λ t. cond t ((a ++ b ∷ []) ∷ lines [] (xs ++ ys)) (lines (a ++ b ∷ []) (xs ++ ys)) ≡ cond t ((a ++ b ∷ []) ∷ lines [] xs) (lines (a ++ b ∷ []) xs) ++ lines (cond t (unended [] xs) (unended (a ++ b ∷ []) xs)) ys)
    [ true ↦ ap (λ r. (a ++ b ∷ []) ∷ r) (lines-append [] xs ys) | false ↦ lines-append (a ++ b ∷ []) xs ys ]

unended-append : (a xs ys : List ℕ) → unended a (xs ++ ys) ≡ unended (unended a xs) ys
unfolding unended
unended-append a [] ys = refl
unended-append a (b ∷ xs) ys =
    elim (eqb b 10) as (λ t. cond t (unended [] (xs ++ ys)) (unended (a ++ b ∷ []) (xs ++ ys)) ≡ unended (cond t (unended [] xs) (unended (a ++ b ∷ []) xs)) ys)
    [ true ↦ unended-append [] xs ys | false ↦ unended-append (a ++ b ∷ []) xs ys ]

unended-lines : (cs : List (List ℤ)) → unended [] (flat_map (line_of width) cs) ≡ []
unfolding unended
unended-lines [] = refl
unended-lines (c ∷ cs) =
    unended-append [] (line_of width c) (flat_map (line_of width) cs)
    ∙ ap (λ t. unended t (flat_map (line_of width) cs)) (unended-append [] (flat_map (field width) c) line_end)
    ∙ unended-lines cs

-- a column has no line feed
abbrev Plain : List ℕ → Type 0
Plain bs = AllByRecursion (λ b. eqb b 10 ≡ false) bs

plain-decimal : (n : ℕ) → n < 2 ^ 64 → Plain (decimal n)
plain-decimal n h =
    decimal_by_steps (λ _ ds. Plain ds)
    (λ n l. let d : eqb (48 + n) 10 ≡ false = grind (arith, nat_tests) in (d, tt))
    (λ n ds l p. let d : eqb (48 + n % 10) 10 ≡ false = grind (arith, nat_tests) in All-push (λ b. eqb b 10 ≡ false) ds (48 + n % 10) p d)
    n h

plain-signed : (z : ℤ) → nat_abs z < 2 ^ 64 → Plain (signed_decimal z)
plain-signed (pos n) h = plain-decimal n h
plain-signed (negsuc n) h = (refl, plain-decimal (suc n) h)

plain-blanks : (k : ℕ) → Plain (replicate k 32)
plain-blanks zero = tt
plain-blanks (suc k) = (refl, plain-blanks k)

plain-fields : (c : List ℤ) → all_literals c ≡ true → Plain (flat_map (field width) c)
unfolding field
plain-fields [] a = tt
plain-fields (z ∷ c) a =
    let p = literals-parts z c a in
    All-append (λ b. eqb b 10 ≡ false) (field width z) (flat_map (field width) c) (All-append (λ b. eqb b 10 ≡ false) (replicate (width - length (signed_decimal z)) 32) (signed_decimal z) (plain-blanks (width - length (signed_decimal z))) (plain-signed z (small z p.0))) (plain-fields c p.1)

lines-plain : (a bs : List ℕ) → Plain bs → lines a (bs ++ 10 ∷ []) ≡ ((a ++ bs) ++ 10 ∷ []) ∷ []
lines-plain a [] p = ap (λ t. (t ++ 10 ∷ []) ∷ []) (sym (append-nil a))
lines-plain a (b ∷ bs) p =
    ap (λ t. cond t ((a ++ b ∷ []) ∷ lines [] (bs ++ 10 ∷ [])) (lines (a ++ b ∷ []) (bs ++ 10 ∷ []))) p.0
    ∙ lines-plain (a ++ b ∷ []) bs p.1
    ∙ ap (λ t. (t ++ 10 ∷ []) ∷ []) (append_assoc a (b ∷ []) bs)

lines-line : (c : List ℤ) → all_literals c ≡ true → lines [] (line_of width c) ≡ line_of width c ∷ []
lines-line c a =
    let fs = flat_map (field width) c in
    let e : line_of width c ≡ (fs ++ (32 ∷ 48 ∷ [])) ++ 10 ∷ [] = sym (append_assoc fs (32 ∷ 48 ∷ []) (10 ∷ [])) in
    ap (lines []) e ∙ lines-plain [] (fs ++ (32 ∷ 48 ∷ [])) (All-append (λ b. eqb b 10 ≡ false) fs (32 ∷ 48 ∷ []) (plain-fields c a) (refl, (refl, tt))) ∙ ap (λ t. t ∷ []) (sym e)

-- one line more is one clause more
pub lines-push : (xs : List ℕ) (cs : List (List ℤ)) (c : List ℤ) → xs ≡ flat_map (line_of width) cs → all_literals c ≡ true → map (read_line width) (lines [] (xs ++ line_of width c)) ≡ map (read_line width) (lines [] xs) ++ c ∷ []
lines-push xs cs c e a =
    ap (map (read_line width)) (lines-append [] xs (line_of width c) ∙ ap (λ t. lines [] xs ++ lines t (line_of width c)) (ap (unended []) e ∙ unended-lines cs) ∙ ap (λ t. lines [] xs ++ t) (lines-line c a))
    ∙ map-append (read_line width) (lines [] xs) (line_of width c ∷ [])
    ∙ ap (λ t. map (read_line width) (lines [] xs) ++ t ∷ []) (read-line c a)
