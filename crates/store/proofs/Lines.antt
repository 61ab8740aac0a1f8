-- Columns, lines and the header: how long they are, and what writing one more of them leaves.
use Rattle.std.proofs.lemmas.Bool.Decides.{nat_tests}
use Rattle.std.proofs.Common.{◌≡◌, ℕ, zero, suc, ◌+◌, ◌-◌, ◌*◌, ◌^◌, ◌<◌, ◌≤◌, true, false, ltb, List, [], ◌∷◌, ◌++◌, length, get_or, take, drop, set, replicate, ℤ, pos, negsuc, nat_abs, decimal, sym, refl, ap, ◌∙◌, append-nil, arith}
use borrow.Rule.Slice.PartMut.{put_mid}
use lib.Signed.{lt_z}
use lib.Seq.{paste}
use Rattle.std.specs.Fmt.{signed_decimal}
use Rattle.std.specs.List.{flat_map}
use Rattle.std.proofs.lemmas.Fmt.{length-decimal-le}
use Rattle.std.proofs.lemmas.List.Edits.{paste_all, paste-paste}
use Rattle.std.proofs.lemmas.List.{length-append, length-replicate, take_more, take_all, length-take-le, drop_all, drop-append-le, flat_map_more, set_split}
use Rattle.std.proofs.lemmas.Slice.{put_mid-paste, take-put_mid}
use Rattle.store.specs.Clauses.{is_literal, all_literals}
use Rattle.store.specs.Rendering.{justified, field, line_end, line_of, header_of, width, header_length}
use Rattle.store.specs.Rewriting.{rewritten}
use Rattle.store.specs.Spelling.{spelled}
use Rattle.store.proofs.Meaning.{literals-parts}

pub length-justified : (w : ℕ) (bs : List ℕ) → length bs ≤ w → length (justified w bs) ≡ w
length-justified w bs h = length-append (replicate (w - length bs) 32) bs ∙ omega (arith, length-replicate {A = ℕ} (w - length bs) 32)

-- a literal has at most five digits and a sign
pub length_literal : (z : ℤ) → is_literal z ≡ true → length (signed_decimal z) ≤ 6
length_literal (pos n) e =
    let h : n < 100000 = grind (arith, nat_tests) in
    omega (arith, length-decimal-le 5 n (omega arith) (omega arith) (omega arith))
length_literal (negsuc n) e =
    let h : suc n < 100000 = grind (arith, nat_tests) in
    omega (arith, length-decimal-le 5 (suc n) (omega arith) (omega arith) (omega arith))

pub length-field : (z : ℤ) → is_literal z ≡ true → length (field width z) ≡ width
unfolding field
length-field z e = length-justified width (signed_decimal z) (omega (arith, length_literal z e))

pub length-count : (n : ℕ) → n < 10 ^ width → length (field width (pos n)) ≡ width
unfolding field
length-count n h = length-justified width (decimal n) (length-decimal-le width n (omega arith) (omega arith) (omega arith))

-- a number and its sign, as the code takes them apart
pub spelled_signed : (z y : ℤ) (n : ℕ) → y ≡ z → n ≡ nat_abs y → spelled n (lt_z y (pos 0)) ≡ signed_decimal z
spelled_signed z y n e f = ap (λ t. spelled t (lt_z y (pos 0))) f ∙ ap (λ t. spelled (nat_abs t) (lt_z t (pos 0))) e ∙ go z
  where
    go : (z : ℤ) → spelled (nat_abs z) (lt_z z (pos 0)) ≡ signed_decimal z
    go (pos n) = let b : ltb n 0 ≡ false = grind (arith, nat_tests) in ap (spelled n) b
    go (negsuc n) = refl

pub literal_at : (c : List ℤ) (i : ℕ) → all_literals c ≡ true → i < length c → is_literal (get_or c i (pos 0)) ≡ true
literal_at [] i e h = absurd (omega arith)
literal_at (z ∷ c) zero e h = (literals-parts z c e).0
literal_at (z ∷ c) (suc i) e h = literal_at c i (literals-parts z c e).1 (omega arith)

pub length_fields : (c : List ℤ) → all_literals c ≡ true → length (flat_map (field width) c) ≡ width * length c
length_fields [] e = refl
length_fields (z ∷ c) e =
    let p = literals-parts z c e in
    length-append (field width z) (flat_map (field width) c) ∙ omega (arith, length-field z p.0, length_fields c p.1)

pub length-line : (c : List ℤ) → all_literals c ≡ true → length (line_of width c) ≡ width * length c + 3
length-line c e = length-append (flat_map (field width) c) line_end ∙ ap (λ t. t + 3) (length_fields c e)

-- one literal more is written
pub fields_more : (bs ys : List ℕ) (k i : ℕ) (c : List ℤ) (z : ℤ) → i < length c → z ≡ get_or c i (pos 0) → is_literal z ≡ true → width * i ≤ length bs → ys ≡ field width z → take (width * i) bs ≡ flat_map (field width) (take i c) → take (width * (i + 1)) (put_mid (width * i) k bs ys) ≡ flat_map (field width) (take (i + 1) c)
fields_more bs ys k i c z h g l b y e =
    let n : width * (i + 1) ≡ width * i + length ys = omega (arith, ap length y, length-field z l) in
    take-put_mid (width * i) k bs ys (width * (i + 1)) n b
    ∙ ap (λ t. t ++ ys) e
    ∙ ap (λ t. flat_map (field width) (take i c) ++ t) (y ∙ ap (field width) g)
    ∙ flat_map_more (field width) [] (take i c) (get_or c i (pos 0))
    ∙ ap (flat_map (field width)) (sym (take_more c i (pos 0) h))

-- the line's end is written
pub line_ends : (bs ys : List ℕ) (k i : ℕ) (c : List ℤ) → i ≡ length c → length bs ≡ width * length c + 3 → k ≡ 3 → ys ≡ line_end → take (width * i) bs ≡ flat_map (field width) (take i c) → put_mid (width * length c) k bs ys ≡ line_of width c
line_ends bs ys k i c n l kk y e =
    let f : take (width * length c) bs ≡ flat_map (field width) c = ap (λ t. take (width * t) bs) (sym n) ∙ e ∙ ap (flat_map (field width)) (take_all i c (omega arith)) in
    put_mid-paste (width * length c) k bs ys line_end 3 y (sym kk) refl
    ∙ paste_all bs (width * length c) line_end 3 refl
    ∙ ap (λ t. take (width * length c) bs ++ (line_end ++ t)) (drop_all (width * length c + 3) bs (omega arith))
    ∙ ap (λ t. t ++ line_end) f

-- a part is written after those in front of it
pub paste-part : (b bs ys front zs : List ℕ) (at n : ℕ) → at ≡ length front → n ≡ length zs → bs ≡ paste b 0 front at → ys ≡ zs → put_mid at n bs ys ≡ paste b 0 (front ++ zs) (at + n)
paste-part b bs ys front zs at n l m e y =
    let z : at ≡ 0 + at = omega arith in
    put_mid-paste at n bs ys zs n y refl m
    ∙ ap (λ t. paste t at zs n) e
    ∙ ap (λ t. paste (paste b 0 front at) t zs n) z
    ∙ paste-paste b 0 front zs at n l m (omega arith)

pub paste-byte : (b bs front : List ℕ) (at x : ℕ) → at ≡ length front → at < length bs → bs ≡ paste b 0 front at → set bs at x ≡ paste b 0 (front ++ x ∷ []) (at + 1)
paste-byte b bs front at x l h e =
    let z : at ≡ 0 + at = omega arith in
    let o : suc at ≡ at + 1 = omega arith in
    set_split bs at x h
    ∙ ap (λ t. take at bs ++ x ∷ drop t bs) o
    ∙ sym (paste_all bs at (x ∷ []) 1 refl)
    ∙ ap (λ t. paste t at (x ∷ []) 1) e
    ∙ ap (λ t. paste (paste b 0 front at) t (x ∷ []) 1) z
    ∙ paste-paste b 0 front (x ∷ []) at 1 l refl (omega arith)

-- all bytes are written
pub paste-whole : (b s : List ℕ) (n : ℕ) → n ≡ length s → length b ≡ n → paste b 0 s n ≡ s
paste-whole b s n l h =
    let z : 0 + n ≡ n = omega arith in
    paste_all b 0 s n l ∙ ap (λ t. s ++ t) (drop_all (0 + n) b (omega arith)) ∙ append-nil s

-- a line is written behind the header, and the header anew
pub line_and_header : (b line head : List ℕ) (at k largest count : ℕ) (c : List ℤ) → all_literals c ≡ true → header_length ≤ at → at + (width * length c + 3) ≤ length b → k ≡ width * length c + 3 → line ≡ line_of width c → head ≡ header_of width largest count → head ++ drop header_length (put_mid at k b line) ≡ rewritten b at c largest count
line_and_header b line head at k largest count c a h l kk le he =
    let p = width * length c + 3 in
    ap (λ t. t ++ drop header_length (put_mid at k b line)) he
    ∙ ap (λ t. header_of width largest count ++ drop header_length t) (put_mid-paste at k b line (line_of width c) p le (sym kk) (sym (length-line c a)) ∙ paste_all b at (line_of width c) p (sym (length-line c a)))
    ∙ ap (λ t. header_of width largest count ++ t) (drop-append-le header_length (take at b) (line_of width c ++ drop (at + p) b) (omega (arith, length-take-le at b (omega arith))))
