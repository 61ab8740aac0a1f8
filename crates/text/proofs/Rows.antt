-- Readers one after another, up to a whole line.
use Rattle.std.proofs.Common.{add-one, take, set, ◌-◌, ◌≤◌, append-nil, length-set, ◌≡◌, ℕ, zero, suc, ◌+◌, ◌<◌, Bool, true, false, not, List, [], ◌∷◌, ◌++◌, length, Some, None, codes, Option, sym, refl, ap, ◌∙◌, subst, append_assoc, arith, length-append}
use Rattle.std.proofs.Math.Seq.{take-suc-set}
use Rattle.std.proofs.lemmas.List.{take_all}
use Rattle.table.specs.declared.roles.Role.{Role}
use Rattle.table.specs.Roles.{actionless}
use Rattle.text.specs.declared.cursor.Reader.{Reader}
use Rattle.text.specs.declared.lines.Line.{Line}
use Rattle.text.specs.declared.lines.Line.TheVariants.{Sizes, Note}
use Rattle.text.specs.declared.tags.Tag.{Tag}
use Rattle.text.specs.declared.tags.Tag.TheVariants.{Sizes as SizesTag, Note as NoteTag, Close}
use Rattle.text.specs.Documents.{note_text, sizes_text}
use Rattle.text.specs.Numbers.{Number, justified, shown_below}
use Rattle.text.specs.Reading.{Read, Refused, End, Row, RowOf, NoteRest, LineAt}
use Rattle.text.specs.Tags.{TagAt, tag_text}
use Rattle.text.specs.Texts.{Viable, Stuck, Any}
use Rattle.text.proofs.Bad.{bad-same}
use Rattle.text.proofs.Joins.{stuck-left, stuck-right}
use Rattle.text.proofs.Letters.{coded-tag}
use Rattle.text.proofs.Parts.{Then, Coded}
use Rattle.text.proofs.Steps.{coded-number, some_end, some_number}

pub refused-same : (L M : List ℕ → Type 0) (p : Reader) (e : ℕ) → ((t : List ℕ) → L t → M t) → ((t : List ℕ) → M t → L t) → Refused L p e → Refused M p e
refused-same L M p e f g h = (h.0, h.1, (bad-same L M p.left.now h.0 f g h.2.0, (λ m. h.2.1 (g _ m))))

pub refused-left : {X : Type 0} (A B : X → List ℕ → Type 0) (p : Reader) (e : ℕ) → Coded A → ((x : X) → Viable (B x) []) → Refused (Any A) p e → Refused (Then A B) p e
refused-left A B p e code more h = (h.0, h.1, stuck-left A B p.left.now h.0 code more h.2)

pub refused-right : {X : Type 0} (A B : X → List ℕ → Type 0) (x : X) (p q : Reader) (e : ℕ) → Coded A → Read (A x) p q → Refused (B x) q e → Refused (Then A B) p e
refused-right A B x p q e code r h =
    let P : List ℕ → Type 0 = λ s. Stuck (Then A B) s (length r.0 + h.0) in
    (length r.0 + h.0, omega (arith, r.2, h.1), subst P (sym r.1) (stuck-right A B x r.0 q.left.now h.0 code r.3 h.2))

-- A number before a row

row-to : (k : ℕ) (s : List ℕ) → Then Number (λ n t. Any (RowOf k) t) s → Any (RowOf (suc k)) s
row-to k s t = (t.0 ∷ t.5.0, (ap suc t.5.1.0, (t.1, t.2, t.3, t.4, t.5.1.1)))

row-from : (k : ℕ) (s : List ℕ) → Any (RowOf (suc k)) s → Then Number (λ n t. Any (RowOf k) t) s
row-from k s t = go t.0 t.1.0 t.1.1
  where
    go : (ns : List ℕ) → length ns ≡ suc k → Row ns s → Then Number (λ n t. Any (RowOf k) t) s
    go [] h r = absurd (omega arith)
    go (n ∷ ns) h r = (n, r.0, r.1, r.2, r.3, (ns, (omega arith, r.4)))

pub some-row : (k : ℕ) → Viable (Any (RowOf k)) []
some-row zero = (some_end.0, ([], (refl, some_end.1.1)))
some-row (suc k) = let m = some_number in let r = some-row k in (m.0 ++ r.0, (m.1.0 ∷ r.1.0, (ap suc r.1.1.0, (m.0, r.0, refl, m.1.1, r.1.1.1))))

pub row_left : (k : ℕ) (p : Reader) (e : ℕ) → Refused (Any Number) p e → Refused (Any (RowOf (suc k))) p e
row_left k p e h = refused-same (Then Number (λ n t. Any (RowOf k) t)) (Any (RowOf (suc k))) p e (row-to k) (row-from k) (refused-left Number (λ n t. Any (RowOf k) t) p e coded-number (λ n. some-row k) h)

pub row_right : (k n : ℕ) (p q : Reader) (e : ℕ) → Read (Number n) p q → Refused (Any (RowOf k)) q e → Refused (Any (RowOf (suc k))) p e
row_right k n p q e r h = refused-same (Then Number (λ n t. Any (RowOf k) t)) (Any (RowOf (suc k))) p e (row-to k) (row-from k) (refused-right Number (λ n t. Any (RowOf k) t) n p q e coded-number r h)

pub row_read : (n : ℕ) (ns : List ℕ) (p q r : Reader) → Read (Number n) p q → Read (Row ns) q r → Read (Row (n ∷ ns)) p r
row_read n ns p q r a b = (
  a.0 ++ b.0,
  a.1 ∙ ap (λ t. a.0 ++ t) b.1 ∙ sym (append_assoc a.0 b.0 r.left.now),
  rw length-append (omega (arith, a.2, b.2)),
  (a.0, b.0, refl, a.3, b.3),
)

-- the end of a line is a row of no numbers
pub end-row : (p : Reader) (e : ℕ) → Refused (Any End) p e → Refused (Any (RowOf 0)) p e
end-row p e h = refused-same (Any End) (Any (RowOf 0)) p e (λ t l. ([], (refl, l.1))) (λ t l. (tt, none l.0 t l.1.0 l.1.1)) h
  where
    none : (ns t : List ℕ) → length ns ≡ 0 → Row ns t → End tt t
    none [] t h r = r
    none (n ∷ ns) t h r = absurd (omega arith)

-- A row of N numbers that began at p: of i numbers the first ones of xs were read, and s is left. What is left decides the row
pub record RowSoFar (N i : ℕ) (xs : List ℕ) (p s : Reader) : Type 0 where
  pub long : length xs ≡ N
  pub read : (ns : List ℕ) (q : Reader) → Read (Row ns) s q → Read (Row (take i xs ++ ns)) p q
  pub refused : (e : ℕ) → Refused (Any (RowOf (N - i))) s e → Refused (Any (RowOf N)) p e

counted : (j k : ℕ) (p : Reader) (e : ℕ) → j ≡ k → Refused (Any (RowOf j)) p e → Refused (Any (RowOf k)) p e
counted j k p e h r = let P : ℕ → Type 0 = λ x. Refused (Any (RowOf x)) p e in subst P h r

pub row-begun : (N : ℕ) (xs : List ℕ) (p : Reader) → length xs ≡ N → RowSoFar N 0 xs p p
row-begun N xs p h = record { long = h; read = λ ns q r. r; refused = λ e r. counted (N - 0) N p e (omega arith) r }

pub row-goes-on : (N i n : ℕ) (xs : List ℕ) (p s q : Reader) → i < N → Read (Number n) s q → RowSoFar N i xs p s → RowSoFar N (i + 1) (set xs i n) p q
row-goes-on N i n xs p s q h r before = record {
  long = length-set xs i n ∙ before.long;
  read = λ ns z y.
      let P : List ℕ → Type 0 = λ t. Read (Row t) p z in
      let e : take i xs ++ (n ∷ ns) ≡ take (i + 1) (set xs i n) ++ ns = rw (add-one, take-suc-set xs i n (omega (arith, before.long))) (sym (append_assoc (take i xs) (n ∷ []) ns)) in
      subst P e (before.read (n ∷ ns) z (row_read n ns s q z r y));
  refused = λ e y. before.refused e (counted (suc (N - (i + 1))) (N - i) s e (omega arith) (row_right (N - (i + 1)) n s q e r y));
}

pub row-stops : (N i : ℕ) (xs : List ℕ) (p s : Reader) (e : ℕ) → i < N → Refused (Any Number) s e → RowSoFar N i xs p s → Refused (Any (RowOf N)) p e
row-stops N i xs p s e h r before = before.refused e (counted (suc (N - (i + 1))) (N - i) s e (omega arith) (row_left (N - (i + 1)) s e r))

pub row-open : (N i : ℕ) (xs : List ℕ) (p s : Reader) (e : ℕ) → N ≤ i → Refused (Any End) s e → RowSoFar N i xs p s → Refused (Any (RowOf N)) p e
row-open N i xs p s e h r before = before.refused e (counted 0 (N - i) s e (omega arith) (end-row s e r))

pub row-whole : (N i : ℕ) (xs : List ℕ) (p s q : Reader) → N ≤ i → Read (End tt) s q → RowSoFar N i xs p s → Read (Row xs) p q
row-whole N i xs p s q h r before =
    let P : List ℕ → Type 0 = λ t. Read (Row t) p q in
    subst P (append-nil (take i xs) ∙ take_all i xs (omega (arith, before.long))) (before.read [] q r)

-- The numbers of a note

pub one-note : (n : ℕ) (s : List ℕ) → Row (n ∷ []) s → NoteRest true (0, n) s
one-note n s h = ((refl, h.3.0), h.2 ∙ ap (λ x. x ++ h.1) h.3.1 ∙ ap (λ x. justified n ++ x) h.4)

pub note-one : (v : ℕ × ℕ) (s : List ℕ) → NoteRest true v s → Row (v.1 ∷ []) s
note-one v s h = (justified v.1, codes "\n", h.1, (h.0.1, refl), refl)

pub two-note : (a n : ℕ) (s : List ℕ) → Row (a ∷ n ∷ []) s → NoteRest false (a, n) s
two-note a n s h =
    let o = one-note n h.1 h.4 in
    ((h.3.0, o.0.1), h.2 ∙ ap (λ x. x ++ h.1) h.3.1 ∙ ap (λ x. justified a ++ x) o.1)

pub note-two : (v : ℕ × ℕ) (s : List ℕ) → NoteRest false v s → Row (v.0 ∷ v.1 ∷ []) s
note-two v s h = (justified v.0, justified v.1 ++ codes "\n", h.1, (h.0.0, refl), (justified v.1, codes "\n", refl, (h.0.1, refl), refl))

bare-note : (ns s : List ℕ) → length ns ≡ 1 → Row ns s → Any (NoteRest true) s
bare-note [] s h r = absurd (omega arith)
bare-note (n ∷ []) s h r = ((0, n), one-note n s r)
bare-note (n ∷ m ∷ ns) s h r = absurd (omega arith)

full-note : (ns s : List ℕ) → length ns ≡ 2 → Row ns s → Any (NoteRest false) s
full-note [] s h r = absurd (omega arith)
full-note (a ∷ []) s h r = absurd (omega arith)
full-note (a ∷ n ∷ []) s h r = ((a, n), two-note a n s r)
full-note (a ∷ n ∷ m ∷ ns) s h r = absurd (omega arith)

pub some-note : (b : Bool) → Viable (Any (NoteRest b)) []
some-note true = let r = some-row 1 in (r.0, bare-note r.1.0 r.0 r.1.1.0 r.1.1.1)
some-note false = let r = some-row 2 in (r.0, full-note r.1.0 r.0 r.1.1.0 r.1.1.1)

pub bare-refused : (b : Bool) (p : Reader) (x : ℕ) → not b ≡ false → Refused (Any (RowOf 1)) p x → Refused (Any (NoteRest b)) p x
bare-refused true p x e r = refused-same (Any (RowOf 1)) (Any (NoteRest true)) p x (λ t h. bare-note h.0 t h.1.0 h.1.1) (λ t h. (h.0.1 ∷ [], (refl, note-one h.0 t h.1))) r
bare-refused false p x e r = cc

pub full-refused : (b : Bool) (p : Reader) (x : ℕ) → not b ≡ true → Refused (Any (RowOf 2)) p x → Refused (Any (NoteRest b)) p x
full-refused false p x e r = refused-same (Any (RowOf 2)) (Any (NoteRest false)) p x (λ t h. full-note h.0 t h.1.0 h.1.1) (λ t h. (h.0.0 ∷ h.0.1 ∷ [], (refl, note-two h.0 t h.1))) r
full-refused true p x e r = cc

-- The line

-- what follows a tag
abbrev pub Tail : Tag → List ℕ → Type 0
Tail SizesTag s = Any (RowOf 3) s
Tail (NoteTag r) s = Any (NoteRest (actionless r)) s
Tail Close s = Any End s

tail-some : (t : Tag) → Viable (Tail t) []
tail-some SizesTag = some-row 3
tail-some (NoteTag r) = some-note (actionless r)
tail-some Close = some_end

three-sizes : (f a n : ℕ) (s : List ℕ) → Row (f ∷ a ∷ n ∷ []) s → (f < shown_below) × (a < shown_below) × (n < shown_below) × (s ≡ sizes_text f a n)
three-sizes f a n s h =
    let o = two-note a n h.1 h.4 in
    (h.3.0, o.0.0, o.0.1, h.2 ∙ ap (λ x. x ++ h.1) h.3.1 ∙ ap (λ x. justified f ++ x) o.1)

pub sizes-three : (f a n : ℕ) (s : List ℕ) → f < shown_below → a < shown_below → n < shown_below → s ≡ sizes_text f a n → Row (f ∷ a ∷ n ∷ []) s
sizes-three f a n s x y z e = (justified f, justified a ++ (justified n ++ codes "\n"), e, (x, refl), note-two (a, n) (justified a ++ (justified n ++ codes "\n")) ((y, z), refl))

sizes-line : (f x y z : ℕ) (s a b : List ℕ) → s ≡ a ++ b → TagAt f SizesTag a → Row (x ∷ y ∷ z ∷ []) b → LineAt f (Some (Sizes x y z)) s
sizes-line f x y z s a b e p q =
    let o = three-sizes x y z b q in
    (p.0, (o.0, o.1, o.2), e ∙ ap (λ x. x ++ b) p.1 ∙ ap (λ x. tag_text SizesTag ++ x) o.3)

some-sizes : (f : ℕ) (ns s a b : List ℕ) → length ns ≡ 3 → s ≡ a ++ b → TagAt f SizesTag a → Row ns b → Any (LineAt f) s
some-sizes f [] s a b h e p q = absurd (omega arith)
some-sizes f (x ∷ []) s a b h e p q = absurd (omega arith)
some-sizes f (x ∷ y ∷ []) s a b h e p q = absurd (omega arith)
some-sizes f (x ∷ y ∷ z ∷ []) s a b h e p q = (Some (Sizes x y z), sizes-line f x y z s a b e p q)
some-sizes f (x ∷ y ∷ z ∷ n ∷ ns) s a b h e p q = absurd (omega arith)

note-line : (f : ℕ) (r : Role) (v : ℕ × ℕ) (s a b : List ℕ) → s ≡ a ++ b → TagAt f (NoteTag r) a → NoteRest (actionless r) v b → LineAt f (Some (Note r v.0 v.1)) s
note-line f r v s a b e p q = (p.0, q.0, e ∙ ap (λ x. x ++ b) p.1 ∙ ap (λ x. tag_text (NoteTag r) ++ x) q.1)

close-line : (f : ℕ) (u : Unit {0}) (s a b : List ℕ) → s ≡ a ++ b → TagAt f Close a → End u b → LineAt f None s
close-line f u s a b e p q = (p.0, e ∙ ap (λ x. x ++ b) p.1 ∙ ap (λ x. tag_text Close ++ x) q)

line-to : (f : ℕ) (s : List ℕ) → Then (TagAt f) Tail s → Any (LineAt f) s
line-to f s t = go t.0 t.1 t.2 t.3 t.4 t.5
  where
    go : (t : Tag) (a b : List ℕ) → s ≡ a ++ b → TagAt f t a → Tail t b → Any (LineAt f) s
    go SizesTag a b e p q = some-sizes f q.0 s a b q.1.0 e p q.1.1
    go (NoteTag r) a b e p q = (Some (Note r q.0.0 q.0.1), note-line f r q.0 s a b e p q.1)
    go Close a b e p q = (None, close-line f q.0 s a b e p q.1)

line-from : (f : ℕ) (s : List ℕ) → Any (LineAt f) s → Then (TagAt f) Tail s
line-from f s l = go l.0 l.1
  where
    go : (o : Option Line) → LineAt f o s → Then (TagAt f) Tail s
    go (Some (Sizes x y z)) h = (SizesTag, tag_text SizesTag, sizes_text x y z, h.2, (h.0, refl), (x ∷ y ∷ z ∷ [], (refl, sizes-three x y z (sizes_text x y z) h.1.0 h.1.1 h.1.2 refl)))
    go (Some (Note r x y)) h = (NoteTag r, tag_text (NoteTag r), note_text (actionless r) (x, y), h.2, (h.0, refl), ((x, y), (h.1, refl)))
    go None h = (Close, tag_text Close, codes "\n", h.1, (h.0, refl), (tt, refl))

pub line-tag : (f : ℕ) (p : Reader) (e : ℕ) → Refused (Any (TagAt f)) p e → Refused (Any (LineAt f)) p e
line-tag f p e h = refused-same (Then (TagAt f) Tail) (Any (LineAt f)) p e (line-to f) (line-from f) (refused-left (TagAt f) Tail p e (coded-tag f) tail-some h)

pub line-tail : (f : ℕ) (t u : Tag) (p q : Reader) (e : ℕ) → t ≡ u → Read (TagAt f t) p q → Refused (Tail u) q e → Refused (Any (LineAt f)) p e
line-tail f t u p q e i r h =
    let P : Tag → Type 0 = λ x. Read (TagAt f x) p q in
    refused-same (Then (TagAt f) Tail) (Any (LineAt f)) p e (line-to f) (line-from f) (refused-right (TagAt f) Tail u p q e (coded-tag f) (subst P i r) h)
