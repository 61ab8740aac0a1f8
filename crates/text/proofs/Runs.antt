-- Lines one after another: how the end of reading what is left makes the end of reading it all.
use Rattle.std.proofs.Common.{◌≡◌, ℕ, ◌+◌, ◌-◌, ◌≤◌, true, List, [], ◌∷◌, ◌++◌, length, Some, None, Ok, Err, Option, Result, MatchResult, sym, refl, ap, ◌∙◌, subst, append_assoc, append-nil, arith, length-append}
use Rattle.table.specs.declared.roles.Role.{Role}
use Rattle.table.specs.declared.roles.Role.TheVariants.{Initial, Goal, StartNeeds, StartAdds, StartDeletes, EndNeeds, EndAdds, EndDeletes, Held}
use Rattle.table.specs.declared.faults.SizeFault.{SizeFault}
use Rattle.table.specs.declared.faults.NoteFault.{NoteFault}
use Rattle.table.specs.Calls.{size_answer, note_answer, granted, with_size, written_by}
use Rattle.table.specs.Entries.{Entries}
use Rattle.table.specs.Roles.{number_of, role_of, actionless}
use Rattle.text.specs.declared.cursor.Reader.{Reader}
use Rattle.text.specs.declared.faults.LineFault.{LineFault}
use Rattle.text.specs.declared.faults.Stop.{Stop}
use Rattle.text.specs.declared.faults.Stop.TheVariants.{Malformed, Refused as RefusedAt}
use Rattle.text.specs.declared.faults.TableFault.{TableFault}
use Rattle.text.specs.declared.lines.Line.{Line}
use Rattle.text.specs.declared.lines.Line.TheVariants.{Sizes, Note}
use Rattle.text.specs.declared.tags.Tag.TheVariants.{Sizes as SizesTag, Note as NoteTag, Close}
use Rattle.text.specs.Documents.{TextFrom, InOrder, rendering, lines_text, line_text, closing_text, rank_of, rank_after, steps_from, sizes_text, note_text}
use Rattle.text.specs.Ends.{Ends, fault_at}
use Rattle.text.specs.Outcomes.{by_size, by_note, answer_to, after_line, Done, Broken, InNextLine, Declined, Outcome}
use Rattle.text.specs.Reading.{Read, Refused, LineAt}
use Rattle.text.specs.Tags.{allows, tag_text}
use Rattle.text.specs.Texts.{Viable, Stuck, Any}
use Rattle.text.proofs.Codes.{coded-line}
use Rattle.text.proofs.Joins.{stuck-left, stuck-right}
use Rattle.text.proofs.Bad.{bad-same}
use Rattle.text.proofs.Letters.{tag-long}
use Rattle.text.proofs.Parts.{Then}

-- what follows a line
abbrev pub After : Option Line → List ℕ → Type 0
After (Some l) s = TextFrom (rank_of l) s
After None s = s ≡ []

-- a text may close after any line of the document
role-closes : (r : Role) → allows (number_of r) Close ≡ true
role-closes Initial = refl
role-closes Goal = refl
role-closes StartNeeds = refl
role-closes StartAdds = refl
role-closes StartDeletes = refl
role-closes EndNeeds = refl
role-closes EndAdds = refl
role-closes EndDeletes = refl
role-closes Held = refl

line-closes : (l : Line) → allows (rank_of l) Close ≡ true
line-closes (Sizes f a n) = refl
line-closes (Note r a p) = role-closes r

pub after-some : (o : Option Line) → Viable (After o) []
after-some (Some l) = (closing_text, ([], (tt, line-closes l), refl))
after-some None = ([], refl)

pub text-to : (f : ℕ) (s : List ℕ) → Then (LineAt f) After s → TextFrom f s
text-to f s t = go t.0 t.1 t.2 t.3 t.4 t.5
  where
    go : (o : Option Line) (a b : List ℕ) → s ≡ a ++ b → LineAt f o a → After o b → TextFrom f s
    go (Some l) a b e p q =
        (l ∷ q.0, ((p.0, p.1, q.1.0), q.1.1), e ∙ ap (λ x. x ++ b) p.2 ∙ ap (λ x. line_text l ++ x) q.2 ∙ sym (append_assoc (line_text l) (lines_text q.0) closing_text))
    go None a b e p q = ([], (tt, p.0), e ∙ ap (λ x. a ++ x) q ∙ append-nil a ∙ p.1)

pub text-from : (f : ℕ) (s : List ℕ) → TextFrom f s → Then (LineAt f) After s
text-from f s t = go t.0 t.1.0 t.1.1 t.2
  where
    go : (ls : List Line) → InOrder f ls → allows (rank_after f ls) Close ≡ true → s ≡ rendering ls → Then (LineAt f) After s
    go [] i c e = (None, s, [], sym (append-nil s), (c, e), refl)
    go (l ∷ ls) i c e = (Some l, line_text l, rendering ls, e ∙ append_assoc (line_text l) (lines_text ls) closing_text, (i.0, i.1, refl), (ls, (i.2, c), refl))

stuck-same : (L M : List ℕ → Type 0) (s : List ℕ) (k : ℕ) → ((t : List ℕ) → L t → M t) → ((t : List ℕ) → M t → L t) → Stuck L s k → Stuck M s k
stuck-same L M s k f g h = (bad-same L M s k f g h.0, (λ m. h.1 (g _ m)))

-- stuck in the first line, or after it
text-stuck : (f : ℕ) (s : List ℕ) (k : ℕ) → Stuck (Any (LineAt f)) s k → Stuck (TextFrom f) s k
text-stuck f s k h = stuck-same (Then (LineAt f) After) (TextFrom f) s k (text-to f) (text-from f) (stuck-left (LineAt f) After s k (coded-line f) after-some h)

later-stuck : (f : ℕ) (l : Line) (t : List ℕ) (k : ℕ) → LineAt f (Some l) (line_text l) → Stuck (TextFrom (rank_of l)) t k → Stuck (TextFrom f) (line_text l ++ t) (length (line_text l) + k)
later-stuck f l t k a h =
    stuck-same (Then (LineAt f) After) (TextFrom f) (line_text l ++ t) (length (line_text l) + k) (text-to f) (text-from f) (stuck-right (LineAt f) After (Some l) (line_text l) t k (coded-line f) a h)

-- A granted line before what is left

done_more : (f m n : ℕ) (E T : Entries) (l : Line) (s t rest : List ℕ) → LineAt f (Some l) (line_text l) → s ≡ line_text l ++ t → answer_to E l ≡ Ok tt → Done (rank_of l) (steps_from m l) (after_line E l) t n rest T → Done f m E s n rest T
done_more f m n E T l s t rest a e g d = (
  l ∷ d.0,
  ((a.0, a.1, d.1.0), (g, d.1.1), d.1.2),
  d.2,
  e ∙ ap (λ x. line_text l ++ x) d.3 ∙ sym (append_assoc (line_text l) (rendering d.0) rest) ∙ ap (λ x. x ++ rest) (sym (append_assoc (line_text l) (lines_text d.0) closing_text)),
  d.4,
)

next_more : (f k : ℕ) (E T : Entries) (l : Line) (s t : List ℕ) → LineAt f (Some l) (line_text l) → s ≡ line_text l ++ t → answer_to E l ≡ Ok tt → InNextLine (rank_of l) (after_line E l) t k T → InNextLine f E s (length (line_text l) + k) T
next_more f k E T l s t a e g d = (
  l ∷ d.0,
  d.1,
  d.2,
  ((a.0, a.1, d.3.0), (g, d.3.1), d.3.2),
  e ∙ ap (λ x. line_text l ++ x) d.4 ∙ sym (append_assoc (line_text l) (lines_text d.0) d.1),
  omega (arith, d.5, length-append (line_text l) (lines_text d.0)),
  d.6,
)

broken-more : (f k : ℕ) (E T : Entries) (l : Line) (s t : List ℕ) → LineAt f (Some l) (line_text l) → s ≡ line_text l ++ t → answer_to E l ≡ Ok tt → Broken (rank_of l) (after_line E l) t k T → Broken f E s (length (line_text l) + k) T
broken-more f k E T l s t a e g d = (
  (let P : List ℕ → Type 0 = λ x. Stuck (TextFrom f) x (length (line_text l) + k) in subst P (sym e) (later-stuck f l t k a d.0)),
  next_more f k E T l s t a e g d.1,
)

declined-more : (f k : ℕ) (E T : Entries) (fault : LineFault) (l : Line) (s t : List ℕ) → LineAt f (Some l) (line_text l) → s ≡ line_text l ++ t → answer_to E l ≡ Ok tt → Declined (rank_of l) (after_line E l) t k fault T → Declined f E s (length (line_text l) + k) fault T
declined-more f k E T fault l s t a e g d = (
  l ∷ d.0,
  d.1,
  d.2,
  ((a.0, a.1, d.3.0), (g, d.3.1), d.3.2),
  d.4,
  d.5,
  e ∙ ap (λ x. line_text l ++ x) d.6 ∙ sym (append_assoc (line_text l) (lines_text d.0) (line_text d.1 ++ d.2)),
  omega (arith, d.7, length-append (line_text l) (lines_text d.0)),
  d.8,
)

line_read : (f : ℕ) (l : Line) (p q : Reader) → Read (LineAt f (Some l)) p q → LineAt f (Some l) (line_text l) × (p.left.now ≡ line_text l ++ q.left.now) × (q.at ≡ p.at + length (line_text l))
line_read f l p q r = ((r.3.0, r.3.1, refl), r.1 ∙ ap (λ x. x ++ q.left.now) r.3.2, r.2 ∙ ap (λ x. p.at + length x) r.3.2)

pub ends_more : (f m : ℕ) (E T : Entries) (l : Line) (p q z : Reader) (r : Result ℕ Stop) → Read (LineAt f (Some l)) p q → answer_to E l ≡ Ok tt → Ends (rank_of l) (steps_from m l) (after_line E l) q r T z → Ends f m E p r T z
ends_more f m E T l p q z (Ok n) r g d =
    let h = line_read f l p q r in done_more f m n E T l p.left.now q.left.now z.left.now h.0 h.1 g d
ends_more f m E T l p q z (Err (Malformed at)) r g d =
    let h = line_read f l p q r in
    (length (line_text l) + d.0, omega (arith, d.1, h.2), broken-more f d.0 E T l p.left.now q.left.now h.0 h.1 g d.2)
ends_more f m E T l p q z (Err (RefusedAt at fault)) r g d =
    let h = line_read f l p q r in
    (length (line_text l) + d.0, omega (arith, d.1, h.2), declined-more f d.0 E T fault l p.left.now q.left.now h.0 h.1 g d.2)

-- The last line

pub ends_close : (f m : ℕ) (E : Entries) (p q : Reader) → Read (LineAt f None) p q → Ends f m E p (Ok m) E q
ends_close f m E p q r = ([], (tt, tt, refl), r.3.0, r.1 ∙ ap (λ x. x ++ q.left.now) r.3.1, refl)

pub ends_stuck : (f m : ℕ) (E : Entries) (p q : Reader) (e : ℕ) → Refused (Any (LineAt f)) p e → Ends f m E p (Err (Malformed e)) E q
ends_stuck f m E p q e h =
    (h.0, h.1, (text-stuck f p.left.now h.0 h.2, ([], p.left.now, h.0, (tt, tt, refl), refl, omega arith, h.2)))

-- a refused line leaves the table as it was
pub kept : (E : Entries) (l : Line) (fault : LineFault) → answer_to E l ≡ Err fault → after_line E l ≡ E
kept E (Sizes f a n) fault h = go (size_answer E f a) h
  where
    go : (r : Result (Unit {0}) SizeFault) → by_size r ≡ Err fault → granted r E (with_size E f a) ≡ E
    go (Ok x) h = cc
    go (Err x) h = refl
kept E (Note r a p) fault h = go (note_answer E (number_of r) a p) h
  where
    go : (x : Result (Unit {0}) NoteFault) → by_note x ≡ Err fault → granted x E (written_by (role_of (number_of r)) E a p) ≡ E
    go (Ok x) h = cc
    go (Err x) h = refl

pub line-long : (l : Line) → 2 ≤ length (line_text l)
line-long (Sizes f a n) = omega (arith, tag-long SizesTag, length-append (tag_text SizesTag) (sizes_text f a n))
line-long (Note r a p) = omega (arith, tag-long (NoteTag r), length-append (tag_text (NoteTag r)) (note_text (actionless r) (a, p)))

pub ends-refused : (f m : ℕ) (E T : Entries) (l : Line) (fault : LineFault) (p q : Reader) → Read (LineAt f (Some l)) p q → answer_to E l ≡ Err fault → T ≡ after_line E l → Ends f m E p (Err (RefusedAt (q.at - 1) fault)) T q
ends-refused f m E T l fault p q r g t =
    let h = line_read f l p q r in
    let k = t ∙ kept E l fault g in (
      length (line_text l) - 1,
      omega (arith, h.2, line-long l),
      ([], l, q.left.now, (tt, tt, k), h.0.0, h.0.1, h.1, omega (arith, line-long l), ap (λ X. answer_to X l) k ∙ g),
    )

pub lined : (f : ℕ) (o : Option Line) (l : Line) (p q : Reader) → o ≡ Some l → Read (LineAt f o) p q → Read (LineAt f (Some l)) p q
lined f o l p q e r = let P : Option Line → Type 0 = λ x. Read (LineAt f x) p q in subst P e r

pub closed : (f : ℕ) (o : Option Line) (p q : Reader) → o ≡ None → Read (LineAt f o) p q → Read (LineAt f None) p q
closed f o p q e r = let P : Option Line → Type 0 = λ x. Read (LineAt f x) p q in subst P e r

-- the same, with the rank, the steps and the table after the line as they were worked out
pub ends_next : (f m g n : ℕ) (E D T : Entries) (l : Line) (p q z : Reader) (r : Result ℕ Stop)
    → g ≡ rank_of l → n ≡ steps_from m l → D ≡ after_line E l → Read (LineAt f (Some l)) p q → answer_to E l ≡ Ok tt → Ends g n D q r T z → Ends f m E p r T z
ends_next f m g n E D T l p q z r x y w a h d =
    let P : ℕ → Type 0 = λ i. Ends i n D q r T z in
    let Q : ℕ → Type 0 = λ i. Ends (rank_of l) i D q r T z in
    let R : Entries → Type 0 = λ X. Ends (rank_of l) (steps_from m l) X q r T z in
    ends_more f m E T l p q z r a h (subst R w (subst Q y (subst P x d)))

-- The place of a fault lies in the text

stop-here : (E T : Entries) (p q : Reader) (x : Stop) → p.at ≡ 0 → Ends 0 0 E p (Err x) T q → Outcome E p.left.now (Err (fault_at p.left.now x)) T
stop-here E T p q (Malformed e) z h =
    let k : h.0 ≡ e = omega (arith, h.1) in
    let P : ℕ → Type 0 = λ x. Broken 0 E p.left.now x T in
    (e, refl, subst P k h.2)
stop-here E T p q (RefusedAt e fault) z h =
    let k : h.0 ≡ e = omega (arith, h.1) in
    let P : ℕ → Type 0 = λ x. Declined 0 E p.left.now x fault T in
    (e, refl, subst P k h.2)

pub stop-outcome : (E T : Entries) (p q : Reader) (s : List ℕ) (x : Stop) (r : TableFault) → p.left.now ≡ s → p.at ≡ 0 → r ≡ fault_at s x → Ends 0 0 E p (Err x) T q → Outcome E s (Err r) T
stop-outcome E T p q s x r e z g h =
    let P : List ℕ → Type 0 = λ t. Outcome E t (Err (fault_at t x)) T in
    let Q : TableFault → Type 0 = λ y. Outcome E s (Err y) T in
    subst Q (sym g) (subst P e (stop-here E T p q x z h))

-- the same where the stop is known only by the fault that it is
pub fault-outcome : (E T : Entries) (p q : Reader) (s : List ℕ) (r : Result ℕ Stop) (e : TableFault) → p.left.now ≡ s → p.at ≡ 0 → MatchResult r (λ n. ⊥) (λ x. e ≡ fault_at s x) → Ends 0 0 E p r T q → Outcome E s (Err e) T
fault-outcome E T p q s (Ok n) e l z g h = absurd g
fault-outcome E T p q s (Err x) e l z g h = stop-outcome E T p q s x e l z g h

pub done-outcome : (E T : Entries) (p q : Reader) (s : List ℕ) (n : ℕ) → p.left.now ≡ s → Ends 0 0 E p (Ok n) T q → Outcome E s (Ok (n, q.left.now)) T
done-outcome E T p q s n e h = let P : List ℕ → Type 0 = λ t. Outcome E t (Ok (n, q.left.now)) T in subst P e h
