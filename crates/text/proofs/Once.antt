-- There is one outcome: two outcomes of one text pass the same lines, and then end alike.
use Rattle.std.proofs.Common.{◌≡◌, ℕ, suc, ◌+◌, ◌-◌, ◌<◌, true, ◌⊎◌, List, [], ◌∷◌, ◌++◌, length, take, drop, Some, None, Ok, Err, Result, sym, refl, ap, ◌∙◌, subst, inl, inr, append_assoc, arith, length-append}
use Rattle.std.proofs.lemmas.List.{take-append-drop, length-take-le}
use Rattle.table.specs.Entries.{Entries}
use Rattle.text.specs.declared.faults.LineFault.{LineFault}
use Rattle.text.specs.declared.faults.TableFault.TheVariants.{Malformed, Refused}
use Rattle.text.specs.declared.lines.Line.{Line}
use Rattle.text.specs.declared.tags.Tag.TheVariants.{Close}
use Rattle.text.specs.Documents.{InOrder, Writable, closing_text, line_text, lines_text, rank_after, rank_of, steps_of, tag_in}
use Rattle.text.specs.Outcomes.{Answer, Granted, NoOther, Outcome, after_line, after_lines, answer_to}
use Rattle.text.specs.Places.{place_of}
use Rattle.text.specs.Reading.{LineAt}
use Rattle.text.specs.Tags.{allows}
use Rattle.text.specs.Texts.{Stuck, Any}
use Rattle.text.proofs.Bad.{bad-once}
use Rattle.text.proofs.Codes.{coded-line}
use Rattle.text.proofs.Joins.{inside, begins, same_parts}
use Rattle.text.proofs.Parts.{Coded}

-- where a text gets stuck it does not begin with a text of the language
pub stuck-not : {X : Type 0} (A : X → List ℕ → Type 0) (s a b : List ℕ) (k : ℕ) (x : X) → Coded A → Stuck (Any A) s k → A x a → s ≡ a ++ b → ⊥
stuck-not A s a b k x code h l e =
    let i : length (take k s) < length a = inside A (take k s) (drop k s) b a x code h.0.0 h.1 l (take-append-drop k s ∙ e) in
    let n : length s ≡ length a + length b = ap length e ∙ length-append a b in
    elim h.0.1 [
      | inl y ↦ (
          let m : length (take k s) ≡ k = length-take-le k s (omega (arith, y.0)) in
          let o : length (take (suc k) s) ≡ suc k = length-take-le (suc k) s y.0 in
          let r = begins (take (suc k) s) (drop (suc k) s) a b (omega arith) (take-append-drop (suc k) s ∙ e) in
          let P : List ℕ → Type 0 = A x in
          y.1 (drop (length (take (suc k) s)) a, (x, subst P (sym r) l)))
      | inr y ↦ (let m : length (take k s) ≡ k = length-take-le k s (omega (arith, y.0)) in omega (arith, y.0))
    ]

-- How reading ends after the last line that is granted: the closing line and a rest, a bad byte, or a refused line and a rest
abbrev Finish : Type 0
Finish = (List ℕ) ⊎ (ℕ ⊎ (Line × (List ℕ × LineFault)))

abbrev Ending : Finish → ℕ → Entries → List ℕ → Type 0
Ending (inl rest) g T t = (allows g Close ≡ true) × (t ≡ closing_text ++ rest)
Ending (inr (inl j)) g T t = Stuck (Any (LineAt g)) t j
Ending (inr (inr x)) g T t = (allows g (tag_in x.0) ≡ true) × Writable x.0 × (t ≡ line_text x.0 ++ x.1.0) × (answer_to T x.0 ≡ Err x.1.1)

some-line : (l m : Line) → Some l ≡ Some m → l ≡ m
some-line l m e = cc

no_line : (l : Line) → None ≡ Some l → ⊥
no_line l e = cc

not-both : (e : LineFault) (r : Result (Unit {0}) LineFault) → r ≡ Ok tt → r ≡ Err e → ⊥
not-both e r p q = cc

one-fault : (d e : LineFault) (r : Result (Unit {0}) LineFault) → r ≡ Err d → r ≡ Err e → d ≡ e
one-fault d e r p q = cc

-- two lines at one place are one line, and the same follows
one_line : (g : ℕ) (l m : Line) (t u v : List ℕ) → LineAt g (Some l) (line_text l) → LineAt g (Some m) (line_text m) → t ≡ line_text l ++ u → t ≡ line_text m ++ v → (l ≡ m) × (u ≡ v)
one_line g l m t u v p q d e =
    let c = coded-line g (Some l) (Some m) (line_text l) (line_text m) u v p q (sym d ∙ e) in
    (some-line l m c.0, (same_parts (line_text l) (line_text m) u v (ap length c.1) (sym d ∙ e)).1)

close-apart : (g : ℕ) (l : Line) (t u v : List ℕ) → allows g Close ≡ true → LineAt g (Some l) (line_text l) → t ≡ closing_text ++ u → t ≡ line_text l ++ v → ⊥
close-apart g l t u v p q d e = no_line l (coded-line g None (Some l) closing_text (line_text l) u v (p, refl) q (sym d ∙ e)).0

-- after an ending comes no granted line
ended : (x : Finish) (g : ℕ) (T : Entries) (l : Line) (t v : List ℕ) → Ending x g T t → LineAt g (Some l) (line_text l) → t ≡ line_text l ++ v → answer_to T l ≡ Ok tt → ⊥
ended (inl rest) g T l t v h q e o = close-apart g l t rest v h.0 q h.1 e
ended (inr (inl j)) g T l t v h q e o = stuck-not (LineAt g) t (line_text l) v j (Some l) (coded-line g) h q e
ended (inr (inr x)) g T l t v h q e o =
    let c = one_line g x.0 l t x.1.0 v (h.0, h.1, refl) q h.2 e in
    not-both x.1.1 (answer_to T l) o (ap (answer_to T) (sym c.0) ∙ h.3)

one-ending : (x y : Finish) (g : ℕ) (T : Entries) (t : List ℕ) → Ending x g T t → Ending y g T t → x ≡ y
one-ending (inl a) (inl b) g T t p q = ap inl (same_parts closing_text closing_text a b refl (sym p.1 ∙ q.1)).1
one-ending (inl a) (inr (inl j)) g T t p q = absurd (stuck-not (LineAt g) t closing_text a j None (coded-line g) q (p.0, refl) p.1)
one-ending (inl a) (inr (inr y)) g T t p q = absurd (close-apart g y.0 t a y.1.0 p.0 (q.0, q.1, refl) p.1 q.2)
one-ending (inr (inl i)) (inl b) g T t p q = absurd (stuck-not (LineAt g) t closing_text b i None (coded-line g) p (q.0, refl) q.1)
one-ending (inr (inl i)) (inr (inl j)) g T t p q = ap (λ k. inr (inl k)) (bad-once (Any (LineAt g)) t i j p.0 q.0)
one-ending (inr (inl i)) (inr (inr y)) g T t p q = absurd (stuck-not (LineAt g) t (line_text y.0) y.1.0 i (Some y.0) (coded-line g) p (q.0, q.1, refl) q.2)
one-ending (inr (inr x)) (inl b) g T t p q = absurd (close-apart g x.0 t b x.1.0 q.0 (p.0, p.1, refl) q.1 p.2)
one-ending (inr (inr x)) (inr (inl j)) g T t p q = absurd (stuck-not (LineAt g) t (line_text x.0) x.1.0 j (Some x.0) (coded-line g) q (p.0, p.1, refl) p.2)
one-ending (inr (inr x)) (inr (inr y)) g T t p q =
    let c = one_line g x.0 y.0 t x.1.0 y.1.0 (p.0, p.1, refl) (q.0, q.1, refl) p.2 q.2 in
    let d = one-fault x.1.1 y.1.1 (answer_to T x.0) p.3 (ap (answer_to T) c.0 ∙ q.3) in
    ap (λ l. inr (inr (l, (x.1.0, x.1.1)))) c.0 ∙ ap (λ u. inr (inr (y.0, (u, x.1.1)))) c.1 ∙ ap (λ e. inr (inr (y.0, (y.1.0, e)))) d

-- lines that are granted, and then an ending
abbrev Run : ℕ → Entries → List ℕ → List Line → List ℕ → Finish → Type 0
Run f E s ls t x = InOrder f ls × Granted E ls × (s ≡ lines_text ls ++ t) × Ending x (rank_after f ls) (after_lines E ls) t

step : (f : ℕ) (E : Entries) (l : Line) (ls : List Line) (s t u : List ℕ) (x : Finish) → s ≡ line_text l ++ u → Run f E s (l ∷ ls) t x → Run (rank_of l) (after_line E l) u ls t x
step f E l ls s t u x e r =
    (r.0.2, r.1.1, (same_parts (line_text l) (line_text l) u (lines_text ls ++ t) refl (sym e ∙ r.2 ∙ append_assoc (line_text l) (lines_text ls) t)).1, r.3)

one-run : (ls ms : List Line) (f : ℕ) (E : Entries) (s t u : List ℕ) (x y : Finish) → Run f E s ls t x → Run f E s ms u y → (ls ≡ ms) × (x ≡ y)
one-run [] [] f E s t u x y p q =
    let P : List ℕ → Type 0 = λ z. Ending y f E z in
    (refl, one-ending x y f E t p.3 (subst P (sym q.2 ∙ p.2) q.3))
one-run [] (m ∷ ms) f E s t u x y p q =
    absurd (ended x f E m t (lines_text ms ++ u) p.3 (q.0.0, q.0.1, refl) (sym p.2 ∙ q.2 ∙ append_assoc (line_text m) (lines_text ms) u) q.1.0)
one-run (l ∷ ls) [] f E s t u x y p q =
    absurd (ended y f E l u (lines_text ls ++ t) q.3 (p.0.0, p.0.1, refl) (sym q.2 ∙ p.2 ∙ append_assoc (line_text l) (lines_text ls) t) p.1.0)
one-run (l ∷ ls) (m ∷ ms) f E s t u x y p q =
    let d : s ≡ line_text l ++ (lines_text ls ++ t) = p.2 ∙ append_assoc (line_text l) (lines_text ls) t in
    let e : s ≡ line_text m ++ (lines_text ms ++ u) = q.2 ∙ append_assoc (line_text m) (lines_text ms) u in
    let c = one_line f l m s (lines_text ls ++ t) (lines_text ms ++ u) (p.0.0, p.0.1, refl) (q.0.0, q.0.1, refl) d e in
    let P : Line → Type 0 = λ k. Run f E s (k ∷ ms) u y in
    let w : s ≡ line_text l ++ (lines_text ls ++ t) = d in
    let r = one-run ls ms (rank_of l) (after_line E l) (lines_text ls ++ t) t u x y (step f E l ls s t (lines_text ls ++ t) x d p) (step f E l ms s u (lines_text ls ++ t) y d (subst P (sym c.0) q)) in
    (ap (λ k. k ∷ ls) c.0 ∙ ap (λ ks. m ∷ ks) r.0, r.1)

-- what an ending answers
abbrev answer_of : List ℕ → List Line → Finish → Answer
answer_of s ls (inl rest) = Ok (steps_of 0 ls, rest)
answer_of s ls (inr (inl j)) = Err (Malformed (place_of (take (length (lines_text ls) + j) s)).0 (place_of (take (length (lines_text ls) + j) s)).1)
answer_of s ls (inr (inr x)) = Err (Refused (place_of (take (length (lines_text ls) + length (line_text x.0) - 1) s)).0 x.1.1)

abbrev Passed : Entries → List ℕ → Answer → Entries → Type 0
Passed E s r T = (ls : List Line) × (t : List ℕ) × (x : Finish) × Run 0 E s ls t x × (T ≡ after_lines E ls) × (r ≡ answer_of s ls x)

outcome-run : (E T : Entries) (s : List ℕ) (r : Answer) → Outcome E s r T → Passed E s r T
outcome-run E T s (Ok v) h =
    (h.0, closing_text ++ v.1, inl v.1, (h.1.0, h.1.1, h.3 ∙ append_assoc (lines_text h.0) closing_text v.1, (h.2, refl)), h.1.2, ap (λ n. Ok (n, v.1)) h.4)
outcome-run E T s (Err (Malformed line column)) h =
    let d = h.2.1 in
    let k = place_of (take (length (lines_text d.0) + d.2) s) in
    let e : ◌≡◌ {A = ℕ × ℕ} (line, column) k = h.1 ∙ ap (λ i. place_of (take i s)) d.5 in
    (d.0, d.1, inr (inl d.2), (d.3.0, d.3.1, d.4, d.6), d.3.2, ap (λ p. Err (Malformed p.0 p.1)) e)
outcome-run E T s (Err (Refused line fault)) h =
    let d = h.2 in
    let i : h.0 ≡ length (lines_text d.0) + length (line_text d.1) - 1 = omega (arith, d.7) in (
      d.0,
      line_text d.1 ++ d.2,
      inr (inr (d.1, (d.2, fault))),
      (d.3.0, d.3.1, d.6, (d.4, d.5, refl, ap (λ X. answer_to X d.1) (sym d.3.2) ∙ d.8)),
      d.3.2,
      ap (λ n. Err (Refused n fault)) (h.1 ∙ ap (λ n. (place_of (take n s)).0) i),
    )

pub no_other : (E T : Entries) (s : List ℕ) (r : Answer) → Outcome E s r T → NoOther E s r T
no_other E T s r h q U g =
    let a = outcome-run E T s r h in
    let b = outcome-run E U s q g in
    let c = one-run b.0 a.0 0 E s b.1 a.1 b.2 a.2 b.3 a.3 in (
      b.5 ∙ ap (λ ls. answer_of s ls b.2) c.0 ∙ ap (λ x. answer_of s a.0 x) c.1 ∙ sym a.5,
      b.4 ∙ ap (after_lines E) c.0 ∙ sym a.4,
    )
