-- What the readers of one part leave to show.
use Rattle.std.proofs.Common.{◌≡◌, ℕ, ◌+◌, ◌-◌, ◌<◌, ◌≤◌, List, [], ◌++◌, length, take, drop, Ok, Err, Result, MatchResult, codes, sym, refl, ap, ◌∙◌, arith, lit<}
use Rattle.std.proofs.lemmas.List.{take_rest, take-append-drop, take_all, length-take-le}
use Rattle.std.proofs.lemmas.Result.{MatchResult-at_ok}
use Rattle.text.specs.declared.cursor.Reader.{Reader}
use Rattle.text.specs.declared.tags.Tag.{Tag}
use Rattle.text.specs.Numbers.{Number, justified}
use Rattle.text.specs.Reading.{End, Refused}
use Rattle.text.specs.Tags.{TagAt, tag_at}
use Rattle.text.specs.Texts.{Viable, Stuck, Any}
use Rattle.text.proofs.Joins.{coded-by-length}
use Rattle.text.proofs.Law.{field-long}
use Rattle.text.proofs.Letters.{tag-law}
use Rattle.text.proofs.Parts.{Coded}
use Rattle.text.proofs.Render.{field_of}
use Rattle.text.proofs.Shapes.{value_from}

-- The line feed

pub some_end : Viable (Any End) []
some_end = (codes "\n", (tt, refl))

-- The first n bytes

pub part-read : (L : List ℕ → Type 0) (s : List ℕ) (n at : ℕ) → n ≤ length s → L (take n s) → (x : List ℕ) × (s ≡ x ++ take (length s - n) (drop n s)) × (at + n ≡ at + length x) × L x
part-read L s n at h l = (take n s, rw take_rest (sym (take-append-drop n s)), rw length-take-le refl, l)

-- Numbers

pub number_short : (n : ℕ) (s : List ℕ) → Number n (take 4 s) → length s < 4 → ⊥
number_short n s h g = omega (arith, field-long n (take 4 s) h, ap length (take_all 4 s (omega arith)))

pub some_number : Viable (Any Number) []
some_number = (justified 0, (0, (lit< tt, refl)))

pub coded-number : Coded Number
coded-number = coded-by-length Number 4 field-long (λ x y a p q. (field_of x p.0).1 ∙ ap (value_from 0) (sym p.1 ∙ q.1) ∙ sym (field_of y q.0).1)

-- Tags

pub tag-ok : (f : ℕ) (s : List ℕ) (t : Tag) → Ok t ≡ tag_at f s → (2 ≤ length s) × TagAt f t (take 2 s)
tag-ok f s t e = MatchResult-at_ok (λ t. (2 ≤ length s) × TagAt f t (take 2 s)) (λ e. Stuck (Any (TagAt f)) s e) t (sym e) (tag-law f s)

-- An error that is given its place is a refusal there

pub refused-here : {X : Type 0} (L : List ℕ → Type 0) (A : X → Type 0) (p : Reader) (r : Result X ℕ) (e : ℕ) → MatchResult r (λ x. ⊥) (λ k. e ≡ p.at + k) → MatchResult r A (λ k. Stuck L p.left.now k) → Refused L p e
refused-here L A p (Ok x) e h g = absurd h
refused-here L A p (Err k) e h g = (k, h, g)
