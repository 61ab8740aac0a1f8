-- What becomes of lent memory, for whoever lent it: the used part, and the rest as it was.
use Rattle.std.proofs.lemmas.Bool.Decides.{nat_tests}
use Rattle.std.proofs.Common.{◌≡◌, ℕ, ◌<◌, ◌≤◌, true, cond, ltb, List, [], ◌++◌, length, take, drop, ℤ, sym, refl, ap, ◌∙◌, ⊎_elim, arith}
use Rattle.std.proofs.lemmas.List.{take-append-drop, length-take-le, length-append, length-drop}
use Rattle.std.proofs.lemmas.Slice.{drop-append-drop}
use Rattle.std.proofs.lemmas.Bool.{cases_lt}
use Rattle.store.specs.declared.numbers.NumberStore.{NumberStore}
use Rattle.store.specs.declared.text.TextStore.{TextStore}
use Rattle.store.specs.Growth.{Grown, over}
use Rattle.store.specs.Numbers.{numbers_of, clauses_in}
use Rattle.store.specs.ReadBack.{clauses_of}
use Rattle.store.specs.Rendering.{header_of, text_of, shown_in, width, header_length}
use Rattle.store.proofs.Texts.{length-header, shown-is}

-- the front is new, and the rest as it was
over-from : {E : Type 0} (used : ℕ) (m n front : List E) → used ≤ length m → take used m ≡ front → drop used m ≡ drop used n → m ≡ over front n
over-from used m n front h e d =
    let l : length front ≡ used = ap length (sym e) ∙ length-take-le used m h in
    sym (take-append-drop used m) ∙ ap (λ t. t ++ drop used m) e ∙ ap (λ t. front ++ t) d ∙ ap (λ t. front ++ drop t n) (sym l)

-- a longer front written over another, which was the used part before
over-grown : {E : Type 0} (was is : ℕ) (m t n front₀ front : List E) → was ≤ length m → take was m ≡ front₀ → m ≡ over front₀ n → was ≤ is → drop is t ≡ drop is m → is ≤ length t → take is t ≡ front → t ≡ over front n
over-grown was is m t n front₀ front h e o g d l f =
    let k : length front₀ ≡ was = ap length (sym e) ∙ length-take-le was m h in
    over-from is t n front l f (d ∙ ap (drop is) o ∙ drop-append-drop (length front₀) n front₀ is (omega arith) refl)

length_over : {E : Type 0} (front m : List E) → length front ≤ length m → length (over front m) ≡ length m
length_over front m h = length-append front (drop (length front) m) ∙ omega (arith, length-drop (length front) m)

-- what an empty text store shows has room
shown-none-fits : (L : ℕ) → length (shown_in L []) ≤ L
shown-none-fits L = ⊎_elim (λ (l : L < header_length). short l) (λ (l : header_length ≤ L). long l) (cases_lt L header_length)
  where
    short : L < header_length → length (shown_in L []) ≤ L
    short l = let b : ltb L header_length ≡ true = grind (arith, nat_tests) in omega (arith, ap (λ b. length (cond b [] (text_of width []))) b)

    long : header_length ≤ L → length (shown_in L []) ≤ L
    long l = omega (arith, ap length (shown-is L [] l), length-append (header_of width 0 0) [], length-header 0 0 (omega arith) (omega arith))

-- A store s was made over memory d and became t, which holds cs, and was let go: what the memory then holds. The facts are what
-- `new` and `put`, or a call over every kind, promise.
pub numbers-left : (s t : NumberStore) (d : List ℤ) (cs : List (List ℤ)) → s.numbers.now ≡ d → Grown (λ x. x.numbers.ghost_name) (λ x. x.numbers.now) (λ x. x.used) s t → clauses_in (take t.used t.numbers.now) ≡ cs → (take t.used t.numbers.now ≡ numbers_of cs) × (t.numbers.now ≡ over (numbers_of cs) d)
numbers-left s t d cs m g h =
    let f : take t.used t.numbers.now ≡ numbers_of cs = t.laid ∙ ap numbers_of h in
    (f, over-from t.used t.numbers.now d (numbers_of cs) t.within f (g.beyond ∙ ap (drop t.used) m))

pub text-left : (s t : TextStore) (d : List ℕ) (cs : List (List ℤ)) → s.bytes.now ≡ over (shown_in (length d) []) d → clauses_of (take s.used s.bytes.now) ≡ [] → Grown (λ x. x.bytes.ghost_name) (λ x. x.bytes.now) (λ x. x.used) s t → clauses_of (take t.used t.bytes.now) ≡ cs → (take t.used t.bytes.now ≡ shown_in (length d) cs) × (t.bytes.now ≡ over (shown_in (length d) cs) d)
text-left s t d cs m n g h =
    let l : length s.bytes.now ≡ length d = ap length m ∙ length_over (shown_in (length d) []) d (shown-none-fits (length d)) in
    let a : take s.used s.bytes.now ≡ shown_in (length d) [] = s.shown ∙ ap (λ k. shown_in k (clauses_of (take s.used s.bytes.now))) l ∙ ap (shown_in (length d)) n in
    let f : take t.used t.bytes.now ≡ shown_in (length d) cs = t.shown ∙ ap (λ k. shown_in k (clauses_of (take t.used t.bytes.now))) (g.same_length ∙ l) ∙ ap (shown_in (length d)) h in
    (f, over-grown s.used t.used s.bytes.now t.bytes.now d (shown_in (length d) []) (shown_in (length d) cs) (omega (arith, s.within)) a m g.used_more g.beyond (omega (arith, t.within)) f)
