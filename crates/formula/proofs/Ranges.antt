-- The clauses of the first step, and of start and goal, by one fact, action or event: what each turn of a loop puts.
-- Assumes nothing.
use Rattle.std.proofs.Common.{◌≡◌, ℕ, ◌+◌, ◌-◌, ◌*◌, ◌≤◌, Bool, cond, List, [], ◌∷◌, sym, ap, ◌∙◌, ap₂, arith}
use Rattle.encoding.specs.Clauses.{Literal, agenda_of, is, isnt, numbered, truth_of}
use Rattle.encoding.specs.Chains.{turn_at}
use Rattle.encoding.specs.Ranges.{count, each, only, total}
use Rattle.encoding.specs.Tables.{Table, relevant}
use Rattle.encoding.specs.Variables.{O, X, Y, number, variables}
use Rattle.encoding.proofs.Ranges.{count-more, total-more}
use Rattle.formula.specs.Parts.{kept_at}

-- One more of a count and of a total, where a loop stands at i: k is how far it then goes
pub count-next : (i k : ℕ) (f : ℕ → Bool) → 1 ≤ i → k ≡ i → count k f ≡ count (i - 1) f + cond (f i) 1 0
count-next i k f l h =
    let m : i - 1 + 1 ≡ i = omega arith in
    ap (λ j. count j f) (h ∙ sym m) ∙ count-more (i - 1) f ∙ ap (λ j. count (i - 1) f + cond (f j) 1 0) m

-- the same, where what is added is 1 if f holds and otherwise 0
pub counted : (i k m b : ℕ) (f : ℕ → Bool) → 1 ≤ i → k ≡ i → m ≡ count (i - 1) f → b ≡ cond (f i) 1 0 → m + b ≡ count k f
counted i k m b f l h e d = ap₂ ◌+◌ e d ∙ sym (count-next i k f l h)

pub total-next : (i k : ℕ) (f : ℕ → ℕ) → 1 ≤ i → k ≡ i → total k f ≡ total (i - 1) f + f i
total-next i k f l h =
    let m : i - 1 + 1 ≡ i = omega arith in
    ap (λ j. total j f) (h ∙ sym m) ∙ total-more (i - 1) f ∙ ap (λ j. total (i - 1) f + f j) m

abbrev pub start_at : Table → ℕ → List (List (Literal ℕ))
start_at T p = (cond (T.initial p) (is p) (isnt p) ∷ []) ∷ []

abbrev pub goal_at : Table → ℕ → List (List (Literal ℕ))
goal_at T p = only (T.goal p) ((is (number T (X 0 p)) ∷ []) ∷ [])

abbrev pub open_at : Table → ℕ → List (List (Literal ℕ))
open_at T a = (isnt (number T (O 0 a)) ∷ []) ∷ []

abbrev pub agenda_at : Table → ℕ → List (List (Literal ℕ))
agenda_at T a = agenda_of (number T (Y 1 (2 * a - 1))) (number T (Y 1 (2 * a))) (number T (O 0 a)) (number T (O 1 a))

abbrev pub kept_from : Table → ℕ → List (List (Literal ℕ))
kept_from T e = each T.actions (kept_at T e)

-- of an event's turn at fact p, where so many pairs come before those of the fact
abbrev pub turn_from : Table → (p before e : ℕ) → List (List (Literal ℕ))
turn_from T p before e = turn_at T p (variables T 0) before e (count e (λ d. relevant T d p))

-- of a fact
abbrev pub truth_from : Table → ℕ → List (List (Literal ℕ))
truth_from T p = numbered T (truth_of T 0 p)
