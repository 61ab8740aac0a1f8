-- What the clauses of one action, of one event's turn and of two equal variables say.
-- Assumes nothing.
use Rattle.std.proofs.Common.{◌≡◌, Bool, true, false, cond, not, ◌&&◌, ◌||◌, arith}
use Rattle.encoding.specs.Variables.{Var}
use Rattle.encoding.specs.Clauses.{Satisfies, agenda_of, pass_on, same, same_unless, turn}

-- what the clauses of an action say
abbrev pub Agenda : (s f q o : Bool) → Type 0
Agenda s f q o = (s ≡ true → q ≡ false) × (f ≡ true → (q || s) ≡ true) × (o ≡ ((q || s) && not f))

agenda-by-cases : (s f q o : Bool) → (not s || (not q || false)) ≡ true → (q || (not o || (s || false))) ≡ true → (not s || (f || (o || false))) ≡ true → (not f || (not o || false)) ≡ true
    → (not q || (o || (f || false))) ≡ true → (s || (not f || (q || false))) ≡ true → Agenda s f q o
agenda-by-cases s f q o h₁ h₂ h₃ h₄ h₅ h₆ = grind arith

pub agenda-says : (τ : Var → Bool) (s f q o : Var) → Satisfies τ (agenda_of s f q o) → Agenda (τ s) (τ f) (τ q) (τ o)
unfolding agenda_of
agenda-says τ s f q o h = agenda-by-cases (τ s) (τ f) (τ q) (τ o) h.0 h.1.0 h.1.1.0 h.1.1.1.0 h.1.1.1.1.0 h.1.1.1.1.1.0

clauses-by-cases : (s f q o : Bool) → Agenda s f q o → ((not s || (not q || false)) ≡ true) × ((q || (not o || (s || false))) ≡ true) × ((not s || (f || (o || false))) ≡ true) × ((not f || (not o || false)) ≡ true)
    × ((not q || (o || (f || false))) ≡ true) × ((s || (not f || (q || false))) ≡ true)
clauses-by-cases s f q o h = grind arith

pub agenda-satisfied : (τ : Var → Bool) (s f q o : Var) → Agenda (τ s) (τ f) (τ q) (τ o) → Satisfies τ (agenda_of s f q o)
unfolding agenda_of
agenda-satisfied τ s f q o h = let k = clauses-by-cases (τ s) (τ f) (τ q) (τ o) h in (k.0, (k.1, (k.2, (k.3, (k.4, (k.5, tt))))))

-- what the clauses of an event and a fact say
abbrev pub Turn : (r a d y v w : Bool) → Type 0
Turn r a d y v w = (y ≡ true → r ≡ true → v ≡ true) × (w ≡ cond y (a || (v && not d)) v)

pub turn-says : (τ : Var → Bool) (r a d : Bool) (y v w : Var) → Satisfies τ (turn r a d y v w) → Turn r a d (τ y) (τ v) (τ w)
unfolding turn pass_on same same_unless
turn-says τ true true d y v w h = grind arith
turn-says τ true false true y v w h = grind arith
turn-says τ true false false y v w h = grind arith
turn-says τ false true d y v w h = grind arith
turn-says τ false false true y v w h = grind arith
turn-says τ false false false y v w h = grind arith

pub turn-satisfied : (τ : Var → Bool) (r a d : Bool) (y v w : Var) → Turn r a d (τ y) (τ v) (τ w) → Satisfies τ (turn r a d y v w)
unfolding turn pass_on same same_unless
turn-satisfied τ true true d y v w h = grind arith
turn-satisfied τ true false true y v w h = grind arith
turn-satisfied τ true false false y v w h = grind arith
turn-satisfied τ false true d y v w h = grind arith
turn-satisfied τ false false true y v w h = grind arith
turn-satisfied τ false false false y v w h = grind arith

pub same-says : (τ : Var → Bool) (v w : Var) → Satisfies τ (same v w) → τ v ≡ τ w
unfolding same
same-says τ v w h = grind arith

pub same-satisfied : (τ : Var → Bool) (v w : Var) → τ v ≡ τ w → Satisfies τ (same v w)
unfolding same
same-satisfied τ v w h = grind arith
