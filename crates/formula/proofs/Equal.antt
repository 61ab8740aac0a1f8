-- Clauses over equal variables are equal.
-- Assumes nothing.
use Rattle.std.proofs.Common.{◌≡◌, ℕ, Bool, true, false, List, [], ◌∷◌, ◌++◌, refl, ◌∙◌}
use Rattle.encoding.specs.Clauses.{Literal, agenda_of, is, isnt, pass_on, same, same_unless, turn}
use Rattle.encoding.specs.Ranges.{only}

pub agenda-equal : (s s' f f' q q' o o' : ℕ) → s ≡ s' → f ≡ f' → q ≡ q' → o ≡ o' → agenda_of s f q o ≡ agenda_of s' f' q' o'
agenda-equal s s' f f' q q' o o' a b c d = rw (a, b, c, d) refl

pub kept-equal : (t t' : Bool) (y y' o o' : ℕ) → t ≡ t' → y ≡ y' → o ≡ o' → only t ((isnt y ∷ isnt o ∷ []) ∷ []) ≡ only t' ((isnt y' ∷ isnt o' ∷ []) ∷ [])
kept-equal t t' y y' o o' a b c = rw (a, b, c) refl

-- what is handed on, by what the event does to the fact
pub pass-added : (a d : Bool) (y v w : ℕ) (cs : List (List (Literal ℕ))) → a ≡ true → cs ≡ same_unless y v w → ((isnt y ∷ is w ∷ []) ∷ []) ++ cs ≡ pass_on a d y v w
unfolding pass_on
pass-added a d y v w cs h e = rw (h, e) refl

pub pass-deleted : (a d : Bool) (y v w : ℕ) (cs : List (List (Literal ℕ))) → a ≡ false → d ≡ true → cs ≡ same_unless y v w → ((isnt y ∷ isnt w ∷ []) ∷ []) ++ cs ≡ pass_on a d y v w
unfolding pass_on
pass-deleted a d y v w cs h k e = rw (h, k, e) refl

pub pass_same : (a d : Bool) (y v w : ℕ) (cs : List (List (Literal ℕ))) → a ≡ false → d ≡ false → cs ≡ same v w → cs ≡ pass_on a d y v w
unfolding pass_on
pass_same a d y v w cs h k e = e ∙ (rw (h, k) refl)

pub turn-equal : (r r' a a' d d' : Bool) (y y' v v' w w' : ℕ) → r ≡ r' → a ≡ a' → d ≡ d' → y ≡ y' → v ≡ v' → w ≡ w' → turn r a d y v w ≡ turn r' a' d' y' v' w'
turn-equal r r' a a' d d' y y' v v' w w' e f g h i j = rw (e, f, g, h, i, j) refl
