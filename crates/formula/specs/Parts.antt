-- A part of the first step's clauses, for the contracts of inner functions. No public contract cites it.
-- Assumes nothing.
use Rattle.std.specs.Prelude.{ℕ, cond, not, ◌&&◌, List, [], ◌∷◌, ◌==◌, nat_lt}
use Rattle.encoding.specs.Clauses.{Literal, isnt}
use Rattle.encoding.specs.Ranges.{only}
use Rattle.encoding.specs.Tables.{Table, harms, owner}
use Rattle.encoding.specs.Variables.{O, Y, number}

-- the kept clause of an event and an action, if there is one
abbrev pub kept_at : Table → (e a : ℕ) → List (List (Literal ℕ))
kept_at T e a = only (not (a == owner e) && harms T e a) ((isnt (number T (Y 1 e)) ∷ isnt (number T (O (cond (nat_lt a (owner e)) 1 0) a)) ∷ []) ∷ [])
