-- Tables: the facts and durative actions of a cell, their events, and what an event requires.
-- A table is a record of numbers and tests. Nothing here says how it lies in memory.
-- Assumes nothing.
use Rattle.std.specs.Prelude.{ℕ, ◌+◌, ◌*◌, ◌/◌, ◌%◌, Bool, not, ◌&&◌, ◌||◌, ◌==◌}
use Rattle.encoding.specs.Ranges.{some}

pub record Table : Type 0 where
  -- facts are numbered 1 .. facts, actions 1 .. actions
  pub facts : ℕ
  pub actions : ℕ
  -- of an event and a fact
  pub needs : ℕ → ℕ → Bool
  pub adds : ℕ → ℕ → Bool
  pub deletes : ℕ → ℕ → Bool
  -- of an action and a fact: the facts that hold while the action is open
  pub held : ℕ → ℕ → Bool
  -- of a fact
  pub initial : ℕ → Bool
  pub goal : ℕ → Bool

-- Each action has two events: event 2a - 1 starts action a, event 2a ends it
abbrev pub events : Table → ℕ
events T = 2 * T.actions

-- the action of an event
unfoldable pub owner : ℕ → ℕ
owner e = (e + 1) / 2

-- whether an event is a start
unfoldable pub starts : ℕ → Bool
starts e = e % 2 == 1

-- An event requires its needs, and a start also each held fact of its action that it does not add
unfoldable pub requires : Table → ℕ → ℕ → Bool
requires T e p = T.needs e p || (starts e && (T.held (owner e) p && not (T.adds e p)))

-- A fact is relevant to an event that requires, adds or deletes it
unfoldable pub relevant : Table → ℕ → ℕ → Bool
relevant T e p = requires T e p || (T.adds e p || T.deletes e p)

-- whether event e deletes a held fact of action a
unfoldable pub harms : Table → ℕ → ℕ → Bool
harms T e a = some T.facts (λ p. T.held a p && T.deletes e p)
