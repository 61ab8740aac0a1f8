-- Histories of a draft: calls of size and note in any order, granted or refused, and the table that the granted ones name.
-- `named` is made from the granted calls alone; that a draft's table is always that one is the law `Faithful`.
-- Assumes nothing.
use Rattle.std.specs.Prelude.{◌≡◌, ℕ, Bool, true, false, ◌&&◌, ◌||◌, List, [], ◌∷◌, is_ok, ◌==◌}
use Rattle.table.specs.declared.roles.Role.{Role}
use Rattle.table.specs.Roles.{number_of}
use Rattle.table.specs.Entries.{Entries, blank}
use Rattle.table.specs.Calls.{size_answer, note_answer, after_size, after_note}

-- A call with its arguments: facts and actions; role, action and fact
pub data DraftCall : Type 0 where
  size : ℕ → ℕ → DraftCall
  note : ℕ → ℕ → ℕ → DraftCall

-- whether a table grants a call, and the table after it
abbrev pub grants : Entries → DraftCall → Bool
grants E (size f n) = is_ok (size_answer E f n)
grants E (note r a p) = is_ok (note_answer E r a p)

abbrev pub after : Entries → DraftCall → Entries
after E (size f n) = after_size E f n
after E (note r a p) = after_note E r a p

-- The table after a history, one call after another
unfoldable pub replayed : Entries → List DraftCall → Entries
replayed E [] = E
replayed E (c ∷ cs) = replayed (after E c) cs

-- The calls of a history that are granted
abbrev pub kept_if : Bool → DraftCall → List DraftCall → List DraftCall
kept_if true c cs = c ∷ cs
kept_if false c cs = cs

unfoldable pub granted : Entries → List DraftCall → List DraftCall
granted E [] = []
granted E (c ∷ cs) = kept_if (grants E c) c (granted (after E c) cs)

-- The sizes of the last call of size, or else f and n
unfoldable pub last_facts : ℕ → List DraftCall → ℕ
last_facts f [] = f
last_facts f (size g n ∷ cs) = last_facts g cs
last_facts f (note r a p ∷ cs) = last_facts f cs

unfoldable pub last_actions : ℕ → List DraftCall → ℕ
last_actions n [] = n
last_actions n (size g m ∷ cs) = last_actions m cs
last_actions n (note r a p ∷ cs) = last_actions n cs

-- whether a call is just this note
abbrev pub is_note : DraftCall → Role → ℕ → ℕ → Bool
is_note (size f n) s b q = false
is_note (note r a p) s b q = number_of s == r && (b == a && q == p)

unfoldable pub noted : List DraftCall → Role → ℕ → ℕ → Bool
noted [] s b q = false
noted (c ∷ cs) s b q = is_note c s b q || noted cs s b q

-- The table that a list of calls names: the last sizes (1 and 1 without one), and just its notes
unfoldable pub named : List DraftCall → Entries
named cs = record { facts = last_facts 1 cs; actions = last_actions 1 cs; noted = noted cs }

-- After any history the table of a new draft is the one that its granted calls name
abbrev pub Faithful : Type 0
Faithful = (cs : List DraftCall) → replayed blank cs ≡ named (granted blank cs)
