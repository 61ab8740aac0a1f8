-- What the sets and rows of the memory say.
-- Assumes nothing.
use Rattle.std.specs.Prelude.{ℕ, Bool, false, List, [], slice_index_or}
use Rattle.table.specs.declared.marks.Marks.{Marks}
use Rattle.table.specs.declared.notes.Notes.{Notes}
use Rattle.table.specs.declared.roles.Role.{Role}
use Rattle.table.specs.Roles.{number_of}

-- whether a number is in a set
abbrev pub marked : {N : ℕ} → Marks N → ℕ → Bool
marked s i = slice_index_or s.marks i false

abbrev pub no_marks : Marks 33
no_marks = record { marks = [] }

-- the facts noted for an action
abbrev pub facts_of : Notes → ℕ → Marks 33
facts_of n a = slice_index_or n.of a no_marks

abbrev pub noted : Notes → ℕ → ℕ → Bool
noted n a p = marked (facts_of n a) p

abbrev pub no_notes : Notes
no_notes = record { of = [] }

-- whether the rows of all roles, by the roles' numbers, have a note
abbrev pub noted_in : List Notes → Role → ℕ → ℕ → Bool
noted_in rows r a p = noted (slice_index_or rows (number_of r) no_notes) a p
