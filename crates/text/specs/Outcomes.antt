-- What comes of reading a table text into a draft: the lines that the draft was given, what it answered, and where reading ended.
-- Assumes nothing.
use Rattle.std.specs.Prelude.{◌≡◌, ℕ, suc, ◌+◌, true, List, [], ◌∷◌, ◌++◌, length, take, Ok, Err, Result}
use Rattle.table.specs.declared.faults.SizeFault.{SizeFault}
use Rattle.table.specs.declared.faults.NoteFault.{NoteFault}
use Rattle.table.specs.Calls.{size_answer, note_answer, after_size, after_note}
use Rattle.table.specs.Entries.{Entries}
use Rattle.table.specs.Roles.{number_of}
use Rattle.text.specs.declared.faults.LineFault.{LineFault}
use Rattle.text.specs.declared.faults.LineFault.TheVariants.{Size, Note as NoteBy}
use Rattle.text.specs.declared.faults.TableFault.{TableFault}
use Rattle.text.specs.declared.faults.TableFault.TheVariants.{Malformed, Refused}
use Rattle.text.specs.declared.lines.Line.{Line}
use Rattle.text.specs.declared.lines.Line.TheVariants.{Sizes, Note}
use Rattle.text.specs.declared.tags.Tag.TheVariants.{Close}
use Rattle.text.specs.Documents.{Writable, InOrder, TextFrom, line_text, lines_text, rank_after, rendering, steps_of, tag_in}
use Rattle.text.specs.Places.{place_of}
use Rattle.text.specs.Reading.{LineAt}
use Rattle.text.specs.Tags.{allows}
use Rattle.text.specs.Texts.{Any, Stuck}

-- What a table answers to a line, and the table after it: a sizes line is a size, a note's line is a note

abbrev pub by_size : Result (Unit {0}) SizeFault → Result (Unit {0}) LineFault
by_size (Ok x) = Ok x
by_size (Err e) = Err (Size e)

abbrev pub by_note : Result (Unit {0}) NoteFault → Result (Unit {0}) LineFault
by_note (Ok x) = Ok x
by_note (Err e) = Err (NoteBy e)

abbrev pub answer_to : Entries → Line → Result (Unit {0}) LineFault
answer_to E (Sizes f a n) = by_size (size_answer E f a)
answer_to E (Note r a p) = by_note (note_answer E (number_of r) a p)

abbrev pub after_line : Entries → Line → Entries
after_line E (Sizes f a n) = after_size E f a
after_line E (Note r a p) = after_note E (number_of r) a p

-- the table grants each line in its turn
abbrev pub Granted : Entries → List Line → Type 0
Granted E [] = Unit {0}
Granted E (l ∷ ls) = (answer_to E l ≡ Ok tt) × Granted (after_line E l) ls

abbrev pub after_lines : Entries → List Line → Entries
after_lines E [] = E
after_lines E (l ∷ ls) = after_lines (after_line E l) ls

-- the lines stand in order after a line of rank f, the table E grants them all, and T is the table after them
abbrev pub Taken : ℕ → Entries → List Line → Entries → Type 0
Taken f E ls T = InOrder f ls × Granted E ls × (T ≡ after_lines E ls)

-- Three ways to end. The bytes s are what follows a line of rank f, E is the table before them and T the table after.

-- s begins with the rendering of lines that are all granted; their steps are n, and rest follows
abbrev pub Done : ℕ → ℕ → Entries → List ℕ → ℕ → List ℕ → Entries → Type 0
Done f m E s n rest T =
    (ls : List Line) × Taken f E ls T × (allows (rank_after f ls) Close ≡ true) × (s ≡ rendering ls ++ rest) × (n ≡ steps_of m ls)

-- byte k stands in the line after lines that are all granted: what follows them does not begin with a line that may stand there
abbrev pub InNextLine : ℕ → Entries → List ℕ → ℕ → Entries → Type 0
InNextLine f E s k T =
    (ls : List Line) × (t : List ℕ) × (j : ℕ) × Taken f E ls T × (s ≡ lines_text ls ++ t) × (k ≡ length (lines_text ls) + j) × Stuck (Any (LineAt (rank_after f ls))) t j

-- byte k is the first with which no lawful text continues, and the lines before its own are granted
abbrev pub Broken : ℕ → Entries → List ℕ → ℕ → Entries → Type 0
Broken f E s k T = Stuck (TextFrom f) s k × InNextLine f E s k T

-- byte k is the line feed of a lawful line that the table refuses; the lines before it are granted
abbrev pub Declined : ℕ → Entries → List ℕ → ℕ → LineFault → Entries → Type 0
Declined f E s k fault T =
    (ls : List Line) × (l : Line) × (rest : List ℕ)
    × Taken f E ls T × (allows (rank_after f ls) (tag_in l) ≡ true) × Writable l
    × (s ≡ lines_text ls ++ (line_text l ++ rest)) × (suc k ≡ length (lines_text ls) + length (line_text l)) × (answer_to T l ≡ Err fault)

-- The outcome, as users see it: n and the rest, or a fault with its place. A malformed text is faulted at its first bad byte, a refused
-- line at its line feed. A text begins at rank 0, with no steps yet.

abbrev pub Answer : Type 0
Answer = Result (ℕ × List ℕ) TableFault

abbrev pub Outcome : Entries → List ℕ → Answer → Entries → Type 0
Outcome E s (Ok v) T = Done 0 0 E s v.0 v.1 T
Outcome E s (Err (Malformed line column)) T = (k : ℕ) × ((line, column) ≡ place_of (take k s)) × Broken 0 E s k T
Outcome E s (Err (Refused line fault)) T = (k : ℕ) × (line ≡ (place_of (take k s)).0) × Declined 0 E s k fault T

-- there is no other outcome
abbrev pub NoOther : Entries → List ℕ → Answer → Entries → Type 0
NoOther E s r T = (q : Answer) (U : Entries) → Outcome E s q U → (q ≡ r) × (U ≡ T)

-- what a returned value says, by the bytes of its rest
abbrev pub said : {X : Type 0} → (X → List ℕ) → Result (ℕ × X) TableFault → Answer
said bytes (Ok v) = Ok (v.0, bytes v.1)
said bytes (Err e) = Err e
