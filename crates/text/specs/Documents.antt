-- Table texts. A document is its lines but the closing one: the sizes, then the notes. A lawful table text is the rendering of a
-- document whose lines stand in order and show numbers that four columns can show. The limits of sizes and notes are no part of this.
-- Assumes nothing.
use Rattle.std.specs.Prelude.{◌≡◌, ℕ, ◌<◌, Bool, true, false, List, [], ◌∷◌, ◌++◌, codes}
use Rattle.table.specs.Roles.{number_of, actionless}
use Rattle.text.specs.declared.lines.Line.{Line}
use Rattle.text.specs.declared.lines.Line.TheVariants.{Sizes, Note}
use Rattle.text.specs.declared.tags.Tag.{Tag}
use Rattle.text.specs.declared.tags.Tag.TheVariants.{Sizes as SizesTag, Note as NoteTag, Close}
use Rattle.text.specs.Numbers.{justified, shown_below}
use Rattle.text.specs.Tags.{allows, tag_text}

-- One line

abbrev pub tag_in : Line → Tag
tag_in (Sizes f a n) = SizesTag
tag_in (Note r a p) = NoteTag r

-- the action is left out where the role takes none
abbrev pub action_text : Bool → ℕ → List ℕ
action_text true a = []
action_text false a = justified a

abbrev pub note_text : Bool → ℕ × ℕ → List ℕ
note_text none v = action_text none v.0 ++ (justified v.1 ++ codes "\n")

abbrev pub sizes_text : ℕ → ℕ → ℕ → List ℕ
sizes_text f a n = justified f ++ (justified a ++ (justified n ++ codes "\n"))

abbrev pub line_text : Line → List ℕ
line_text (Sizes f a n) = tag_text SizesTag ++ sizes_text f a n
line_text (Note r a p) = tag_text (NoteTag r) ++ note_text (actionless r) (a, p)

abbrev pub closing_text : List ℕ
closing_text = tag_text Close ++ codes "\n"

-- A line that can be written: four columns show its numbers, and an action that is left out is 0

abbrev pub ActionWritable : Bool → ℕ → Type 0
ActionWritable true a = a ≡ 0
ActionWritable false a = a < shown_below

abbrev pub NoteWritable : Bool → ℕ × ℕ → Type 0
NoteWritable none v = ActionWritable none v.0 × (v.1 < shown_below)

abbrev pub Writable : Line → Type 0
Writable (Sizes f a n) = (f < shown_below) × (a < shown_below) × (n < shown_below)
Writable (Note r a p) = NoteWritable (actionless r) (a, p)

-- the rank that the lines after this one start from
abbrev pub rank_of : Line → ℕ
rank_of (Sizes f a n) = 1
rank_of (Note r a p) = number_of r

-- Lines one after another

-- each can be written, and may stand after the one before; the first, after a line of rank f
abbrev pub InOrder : ℕ → List Line → Type 0
InOrder f [] = Unit {0}
InOrder f (l ∷ ls) = (allows f (tag_in l) ≡ true) × Writable l × InOrder (rank_of l) ls

abbrev pub rank_after : ℕ → List Line → ℕ
rank_after f [] = f
rank_after f (l ∷ ls) = rank_after (rank_of l) ls

abbrev pub lines_text : List Line → List ℕ
lines_text [] = []
lines_text (l ∷ ls) = line_text l ++ lines_text ls

-- Whole texts

abbrev pub rendering : List Line → List ℕ
rendering ls = lines_text ls ++ closing_text

-- lines in order from rank f on, after which the closing line may stand
abbrev pub Whole : ℕ → List Line → Type 0
Whole f ls = InOrder f ls × (allows (rank_after f ls) Close ≡ true)

-- what may follow a line of rank f: the rendering of the lines that are left. From rank 0, the beginning, it is a lawful table text.
abbrev pub TextFrom : ℕ → List ℕ → Type 0
TextFrom f s = (ls : List Line) × Whole f ls × (s ≡ rendering ls)

-- the number of steps that its sizes line gives; m where there is none
abbrev pub steps_from : ℕ → Line → ℕ
steps_from m (Sizes f a n) = n
steps_from m (Note r a p) = m

abbrev pub steps_of : ℕ → List Line → ℕ
steps_of m [] = m
steps_of m (l ∷ ls) = steps_of (steps_from m l) ls
