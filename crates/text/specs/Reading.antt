-- What a reader has read, and where it stopped.
-- Assumes nothing.
use Rattle.std.specs.Prelude.{◌≡◌, ℕ, ◌+◌, Bool, true, List, [], ◌∷◌, ◌++◌, length, Some, None, codes, Option}
use Rattle.text.specs.declared.cursor.Reader.{Reader}
use Rattle.text.specs.declared.lines.Line.{Line}
use Rattle.text.specs.declared.tags.Tag.TheVariants.{Close}
use Rattle.text.specs.Documents.{Writable, NoteWritable, note_text, line_text, closing_text, tag_in}
use Rattle.text.specs.Numbers.{Number}
use Rattle.text.specs.Tags.{allows}
use Rattle.text.specs.Texts.{Stuck}

-- a text of L was read from p, and q is left
abbrev pub Read : (List ℕ → Type 0) → Reader → Reader → Type 0
Read L p q = (a : List ℕ) × (p.left.now ≡ a ++ q.left.now) × (q.at ≡ p.at + length a) × L a

-- no text of L is left in p; e is the place of the first byte with which none continues
abbrev pub Refused : (List ℕ → Type 0) → Reader → ℕ → Type 0
Refused L p e = (k : ℕ) × (e ≡ p.at + k) × Stuck L p.left.now k

-- the end of a line
abbrev pub End : Unit {0} → List ℕ → Type 0
End u s = s ≡ codes "\n"

-- the rest of a line after its tag: numbers, and the end
abbrev pub Row : List ℕ → List ℕ → Type 0
Row [] s = End tt s
Row (n ∷ ns) s = (a : List ℕ) × (b : List ℕ) × (s ≡ a ++ b) × Number n a × Row ns b

-- k numbers, and the end
abbrev pub RowOf : ℕ → List ℕ → List ℕ → Type 0
RowOf k ns s = (length ns ≡ k) × Row ns s

-- the rest of a note's line: its action, if its role takes one, and its fact
abbrev pub NoteRest : Bool → ℕ × ℕ → List ℕ → Type 0
NoteRest none v s = NoteWritable none v × (s ≡ note_text none v)

-- a line that may stand after one of rank f: a line of the document, or none, if it closes
abbrev pub LineAt : ℕ → Option Line → List ℕ → Type 0
LineAt f (Some l) s = (allows f (tag_in l) ≡ true) × Writable l × (s ≡ line_text l)
LineAt f None s = (allows f Close ≡ true) × (s ≡ closing_text)
