-- The lines that programs print, as bytes: a refusal, and the events of a plan.
-- A byte is its ASCII code: 32 is a blank, 83 an S, 69 an E, 10 a line feed. `decimal` of the standard library is what `{n}` prints.
-- Assumes nothing.
use Rattle.std.specs.Prelude.{ℕ, cond, List, [], ◌∷◌, ◌++◌, codes, decimal}
use Rattle.std.specs.List.{flat_map}
use Rattle.encoding.specs.Tables.{owner, starts}
use Rattle.refusal.specs.declared.causes.Code.{Code}
use Rattle.store.specs.Rendering.{justified}

-- A number, right-justified in w columns. A number that is wider is written whole.
unfoldable pub column : ℕ → ℕ → List ℕ
column w n = justified w (decimal n)

-- "refused", the refusal's number in 4 columns, and each of its three figures in 7
abbrev pub refusal_text : Code → List ℕ
refusal_text c = codes "refused" ++ (column 4 c.number ++ (column 7 c.first ++ (column 7 c.second ++ column 7 c.third)))

-- the same, and a line feed
abbrev pub refusal_line : Code → List ℕ
refusal_line c = refusal_text c ++ 10 ∷ []

-- Of an event, whether it starts its action or ends it: S or E
abbrev pub letter_of : ℕ → List ℕ
letter_of e = cond (starts e) (83 ∷ []) (69 ∷ [])

-- A step and an event in it: the step in 4 columns, the event's action in 4, a blank, and the letter
abbrev pub event_text : ℕ → ℕ → List ℕ
event_text step e = column 4 step ++ (column 4 (owner e) ++ (32 ∷ letter_of e))

-- the same, and a line feed
abbrev pub event_line : ℕ × ℕ → List ℕ
event_line p = event_text p.0 p.1 ++ 10 ∷ []

-- A plan: the lines of its pairs, one after another
abbrev pub event_lines : List (ℕ × ℕ) → List ℕ
event_lines pairs = flat_map event_line pairs
