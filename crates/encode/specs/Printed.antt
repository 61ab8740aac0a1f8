-- What the program prints for an input: the clause text of the table that the input begins with, at its number of steps, or a refusal.
-- Assumes nothing.
use Rattle.std.specs.Prelude.{◌≡◌, ℕ, ◌-◌, true, false, List, ℤ, Ok, Err, Option, Result, vec_items, ⊤}
use Rattle.std.specs.Io.KnownBytes.{Appends}
use Rattle.std.specs.declared.vec.Vec.{Vec}
use Rattle.encoding.specs.Clauses.{signed_formula}
use Rattle.encoder.specs.declared.faults.EmitFault.{EmitFault}
use Rattle.encoder.specs.Emission.{Emitted, emit_answer}
use Rattle.encoder.specs.Faults.{emit_refusal}
use Rattle.refusal.specs.declared.causes.Refusal.{Refusal}
use Rattle.refusal.specs.declared.causes.Refusal.TheVariants.{InputTooLong}
use Rattle.report.specs.declared.outputs.Stop.{Stop}
use Rattle.report.specs.declared.outputs.Stop.TheVariants.{Refused, OutOfMemory, Failed}
use Rattle.refusal.specs.Codes.{code_of}
use Rattle.report.specs.Lines.{refusal_line}
use Rattle.report.specs.Outputs.{too_long}
use Rattle.store.specs.Clauses.{Prices}
use Rattle.store.specs.Rendering.{header_length, text_of, text_prices, width}
use Rattle.table.specs.Entries.{Entries, blank}
use Rattle.table.specs.Meaning.{meaning}
use Rattle.text.specs.declared.faults.TableFault.{TableFault}
use Rattle.text.specs.Faults.{table_refusal}
use Rattle.text.specs.Outcomes.{Answer, NoOther, Outcome}

-- the clause text has at most so many bytes
abbrev pub store_size : ℕ
store_size = 61440

-- An input that is not too long, read as a table text into a new draft: the answer, and the table then. There is no other outcome
pub record Read (input : List ℕ) (answer : Answer) (E : Entries) : Type 0 where
  pub fits : too_long input ≡ false
  pub outcome : Outcome blank input answer E
  pub only : NoOther blank input answer E

-- What emitting into the program's store answers: the clauses of n steps of a table
abbrev pub emission : Entries → ℕ → Result ℕ EmitFault
emission E n = emit_answer (meaning E) n text_prices (store_size - header_length)

-- What is printed for an input: a text, or the line of a refusal. Checks come in this order, and the first that refuses decides
pub data Prints (input : List ℕ) (output : Result (List ℕ) Refusal) : Type 0 where
  -- more bytes than the program takes
  long : too_long input ≡ true → output ≡ Err InputTooLong → Prints input output
  -- the input does not begin with a table text that a new draft grants
  unread : (fault : TableFault) (E : Entries) → Read input (Err fault) E → output ≡ Err (table_refusal fault) → Prints input output
  -- the table's clauses are not emitted: the number of steps, or the room
  refused : (n : ℕ) (rest : List ℕ) (E : Entries) (fault : EmitFault) → Read input (Ok (n, rest)) E → emission E n ≡ Err fault → output ≡ Err (emit_refusal fault) → Prints input output
  -- the rendering of the clause list of n steps of the table that the text names
  granted : (n : ℕ) (rest : List ℕ) (E : Entries) (count : ℕ) → Read input (Ok (n, rest)) E → emission E n ≡ Ok count → output ≡ Ok (text_of width (signed_formula (meaning E) n)) → Prints input output

-- the program answers so, or memory runs out; it fails in no other way
abbrev pub Answers : {A : Type 0} → List ℕ → Result (Vec ℕ A) Stop → Type 0
Answers input (Ok text) = Prints input (Ok (vec_items text))
Answers input (Err (Refused refusal)) = Prints input (Err refusal)
Answers input (Err OutOfMemory) = ⊤
Answers input (Err (Failed error)) = ⊥

-- What the program has written when it ends, after what stood there before: it ends well after the text, as refused after the line, and
-- with nothing written where memory ran out. If it failed, nothing is said of it
abbrev pub Runs : List ℕ → Result (Unit {0}) Stop → Option (List ℕ) → Option (List ℕ) → Type 0
Runs input (Ok done) before after = (text : List ℕ) × Prints input (Ok text) × Appends before after text
Runs input (Err (Refused refusal)) before after = Prints input (Err refusal) × Appends before after (refusal_line (code_of refusal))
Runs input (Err OutOfMemory) before after = before ≡ after
Runs input (Err (Failed error)) before after = ⊤

-- The same before anything is printed, for a store of any kind, s before and t after; r is what the inner function answers
pub data Written {X : Type 0} (held : X → List (List ℤ)) (units : X → ℕ) (prices : Prices) (s t : X) (input : List ℕ) (r : Result ℕ Refusal) : Type 0 where
  exceeds : too_long input ≡ true → r ≡ Err InputTooLong → t ≡ s → Written held units prices s t input r
  not_read : (fault : TableFault) (E : Entries) → Read input (Err fault) E → r ≡ Err (table_refusal fault) → t ≡ s → Written held units prices s t input r
  not_put : (n : ℕ) (rest : List ℕ) (E : Entries) (fault : EmitFault) → Read input (Ok (n, rest)) E → emit_answer (meaning E) n prices (units s) ≡ Err fault → r ≡ Err (emit_refusal fault) → t ≡ s → Written held units prices s t input r
  put : (n : ℕ) (rest : List ℕ) (E : Entries) (count : ℕ) → Read input (Ok (n, rest)) E → emit_answer (meaning E) n prices (units s) ≡ Ok count → r ≡ Ok count → Emitted held units prices s t (meaning E) n (Ok count) → Written held units prices s t input r
