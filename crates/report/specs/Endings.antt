-- How a program ends when it has its output, and what it has written then. Standard output says nothing of what it holds; a writer in
-- memory does. Assumes nothing.
use Rattle.std.specs.Prelude.{◌≡◌, ℕ, List, Ok, Err, Option, Result, IfOk, IsOk, vec_items, ⊤}
use Rattle.std.specs.Io.KnownBytes.{Appends}
use Rattle.std.specs.declared.vec.Vec.{Vec}
use Rattle.refusal.specs.Codes.{code_of}
use Rattle.report.specs.Lines.{refusal_line}
use Rattle.report.specs.declared.outputs.Stop.{Stop}
use Rattle.report.specs.declared.outputs.Stop.TheVariants.{Refused, OutOfMemory, Failed}

-- A program ends well only after an output that grants, as refused only after that refusal, and for want of memory only where the output
-- was not had for want of it. It may fail after any
abbrev pub Ends : {X : Type 0} → Result X Stop → Result (Unit {0}) Stop → Type 0
Ends output (Ok done) = IsOk output
Ends output (Err (Refused refusal)) = output ≡ Err (Refused refusal)
Ends output (Err OutOfMemory) = output ≡ Err OutOfMemory
Ends output (Err (Failed error)) = ⊤

-- What is written then: the text, or the line of the refusal, after what stood there before; nothing, where memory ran out. After a
-- failure nothing is said of it
abbrev pub Writes : {A : Type 0} → Result (Vec ℕ A) Stop → Result (Unit {0}) Stop → Option (List ℕ) → Option (List ℕ) → Type 0
Writes output (Ok done) before after = IfOk output (λ text. Appends before after (vec_items text))
Writes output (Err (Refused refusal)) before after = Appends before after (refusal_line (code_of refusal))
Writes output (Err OutOfMemory) before after = before ≡ after
Writes output (Err (Failed error)) before after = ⊤
