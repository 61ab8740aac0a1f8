-- From what was written into the store to what is printed.
-- Assumes nothing.
use Rattle.std.proofs.Common.{rules, Option, vec_items, min, length, replicate, ◌≡◌, ℕ, ◌-◌, List, [], ◌++◌, ℤ, Ok, Err, Result, ap, ◌∙◌, subst}
use lib.ListN.{length-replicate}
use Rattle.encoder.specs.Emission.{emit_answer}
use Rattle.encoding.specs.Clauses.{signed_formula}
use Rattle.refusal.specs.declared.causes.Refusal.{Refusal}
use Rattle.store.specs.Rendering.{header_length, longest_text, shown_in, text_of, text_prices, width}
use Rattle.table.specs.Meaning.{meaning}
use Rattle.report.specs.declared.outputs.Stop.{Stop}
use Rattle.report.specs.declared.outputs.Stop.TheVariants.{Refused, OutOfMemory, Failed}
use Rattle.report.specs.Endings.{Ends, Writes}
use Rattle.std.specs.declared.vec.Vec.{Vec}
use Rattle.encode.specs.Printed.{Answers, Runs, Prints, Written, exceeds, granted, long, not_put, not_read, put, refused, store_size, unread}

-- where the header has room, the whole text is shown
pub shown-whole : (L : ℕ) (cs : List (List ℤ)) → L ≡ store_size → shown_in L cs ≡ text_of width cs
shown-whole L cs e = ap (λ n. shown_in n cs) e

-- the units that a new store over the program's bytes has
pub store-units : (k : ℕ) → k ≡ min (length (replicate {A = ℕ} store_size 32)) longest_text - header_length → k ≡ store_size - header_length
store-units k e = e ∙ ap (λ (n : ℕ). min n longest_text - header_length) (length-replicate {A = ℕ} store_size 32)

module _ {X : Type 0} (held : X → List (List ℤ)) (units : X → ℕ) (s t : X) (input : List ℕ) (free : units s ≡ store_size - header_length) where
  -- a refusal is handed on
  pub prints-refusal : (r : Result ℕ Refusal) (refusal : Refusal) → r ≡ Err refusal → Written held units text_prices s t input r → Prints input (Err refusal)
  prints-refusal r refusal e (exceeds l q w) = long l (cc)
  prints-refusal r refusal e (not_read f E h q w) = unread f E h (cc)
  prints-refusal r refusal e (not_put n rest E f h a q w) = refused n rest E f h (subst (λ (k : ℕ). emit_answer (meaning E) n text_prices k ≡ Err f) free a) (cc)
  prints-refusal r refusal e (put n rest E k h a q w) = cc

  -- the clauses, as their text
  pub prints-text : (r : Result ℕ Refusal) (count : ℕ) (text : List ℕ) → r ≡ Ok count → held s ≡ [] → Written held units text_prices s t input r → text ≡ text_of width (held t) → Prints input (Ok text)
  prints-text r count text e z (exceeds l q w) p = cc
  prints-text r count text e z (not_read f E h q w) p = cc
  prints-text r count text e z (not_put n rest E f h a q w) p = cc
  prints-text r count text e z (put n rest E k h a q w) p =
      granted n rest E k h (subst (λ (j : ℕ). emit_answer (meaning E) n text_prices j ≡ Ok k) free a)
      (ap Ok (p ∙ ap (text_of width) (w.joined ∙ ap (λ cs. cs ++ signed_formula (meaning E) n) z)))

-- from what is answered to what is written
pub runs-by : {A : Type 0} (input : List ℕ) (output : Result (Vec ℕ A) Stop) (result : Result (Unit {0}) Stop) (before after : Option (List ℕ)) → Answers input output → Ends output result → Writes output result before after → Runs input result before after
runs-by input (Ok text) (Ok done) before after p e w = (vec_items text, p, w)
runs-by input (Err stop) (Ok done) before after p e w = absurd (search rules)
runs-by input output (Err (Refused refusal)) before after p e w = (subst (Answers input) e p, w)
runs-by input output (Err OutOfMemory) before after p e w = w
runs-by input output (Err (Failed error)) before after p e w = tt
