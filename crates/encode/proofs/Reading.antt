-- A new draft is blank, so what is read into it is what the input says.
-- Assumes nothing.
use Rattle.std.proofs.Common.{◌≡◌, ℕ, false, List, subst}
use Rattle.report.specs.Outputs.{too_long}
use Rattle.table.specs.Entries.{Entries, blank}
use Rattle.text.specs.Outcomes.{Answer, NoOther, Outcome}
use Rattle.encode.specs.Printed.{Read}

pub read_of : (input : List ℕ) (q : Answer) (B E : Entries) → too_long input ≡ false → B ≡ blank → Outcome B input q E → NoOther B input q E → Read input q E
read_of input q B E f e o n = record { fits = f; outcome = subst (λ C. Outcome C input q E) e o; only = subst (λ C. NoOther C input q E) e n }
