-- Where the reader of a table stops, by the places that it counts.
-- Assumes nothing.
use Rattle.std.specs.Prelude.{◌≡◌, ℕ, ◌+◌, List, take, Ok, Err, Result}
use Rattle.table.specs.Entries.{Entries}
use Rattle.text.specs.declared.cursor.Reader.{Reader}
use Rattle.text.specs.declared.faults.Stop.{Stop}
use Rattle.text.specs.declared.faults.Stop.TheVariants.{Malformed, Refused}
use Rattle.text.specs.declared.faults.TableFault.{TableFault}
use Rattle.text.specs.declared.faults.TableFault.TheVariants.{Malformed as MalformedAt, Refused as RefusedOn}
use Rattle.text.specs.Places.{place_of}
use Rattle.text.specs.Outcomes.{Broken, Declined, Done}

-- from p, after a line of rank f and steps m, reading ended by r with q left; E is the table before and T the table after
abbrev pub Ends : ℕ → ℕ → Entries → Reader → Result ℕ Stop → Entries → Reader → Type 0
Ends f m E p (Ok n) T q = Done f m E p.left.now n q.left.now T
Ends f m E p (Err (Malformed at)) T q = (k : ℕ) × (at ≡ p.at + k) × Broken f E p.left.now k T
Ends f m E p (Err (Refused at fault)) T q = (k : ℕ) × (at ≡ p.at + k) × Declined f E p.left.now k fault T

-- the byte at which reading stopped
abbrev pub stop_at : Stop → ℕ
stop_at (Malformed at) = at
stop_at (Refused at fault) = at

-- the fault that a stop in the bytes s is
abbrev pub fault_at : List ℕ → Stop → TableFault
fault_at s (Malformed at) = MalformedAt (place_of (take at s)).0 (place_of (take at s)).1
fault_at s (Refused at fault) = RefusedOn (place_of (take at s)).0 fault
