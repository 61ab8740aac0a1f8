-- The events passed have their clauses.
-- Assumes nothing.
use Rattle.std.proofs.Common.{◌-◌}
use Rattle.encoding.specs.Ranges.{each}
use Rattle.formula.specs.Layouts.{table_in}
use Rattle.formula.specs.Listings.{Joined}
use Rattle.formula.proofs.Ranges.{kept_from}
use Rattle.formula.proofs.layout.Layout.put_kept.Given as goal

abbrev pub invariant-loop-number : goal.invariant-loop-number
invariant-loop-number g l = Joined l.initial.out l.out (each (l.number - 1) (kept_from (table_in l.self)))
