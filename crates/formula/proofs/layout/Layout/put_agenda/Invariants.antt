-- The actions passed have their clauses.
-- Assumes nothing.
use Rattle.std.proofs.Common.{◌-◌}
use Rattle.encoding.specs.Ranges.{each}
use Rattle.formula.specs.Layouts.{table_in}
use Rattle.formula.specs.Listings.{Joined}
use Rattle.formula.proofs.Ranges.{agenda_at}
use Rattle.formula.proofs.layout.Layout.put_agenda.Given as goal

abbrev pub invariant-loop-number : goal.invariant-loop-number
invariant-loop-number g l = Joined l.initial.out l.out (each (l.number - 1) (agenda_at (table_in l.self)))
