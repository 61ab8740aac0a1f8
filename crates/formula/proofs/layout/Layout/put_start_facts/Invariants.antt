-- The facts passed have their clauses.
-- Assumes nothing.
use Rattle.std.proofs.Common.{◌-◌}
use Rattle.encoding.specs.Ranges.{each}
use Rattle.formula.specs.Layouts.{table_in}
use Rattle.formula.specs.Listings.{Joined}
use Rattle.formula.proofs.Ranges.{start_at}
use Rattle.formula.proofs.layout.Layout.put_start_facts.Given as goal

abbrev pub invariant-loop-fact : goal.invariant-loop-fact
invariant-loop-fact g l = Joined l.initial.out l.out (each (l.fact - 1) (start_at (table_in l.self)))
