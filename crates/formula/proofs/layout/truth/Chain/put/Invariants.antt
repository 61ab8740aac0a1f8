-- The events passed have their clauses, and the relevant ones among them are counted.
-- Assumes nothing.
use Rattle.std.proofs.Common.{◌≡◌, ◌-◌}
use Rattle.encoding.specs.Ranges.{count, each}
use Rattle.encoding.specs.Tables.{relevant}
use Rattle.formula.specs.Layouts.{table_in}
use Rattle.formula.specs.Listings.{Joined}
use Rattle.formula.proofs.Ranges.{turn_from}
use Rattle.formula.proofs.layout.truth.Chain.put.Given as goal

abbrev pub invariant-loop-number : goal.invariant-loop-number
invariant-loop-number g l =
    (l.count ≡ count (l.number - 1) (λ e. relevant (table_in l.self.layout.now) e l.self.fact))
    × Joined l.initial.out l.out (each (l.number - 1) (turn_from (table_in l.self.layout.now) l.self.fact l.self.before))
