-- The facts passed have their clauses, and their pairs are counted.
-- Assumes nothing.
use Rattle.std.proofs.Common.{◌≡◌, ◌-◌, ◌*◌, ◌≤◌}
use Rattle.encoding.specs.Ranges.{each, total}
use Rattle.encoding.specs.Variables.{width}
use Rattle.formula.specs.Layouts.{table_in}
use Rattle.formula.specs.Listings.{Joined}
use Rattle.formula.proofs.Ranges.{truth_from}
use Rattle.formula.proofs.layout.Layout.put_truth.Given as goal

abbrev pub invariant-loop-fact : goal.invariant-loop-fact
invariant-loop-fact g l =
    (l.before ≡ total (l.fact - 1) (width (table_in l.self))) × (l.before ≤ 32 * (l.fact - 1))
    × Joined l.initial.out l.out (each (l.fact - 1) (truth_from (table_in l.self)))
