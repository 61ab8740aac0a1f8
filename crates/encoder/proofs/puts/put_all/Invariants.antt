-- The clauses passed are put.
-- Assumes nothing.
use Rattle.std.proofs.Common.{map, take}
use Rattle.formula.specs.Listings.{lits}
use Rattle.formula.specs.Listings.{shifted}
use Rattle.encoder.specs.Puts.{Adds, signs}
use Rattle.encoder.proofs.puts.put_all.Given as goal

abbrev pub invariant-loop-clause : goal.invariant-loop-clause
invariant-loop-clause g l =
    Adds g.S.ClauseStore.held g.S.ClauseStore.units g.S.ClauseStore.prices l.initial.store l.store (signs (shifted l.shift (map lits (take l.clause-index l.clauses))))
    × g.S.ClauseStore.grew l.initial.store l.store
