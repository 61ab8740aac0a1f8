-- The clauses passed have joined.
-- Assumes nothing.
use Rattle.std.proofs.Common.{map, take}
use Rattle.formula.specs.Listings.{Joined, lits}
use Rattle.formula.proofs.listing.Listing.extend.Given as goal

abbrev pub invariant-loop-clause : goal.invariant-loop-clause
invariant-loop-clause g l = Joined l.initial.self l.self (map lits (take l.clause-index l.clauses))
