-- One clause more at each turn, and all of them at the end.
-- Assumes nothing.
use Rattle.formula.specs.declared.clauses.Clause.TheVariants.{One}
use Rattle.formula.specs.declared.clauses.Literal.TheVariants.{Is}
use Rattle.formula.proofs.Joining.{joined-none, joined-row, joined-all}
use Rattle.formula.proofs.listing.Listing.extend.Goals as goal

pub loop-clause-init : goal.loop-clause-init
loop-clause-init g c = joined-none c.args.self.now

pub loop-clause-preserved : goal.loop-clause-preserved
loop-clause-preserved g c =
    joined-row c.args.self.now c.loop-clause.self c.push.new.self c.args.clauses.now c.loop-clause.clause-index (One (Is 0)) c.loop-clause-test.true c.loop-clause.invariant c.push.ensures

pub returns : goal.returns
returns g c = joined-all c.args.self.now c.loop-clause.self c.args.clauses.now c.loop-clause.clause-index c.loop-clause-test.false c.loop-clause.invariant
