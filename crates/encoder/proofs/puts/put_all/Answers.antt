-- One clause more at each turn.
-- Assumes nothing.
use Rattle.std.proofs.Common.{subst}
use Rattle.formula.specs.declared.clauses.Clause.TheVariants.{One}
use Rattle.formula.specs.declared.clauses.Literal.TheVariants.{Is}
use Rattle.encoder.specs.Puts.{Adds}
use Rattle.encoder.proofs.Adding.{adds_none, adds-two}
use Rattle.encoder.proofs.Moved.{at_moved, signs-all, signs-more}
use Rattle.encoder.proofs.puts.put_all.Goals as goal

pub loop-clause-init : goal.loop-clause-init
loop-clause-init g c = (adds_none _ _ _ c.args.store.now, g.S.ClauseStore.growth.none c.args.store.now)

pub put_clause-requires : goal.put_clause-requires
put_clause-requires g c = at_moved c.args.shift c.args.clauses.now c.loop-clause.clause-index (One (Is 0)) c.loop-clause-test.true c.requires

pub loop-clause-preserved : goal.loop-clause-preserved
loop-clause-preserved g c = (
  adds-two g.S.ClauseStore.held g.S.ClauseStore.units g.S.ClauseStore.prices c.args.store.now c.loop-clause.store c.put_clause.new.store _ _ _ c.loop-clause.invariant.0 c.put_clause.ensures.puts
      (signs-more c.args.shift c.args.clauses.now c.loop-clause.clause-index (One (Is 0)) c.loop-clause-test.true),
  g.S.ClauseStore.growth.more c.args.store.now c.loop-clause.store c.put_clause.new.store c.loop-clause.invariant.1 c.put_clause.ensures.grows,
)

pub returns : goal.returns
returns g c = record {
  puts = subst (Adds g.S.ClauseStore.held g.S.ClauseStore.units g.S.ClauseStore.prices c.args.store.now c.loop-clause.store) (signs-all c.args.shift c.args.clauses.now c.loop-clause.clause-index c.loop-clause-test.false) c.loop-clause.invariant.0;
  grows = c.loop-clause.invariant.1;
}
