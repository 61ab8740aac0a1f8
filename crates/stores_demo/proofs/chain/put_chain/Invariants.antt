-- The clauses so far are added, and the store has grown.
use Rattle.store.specs.Clauses.{Added}
use Rattle.stores_demo.specs.Chain.{implications}
use Rattle.stores_demo.proofs.chain.put_chain.Given as goal

abbrev pub invariant-loop-k : goal.invariant-loop-k
invariant-loop-k g l =
    Added g.S.ClauseStore.held g.S.ClauseStore.units g.S.ClauseStore.prices l.initial.store l.store (implications l.k) × g.S.ClauseStore.grew l.initial.store l.store
