-- The start's clauses and those of the steps passed are put.
-- Assumes nothing.
use Rattle.encoder.proofs.Steps.{steps_alone}
use Rattle.encoder.specs.Puts.{Adds, signs}
use Rattle.encoder.proofs.emission.put_list.Given as goal

abbrev pub invariant-loop-step : goal.invariant-loop-step
invariant-loop-step g l =
    Adds g.S.ClauseStore.held g.S.ClauseStore.units g.S.ClauseStore.prices l.initial.store l.store (signs (steps_alone l.template l.step))
    × g.S.ClauseStore.grew l.initial.store l.store
