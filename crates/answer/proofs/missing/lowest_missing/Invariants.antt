-- What the search for the lowest variable without a value keeps true.
use Rattle.answer.specs.Missing.{AllTold}
use Rattle.answer.proofs.missing.lowest_missing.Given as goal

-- each lower variable has a value
abbrev pub invariant-loop-variable : goal.invariant-loop-variable
invariant-loop-variable g l = AllTold (g.S.AnswerSource.tells l.source) l.variable
