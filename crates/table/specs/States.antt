-- The state that a state in memory is.
-- Assumes nothing.
use Rattle.encoding.specs.Plans.{State as CellState}
use Rattle.table.specs.declared.states.State.{State}
use Rattle.table.specs.Memory.{marked}

abbrev pub state_of : State → CellState
state_of s = record { holds = λ p. marked s.facts p; is_open = λ a. marked s.«open» a }
