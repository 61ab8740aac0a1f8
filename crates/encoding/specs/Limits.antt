-- The limits of cells and plans, each named once.
-- Assumes nothing.
use Rattle.std.specs.Prelude.{ℕ}

-- facts, actions and steps are counted from 1 up to these
abbrev pub fact_limit : ℕ
fact_limit = 32

abbrev pub action_limit : ℕ
action_limit = 16

abbrev pub step_limit : ℕ
step_limit = 64

-- how many relevant pairs of a fact and an event there can be: each fact with each of two events an action
abbrev pub pair_limit : ℕ
pair_limit = 1024

-- how many variables there can be within these limits
abbrev pub variable_limit : ℕ
variable_limit = 70704

-- the largest variable that a clause may name
abbrev pub literal_limit : ℕ
literal_limit = 99999
