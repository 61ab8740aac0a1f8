-- The table of refusals: the number of each, and its three figures, 0 where it names none.
-- Every contract that speaks of a refusal's number or figures rests on `code_of`.
-- Assumes nothing.
use Rattle.std.specs.Prelude.{ℕ}
use Rattle.refusal.specs.declared.causes.Code.{Code}
use Rattle.refusal.specs.declared.causes.Obstacle.{Obstacle}
use Rattle.refusal.specs.declared.causes.Obstacle.TheVariants.{RequiredFactFalse, ActionAlreadyOpen, ActionNotOpen, HeldFactDeleted}
use Rattle.refusal.specs.declared.causes.Unmet.{Unmet}
use Rattle.refusal.specs.declared.causes.Unmet.TheVariants.{ActionLeftOpen, GoalFactFalse}
use Rattle.refusal.specs.declared.causes.Refusal.{Refusal}
use Rattle.refusal.specs.declared.causes.Refusal.TheVariants.{SizeOutOfLimits, SizeAfterNote, RoleOutOfLimits, ActionOutOfLimits, FactOutOfLimits, NoteRepeated, NoteClashes, StepsOutOfLimits, PriceExceedsFree, VariableWithoutValue, FalseClause, TrayTooShort, PairMisplaced, EventDoesNotRun, WrongEnding, MapTooShort, ClauseOutOfLimits, MalformedText, NoModel, LineRefused, InputTooLong}

abbrev pub says : ℕ → ℕ → ℕ → ℕ → Code
says n a b c = record { number = n; first = a; second = b; third = c }

-- The number of a cause, and its item
abbrev pub obstacle_of : Obstacle → ℕ × ℕ
obstacle_of (RequiredFactFalse p) = (1, p)
obstacle_of (ActionAlreadyOpen a) = (2, a)
obstacle_of (ActionNotOpen a) = (3, a)
obstacle_of (HeldFactDeleted a) = (4, a)

abbrev pub unmet_of : Unmet → ℕ × ℕ
unmet_of (ActionLeftOpen a) = (5, a)
unmet_of (GoalFactFalse p) = (6, p)

abbrev pub code_of : Refusal → Code
code_of SizeOutOfLimits = says 1 0 0 0
code_of SizeAfterNote = says 2 0 0 0
code_of RoleOutOfLimits = says 3 0 0 0
code_of ActionOutOfLimits = says 4 0 0 0
code_of FactOutOfLimits = says 5 0 0 0
code_of NoteRepeated = says 6 0 0 0
code_of NoteClashes = says 7 0 0 0
code_of StepsOutOfLimits = says 8 0 0 0
code_of PriceExceedsFree = says 9 0 0 0
code_of (VariableWithoutValue variable) = says 10 variable 0 0
code_of (FalseClause clause family step) = says 11 clause family step
code_of (TrayTooShort needed) = says 12 needed 0 0
code_of (PairMisplaced place) = says 13 place 0 0
code_of (EventDoesNotRun place obstacle) = says 14 place (obstacle_of obstacle).0 (obstacle_of obstacle).1
code_of (WrongEnding unmet) = says 15 0 (unmet_of unmet).0 (unmet_of unmet).1
code_of (MapTooShort variables) = says 16 variables 0 0
code_of ClauseOutOfLimits = says 17 0 0 0
code_of (MalformedText line column) = says 18 line column 0
code_of NoModel = says 19 0 0 0
code_of (LineRefused line number) = says 20 line 0 number
code_of InputTooLong = says 21 0 0 0
