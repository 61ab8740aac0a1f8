-- Which refusal each fault of a call on a table is. The refusals' numbers and figures are `code_of` of the crate `refusal`.
-- Assumes nothing.
use Rattle.refusal.specs.declared.causes.Refusal.{Refusal}
use Rattle.refusal.specs.declared.causes.Refusal.TheVariants.{SizeOutOfLimits, SizeAfterNote, RoleOutOfLimits, ActionOutOfLimits, FactOutOfLimits, NoteRepeated, NoteClashes, PairMisplaced, EventDoesNotRun, WrongEnding}
use Rattle.table.specs.declared.faults.SizeFault as Size
use Rattle.table.specs.declared.faults.SizeFault.{SizeFault}
use Rattle.table.specs.declared.faults.NoteFault as Note
use Rattle.table.specs.declared.faults.NoteFault.{NoteFault}
use Rattle.table.specs.declared.faults.PlanFault as Plan
use Rattle.table.specs.declared.faults.PlanFault.{PlanFault}

abbrev pub size_refusal : SizeFault → Refusal
size_refusal Size.TheVariants.OutOfLimits = SizeOutOfLimits
size_refusal Size.TheVariants.AfterNote = SizeAfterNote

abbrev pub note_refusal : NoteFault → Refusal
note_refusal Note.TheVariants.RoleOutOfLimits = RoleOutOfLimits
note_refusal Note.TheVariants.ActionOutOfLimits = ActionOutOfLimits
note_refusal Note.TheVariants.FactOutOfLimits = FactOutOfLimits
note_refusal Note.TheVariants.Repeated = NoteRepeated
note_refusal Note.TheVariants.Clashes = NoteClashes

abbrev pub plan_refusal : PlanFault → Refusal
plan_refusal (Plan.TheVariants.Misplaced place) = PairMisplaced place
plan_refusal (Plan.TheVariants.DoesNotRun place obstacle) = EventDoesNotRun place obstacle
plan_refusal (Plan.TheVariants.WrongEnding unmet) = WrongEnding unmet
