-- Which refusal each fault of emitting is. The refusals' numbers and figures are `code_of` of the crate `refusal`.
-- Assumes nothing.
use Rattle.refusal.specs.declared.causes.Refusal.{Refusal}
use Rattle.refusal.specs.declared.causes.Refusal.TheVariants as Which
use Rattle.encoder.specs.declared.faults.EmitFault.{EmitFault}
use Rattle.encoder.specs.declared.faults.EmitFault.TheVariants.{StepsOutOfLimits, PriceExceedsFree}

abbrev pub emit_refusal : EmitFault → Refusal
emit_refusal StepsOutOfLimits = Which.StepsOutOfLimits
emit_refusal PriceExceedsFree = Which.PriceExceedsFree
