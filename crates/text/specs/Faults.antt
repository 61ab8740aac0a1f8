-- Which refusal each fault of a table text is. The refusals' numbers and figures are `code_of` of the crate `refusal`; the number of
-- the draft's own refusal travels inside that of the line.
-- Assumes nothing.
use Rattle.refusal.specs.Codes.{code_of}
use Rattle.refusal.specs.declared.causes.Refusal.{Refusal}
use Rattle.refusal.specs.declared.causes.Refusal.TheVariants.{MalformedText, LineRefused}
use Rattle.table.specs.Faults.{size_refusal, note_refusal}
use Rattle.text.specs.declared.faults.LineFault.{LineFault}
use Rattle.text.specs.declared.faults.LineFault.TheVariants.{Size, Note}
use Rattle.text.specs.declared.faults.TableFault.{TableFault}
use Rattle.text.specs.declared.faults.TableFault.TheVariants.{Malformed, Refused}

abbrev pub line_refusal : LineFault → Refusal
line_refusal (Size f) = size_refusal f
line_refusal (Note f) = note_refusal f

abbrev pub table_refusal : TableFault → Refusal
table_refusal (Malformed line column) = MalformedText line column
table_refusal (Refused line f) = LineRefused line (code_of (line_refusal f)).number
