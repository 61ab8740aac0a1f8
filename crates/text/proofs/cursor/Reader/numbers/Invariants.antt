-- What is left decides the row.
use Rattle.text.proofs.Rows.{RowSoFar}
use Rattle.text.proofs.cursor.Reader.numbers.Given as goal

abbrev pub invariant-loop-number : goal.invariant-loop-number
invariant-loop-number g l = RowSoFar g.row.N l.number-index l.number-items l.fn.self l.self
