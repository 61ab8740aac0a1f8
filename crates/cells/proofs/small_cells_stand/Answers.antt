-- `cells::small_cells_stand`: the facts of `proofs/Cells.antt`.
-- Assumes nothing.
use Rattle.cells.proofs.Cells.{small-cells}
use Rattle.cells.proofs.small_cells_stand.Goals as goal

pub returns : goal.returns
returns c = small-cells
