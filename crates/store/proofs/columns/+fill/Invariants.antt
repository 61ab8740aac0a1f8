-- Each turn has one byte less to fill.
use Rattle.std.proofs.Common.{length}
use Rattle.store.proofs.columns.+fill.Given as goal

abbrev pub decreases-fill : goal.decreases-fill
decreases-fill l = length l.bytes.now
