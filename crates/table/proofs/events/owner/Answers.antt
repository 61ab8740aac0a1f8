-- Half of the number after the event's, rounded down.
-- Assumes nothing.
use Rattle.std.proofs.Common.{arith}
use Rattle.encoding.specs.Tables.{owner}
use Rattle.table.proofs.events.owner.Goals as goal

pub returns : goal.returns
unfolding owner
returns c = omega arith
