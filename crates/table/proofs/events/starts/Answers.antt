-- Starts are the odd events.
-- Assumes nothing.
use Rattle.std.proofs.Common.{refl}
use Rattle.encoding.specs.Tables.{starts}
use Rattle.table.proofs.events.starts.Goals as goal

pub returns : goal.returns
unfolding starts
returns c = refl
