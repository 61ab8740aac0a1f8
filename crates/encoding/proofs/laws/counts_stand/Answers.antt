-- `encoding::laws::counts_stand`: the theorem of `proofs/Counting.antt`.
-- Assumes nothing.
use Rattle.encoding.proofs.Counting.{counted}
use Rattle.encoding.proofs.laws.counts_stand.Goals as goal

pub returns : goal.returns
returns c = counted
