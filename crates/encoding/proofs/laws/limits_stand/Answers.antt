-- `encoding::laws::limits_stand`: the theorem of `proofs/Bounds.antt`.
-- Assumes nothing.
use Rattle.encoding.proofs.Bounds.{bounded}
use Rattle.encoding.proofs.laws.limits_stand.Goals as goal

pub returns : goal.returns
returns c = bounded
