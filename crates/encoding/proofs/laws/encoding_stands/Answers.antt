-- `encoding::laws::encoding_stands`: the theorem of `proofs/Whole.antt`.
-- Assumes nothing.
use Rattle.encoding.proofs.Whole.{encodes}
use Rattle.encoding.proofs.laws.encoding_stands.Goals as goal

pub returns : goal.returns
returns c = encodes
