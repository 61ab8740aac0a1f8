-- `encoding::laws::numbering_stands`: the theorem of `proofs/Whole.antt`.
-- Assumes nothing.
use Rattle.encoding.proofs.Whole.{numbered-exactly}
use Rattle.encoding.proofs.laws.numbering_stands.Goals as goal

pub returns : goal.returns
returns c = numbered-exactly
