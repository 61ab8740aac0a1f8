-- `encoding::laws::shift_stands`: the theorem of `proofs/Shifting.antt`.
-- Assumes nothing.
use Rattle.encoding.proofs.Shifting.{shifted}
use Rattle.encoding.proofs.laws.shift_stands.Goals as goal

pub returns : goal.returns
returns c = shifted
