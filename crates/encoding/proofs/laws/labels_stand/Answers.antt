-- `encoding::laws::labels_stand`: the theorem of `proofs/Labelling.antt`.
-- Assumes nothing.
use Rattle.encoding.proofs.Labelling.{labels}
use Rattle.encoding.proofs.laws.labels_stand.Goals as goal

pub returns : goal.returns
returns c = labels
