-- `encoding::laws::pitfalls_stand`: the facts of `proofs/Pitfalls.antt`.
-- Assumes nothing.
use Rattle.encoding.proofs.Pitfalls.{pitfalls}
use Rattle.encoding.proofs.laws.pitfalls_stand.Goals as goal

pub returns : goal.returns
returns c = pitfalls
