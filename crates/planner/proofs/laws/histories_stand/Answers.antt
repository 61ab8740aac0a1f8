-- The law of `proofs/Faithful.antt`.
-- Assumes nothing.
use Rattle.planner.proofs.Faithful.{faithful}
use Rattle.planner.proofs.laws.histories_stand.Goals as goal

pub returns : goal.returns
returns c = faithful
