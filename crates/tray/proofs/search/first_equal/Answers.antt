-- The index gives the first place, and the laws of equality the rest.
use Rattle.std.proofs.Common.{rules}
use Rattle.tray.proofs.Places.{found}
use Rattle.tray.proofs.search.first_equal.Goals as goal

pub returns : goal.returns
returns g c = found g.T.PartialEq.eq g.met.T.Eq.laws c.args.x.now c.args.row.now _ (search rules)
