-- The clause stands after the last.
-- Assumes nothing.
use Rattle.std.proofs.Common.{◌<◌, map, length, take, refl, ap, ◌∙◌, rules}
use Rattle.std.proofs.lemmas.List.{map_push, take_more_set}
use Rattle.formula.specs.Listings.{lits}
use Rattle.formula.proofs.listing.Listing.push.Goals as goal

pub returns-then-at : goal.returns-then-at
returns-then-at g c h =
    let l : c.args.self.now.count < length c.args.self.now.slots = search rules in
    record { more = refl; joined = ap (map lits) (take_more_set c.args.self.now.slots c.args.self.now.count c.args.clause l) ∙ map_push lits (take c.args.self.now.count c.args.self.now.slots) c.args.clause }
