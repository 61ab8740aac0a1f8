-- Without notes, all sizes in the limits will do.
-- Assumes nothing.
use Rattle.std.proofs.Common.{sym}
use Rattle.table.specs.Memory.{noted_in}
use Rattle.table.specs.Model.{entries_of}
use Rattle.table.proofs.Keeps.{within-sized, size-fit}
use Rattle.table.proofs.rows.Table.resize.Goals as goal

pub invariant_of-self : goal.invariant_of-self
invariant_of-self c =
    let t = c.args.self.now in
    let g = size-fit (entries_of t) c.args.facts c.args.actions (sym c.in_ok-permits_size.ensures) in
    record {
      sizes = g.0;
      within = within-sized t.facts t.actions c.args.facts c.args.actions (noted_in t.rows) t.sizes g.1 t.within;
      apart = t.apart;
      counted = t.counted;
    }
