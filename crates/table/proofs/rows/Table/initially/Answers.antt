-- The row of the initial facts, and no action.
-- Assumes nothing.
use Rattle.std.proofs.Common.{ℕ, Bool, ap₂}
use mathlib.Core.Path.{fun_ext}
use Rattle.encoding.specs.Plans.{initially}
use Rattle.table.proofs.rows.Table.initially.Goals as goal

pub returns : goal.returns
unfolding initially
returns c =
    ap₂ (λ (h o : ℕ → Bool). record { holds = h; is_open = o }) (fun_ext c.facts_of.ensures) (fun_ext c.none.ensures)
