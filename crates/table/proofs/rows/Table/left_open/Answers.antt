-- The lowest open action.
-- Assumes nothing.
use Rattle.std.proofs.Common.{rules, tests}
use Rattle.table.specs.States.{state_of}
use Rattle.table.proofs.Lowest.{lowest-of-find}
use Rattle.table.proofs.rows.Table.left_open.Goals as goal

pub returns : goal.returns
returns c =
    lowest-of-find c.args.self.now.actions ((state_of c.args.state.now).is_open) _ _ c.new.ensures.start c.new.ensures.end c.new.ensures.exhausted _ c.find.ensures.ran (λ x b q k. search (rules, tests))
