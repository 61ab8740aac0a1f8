-- The lowest goal fact that is false.
-- Assumes nothing.
use Rattle.std.proofs.Common.{rules, tests}
use Rattle.table.specs.Model.{meant}
use Rattle.table.specs.States.{state_of}
use Rattle.table.specs.Verdicts.{misses}
use Rattle.table.proofs.Lowest.{lowest-of-find}
use Rattle.table.proofs.rows.Table.missing_goal.Goals as goal

pub returns : goal.returns
returns c =
    lowest-of-find c.args.self.now.facts (misses (meant c.args.self.now) (state_of c.args.state.now)) _ _ c.new.ensures.start c.new.ensures.end c.new.ensures.exhausted _ c.find.ensures.ran (λ x b q k. search (rules, tests))
