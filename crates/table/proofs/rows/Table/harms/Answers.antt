-- Whether some fact is held and deleted.
-- Assumes nothing.
use Rattle.std.proofs.Common.{◌&&◌, rules, tests}
use Rattle.encoding.specs.Tables.{harms}
use Rattle.table.specs.Model.{meant}
use Rattle.table.proofs.Lowest.{some-found}
use Rattle.table.proofs.rows.Table.harms.Goals as goal

pub returns : goal.returns
unfolding harms
returns c =
    let T = meant c.args.self.now in
    some-found c.args.self.now.facts (λ p. T.held c.args.action p && T.deletes c.args.event p) _ _ c.new.ensures.start c.new.ensures.end c.new.ensures.exhausted _ c.any.ensures.ran (λ x b q k. search (rules, tests))
