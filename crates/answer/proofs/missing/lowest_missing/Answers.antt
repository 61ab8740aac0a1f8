-- The loop stops at the first variable without a value, or passes all of them.
use Rattle.std.proofs.Common.{Some, None, rules}
use Rattle.answer.proofs.Lowest.{lowest-from}
use Rattle.answer.proofs.missing.lowest_missing.Goals as goal

pub returns-then-is_none : goal.returns-then-is_none
returns-then-is_none g c =
    lowest-from (g.S.AnswerSource.tells c.args.source.now) c.args.variables (Some c.loop-variable.variable) (search rules)

pub returns-else-is_none : goal.returns-else-is_none
returns-else-is_none g c = lowest-from (g.S.AnswerSource.tells c.args.source.now) c.args.variables None (search rules)
