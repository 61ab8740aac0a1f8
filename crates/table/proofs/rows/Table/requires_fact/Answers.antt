-- What an event requires, from the notes.
-- Assumes nothing.
use Rattle.std.proofs.Common.{rules}
use Rattle.encoding.specs.Tables.{requires}
use Rattle.table.proofs.rows.Table.requires_fact.Goals as goal

pub returns-then-needs : goal.returns-then-needs
unfolding requires
returns-then-needs c = search rules

pub returns-then-held : goal.returns-then-held
unfolding requires
returns-then-held c = search rules

pub returns-else-held : goal.returns-else-held
unfolding requires
returns-else-held c = search rules
