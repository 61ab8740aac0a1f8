-- The tables of drafts and jobs.
-- Assumes nothing.
use Rattle.encoding.specs.Tables.{Table}
use Rattle.table.specs.Entries.{Entries, Sizes, Within, Apart}
use Rattle.table.specs.Meaning.{meaning}
use Rattle.table.specs.Model.{entries_of}
use Rattle.planner.specs.declared.drafts.Draft.{Draft}
use Rattle.planner.specs.declared.jobs.Job.{Job}

-- the table that is in a draft
abbrev pub in_draft : Draft → Entries
in_draft d = entries_of d.table

-- the table that is in a job, and what it means
abbrev pub in_job : Job → Entries
in_job j = entries_of j.table

abbrev pub meant_by : Job → Table
meant_by j = meaning (in_job j)

-- sizes and notes in the limits, and no clash
pub record Kept (E : Entries) : Type 0 where
  pub sizes : Sizes E.facts E.actions
  pub within : Within E.facts E.actions E.noted
  pub apart : Apart E.noted
