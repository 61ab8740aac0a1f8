-- The entries that a table in memory holds, and what they mean.
-- Assumes nothing.
use Rattle.encoding.specs.Tables.{Table as Meant}
use Rattle.table.specs.declared.rows.Table.{Table}
use Rattle.table.specs.Memory.{noted_in}
use Rattle.table.specs.Entries.{Entries}
use Rattle.table.specs.Meaning.{meaning}

abbrev pub entries_of : Table → Entries
entries_of t = record { facts = t.facts; actions = t.actions; noted = noted_in t.rows }

abbrev pub meant : Table → Meant
meant t = meaning (entries_of t)
