-- The table that a layout is of.
-- Assumes nothing.
use Rattle.encoding.specs.Tables.{Table}
use Rattle.table.specs.Model.{meant}
use Rattle.formula.specs.declared.layout.Layout.{Layout}

abbrev pub table_in : Layout → Table
table_in l = meant l.table.now
