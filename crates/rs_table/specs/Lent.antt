-- Cells that a table lends, and the rows that join it.
use Rattle.std.specs.Prelude.{◌++◌, List}
use Rattle.rs_value.specs.declared.value.Value.{Value}
use Rattle.rs_value.specs.declared.value.Value.TheVariants.{Int, Text}
use Rattle.rs_table.specs.Relation.{Relation}
use Rattle.rs_table.specs.declared.cell.Cell.{Cell}
use Rattle.rs_table.specs.declared.cell.Cell.TheVariants as cell

-- the value that a cell shows
abbrev pub shown : Cell → Value
shown (cell.Number n) = Int n
shown (cell.Text t) = Text t.now

-- a table with these rows behind its own
abbrev pub with_rows : List (List Value) → Relation → Relation
with_rows rows table = record table { rows = table.rows ++ rows }
