-- The rows of an INSERT, and the table that they join.
use Rattle.std.specs.Prelude.{ℕ, nat_le, ◌+◌, ◌==◌, List, [], ◌∷◌, length, option_map, unwrap_or, slice_get, Result, Ok, Err, if◌then◌else◌}
use Rattle.rs_value.specs.declared.kind.Kind.{Kind}
use Rattle.rs_value.specs.declared.kind.Kind.TheVariants as kind
use Rattle.rs_value.specs.declared.value.Value.{Value}
use Rattle.rs_value.specs.declared.value.Value.TheVariants as value
use Rattle.rs_syntax.specs.declared.row.Cell.{Cell}
use Rattle.rs_syntax.specs.declared.row.Cell.TheVariants as cell
use Rattle.rs_syntax.specs.declared.row.RowSyn.{RowSyn}
use Rattle.rs_syntax.specs.Syntax.{Command, Insert}
use Rattle.rs_table.specs.Column.{Column}
use Rattle.rs_table.specs.Relation.{Relation, most_rows}
use Rattle.rs_value.specs.Results.{◌>>=◌}
use Rattle.rs_catalog.specs.Catalog.{CatalogDef, NamedTable, number_named}
use Rattle.rs_catalog.specs.declared.room.What.TheVariants as what
use Rattle.rs_typing.specs.declared.fault.BindFault.{BindFault}
use Rattle.rs_typing.specs.declared.fault.BindFault.TheVariants.{At, Memory}
use Rattle.rs_typing.specs.declared.fault.Why.TheVariants.{LimitOf, NoTable, WrongCount, WrongKind}
use Rattle.rs_typing.specs.Missing.{or_fault}

-- the value of a cell in a column of this kind
abbrev pub cell_value : Kind → Cell → Result Value BindFault
cell_value kind.Int (cell.Int n at) = Ok (value.Int n)
cell_value kind.Int (cell.Text text at) = Err (At WrongKind at)
cell_value kind.Text (cell.Int n at) = Err (At WrongKind at)
cell_value kind.Text (cell.Text text at) = Ok (value.Text text)

-- the values of cells from left to right, as many as columns
abbrev pub cell_values : List Column → List Cell → Result (List Value) BindFault
cell_values [] cells = Ok []
cell_values (column ∷ columns) [] = Ok []
cell_values (column ∷ columns) (c ∷ cells) = do
  first ← cell_value column.1 c
  rest ← cell_values columns cells
  Ok (first ∷ rest)

-- the values of a row that would be the row of this number: first there has to be room for it, then it has to have a cell for
-- each column, and then each cell has to be of its column's kind
abbrev pub row_values : List Column → ℕ → RowSyn → Result (List Value) BindFault
row_values columns number row =
    if nat_le number most_rows then (if length row.cells == length columns then cell_values columns row.cells else Err (At WrongCount row.at))
    else Err (At LimitOf row.at)

-- the values of rows from left to right, of which the first would be the row of this number
abbrev pub rows_values : List Column → ℕ → List RowSyn → Result (List (List Value)) BindFault
rows_values columns number [] = Ok []
rows_values columns number (row ∷ rows) = do
  first ← row_values columns number row
  rest ← rows_values columns (number + 1) rows
  Ok (first ∷ rest)

-- the rows that join a table
abbrev pub rows_for_table : Relation → List RowSyn → Result (List (List Value)) BindFault
rows_for_table table rows = rows_values table.schema (length table.rows + 1) rows

-- the table of this number
abbrev pub table_in : CatalogDef → ℕ → Relation
table_in catalogue number = unwrap_or (option_map (λ (t : NamedTable). t.table) (slice_get catalogue.tables number)) (record { schema = []; rows = [] })

-- the table, by its number, and then the rows that join it
abbrev pub insert_of : CatalogDef → Command → Result (ℕ × List (List Value)) BindFault
insert_of catalogue (Insert table rows) = do
  number ← or_fault (At NoTable table.at) (number_named what.Table table.text catalogue)
  made ← rows_for_table (table_in catalogue number) rows
  Ok (number, made)
insert_of catalogue _ = Err Memory

-- an INSERT statement
abbrev pub IsInsert : Command → Type 0
IsInsert (Insert table rows) = Unit {0}
IsInsert _ = ⊥
