-- What a table is: columns, and rows that fit them.
use Rattle.std.specs.Prelude.{ℕ, ◌≡◌, ◌≤◌, ◌&&◌, Bool, true, false, List, [], ◌∷◌, length, Option, option_and_then, slice_get, ◌-◌}
use Rattle.std.specs.List.{AllByRecursion}
use Rattle.rs_value.specs.Value.{fits}
use Rattle.rs_value.specs.declared.value.Value.{Value}
use Rattle.rs_table.specs.Column.{Column}

-- a table as contracts see it: its columns, and its rows in the order of the file, later ones behind them
pub record Relation : Type 0 where
  pub schema : List Column
  pub rows : List (List Value)

-- the most rows of a table
abbrev pub most_rows : ℕ
most_rows = 131072

-- a row has a value for each column, each of its column's kind
abbrev pub row_fits : List Column → List Value → Bool
row_fits [] [] = true
row_fits [] (value ∷ values) = false
row_fits (column ∷ columns) [] = false
row_fits (column ∷ columns) (value ∷ values) = fits column.1 value && row_fits columns values

-- what holds of each table
pub record IsTable (table : Relation) : Type 0 where
  pub some_columns : 1 ≤ length table.schema
  pub few_columns : length table.schema ≤ 64
  pub few_rows : length table.rows ≤ most_rows
  pub rows_fit : AllByRecursion (λ row. row_fits table.schema row ≡ true) table.rows

-- the cell of a row, counted from 1, and a column, counted from 0
abbrev pub cell_at : Relation → ℕ → ℕ → Option Value
cell_at table row column = option_and_then (λ (values : List Value). slice_get values column) (slice_get table.rows (row - 1))
