-- The rules of INSERT as relations: the rows that join a table, or with what they are refused.
use Rattle.std.specs.Prelude.{ℕ, ℤ, ◌≡◌, ◌≢◌, ◌+◌, ◌<◌, ◌≤◌, List, [], length, Some, None}
use Rattle.std.specs.List.{zip}
use Rattle.rs_value.specs.declared.kind.Kind.TheVariants as kind
use Rattle.rs_value.specs.declared.value.Value.{Value}
use Rattle.rs_value.specs.declared.value.Value.TheVariants as value
use Rattle.rs_lex.specs.declared.token.Span.{Span}
use Rattle.rs_syntax.specs.declared.name.Name.{Name}
use Rattle.rs_syntax.specs.declared.row.Cell.{Cell}
use Rattle.rs_syntax.specs.declared.row.Cell.TheVariants as cell
use Rattle.rs_syntax.specs.declared.row.RowSyn.{RowSyn}
use Rattle.rs_table.specs.Column.{Column}
use Rattle.rs_table.specs.Relation.{Relation, most_rows}
use Rattle.rs_catalog.specs.Catalog.{CatalogDef, number_named}
use Rattle.rs_catalog.specs.declared.room.What.TheVariants as what
use Rattle.rs_typing.specs.declared.fault.BindFault.{BindFault}
use Rattle.rs_typing.specs.declared.fault.BindFault.TheVariants.{At}
use Rattle.rs_typing.specs.declared.fault.Why.TheVariants.{LimitOf, NoTable, WrongCount, WrongKind}
use Rattle.rs_bind.specs.InOrder.{Each, FirstRefused}
use Rattle.rs_bind.specs.Inserts.{table_in}

-- a number for a column of numbers, and a text for one of texts
pub data TypesCell (before : List Value) : Column × Cell → Value → Type 0 where
  from_number : (name : List ℕ) (n : ℤ) (at : Span) → TypesCell before ((name, kind.Int), cell.Int n at) (value.Int n)
  from_text : (name t : List ℕ) (at : Span) → TypesCell before ((name, kind.Text), cell.Text t at) (value.Text t)

pub data RefusedCell (before : List Value) : Column × Cell → BindFault → Type 0 where
  no_number : (name t : List ℕ) (at : Span) → RefusedCell before ((name, kind.Int), cell.Text t at) (At WrongKind at)
  no_text : (name : List ℕ) (n : ℤ) (at : Span) → RefusedCell before ((name, kind.Text), cell.Int n at) (At WrongKind at)

module _ (table : Relation) where
  -- a row behind those of the table and those before it in the statement: the table has room for it, and it has a value for each
  -- column
  pub record TypesRow (before : List (List Value)) (row : RowSyn) (values : List Value) : Type 0 where
    pub room : length table.rows + length before < most_rows
    pub count : length row.cells ≡ length table.schema
    pub cells : Each TypesCell [] (zip table.schema row.cells) values

  pub data RefusedRow (before : List (List Value)) (row : RowSyn) : BindFault → Type 0 where
    too_many : most_rows ≤ length table.rows + length before → RefusedRow before row (At LimitOf row.at)
    wrong_count : length table.rows + length before < most_rows → length row.cells ≢ length table.schema → RefusedRow before row (At WrongCount row.at)
    in_cell : (fault : BindFault) → length table.rows + length before < most_rows → length row.cells ≡ length table.schema
        → FirstRefused TypesCell RefusedCell [] (zip table.schema row.cells) fault → RefusedRow before row fault

module _ (catalogue : CatalogDef) where
  -- an INSERT: its table, and then its rows from left to right
  pub record TypesInsert (table : Name) (rows : List RowSyn) (made : ℕ × List (List Value)) : Type 0 where
    pub is_table : number_named what.Table table.text catalogue ≡ Some made.0
    pub are_rows : Each (TypesRow (table_in catalogue made.0)) [] rows made.1

  pub data RefusedInsert (table : Name) (rows : List RowSyn) : BindFault → Type 0 where
    no_table : number_named what.Table table.text catalogue ≡ None → RefusedInsert table rows (At NoTable table.at)
    in_row : (n : ℕ) (fault : BindFault) → number_named what.Table table.text catalogue ≡ Some n
        → FirstRefused (TypesRow (table_in catalogue n)) (RefusedRow (table_in catalogue n)) [] rows fault → RefusedInsert table rows fault
