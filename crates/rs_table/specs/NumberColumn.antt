-- A column of numbers, found by its name.
use Rattle.std.specs.Prelude.{ℕ, ◌≡◌, List, Some, slice_get}
use Rattle.rs_value.specs.declared.kind.Kind.TheVariants.{Int}
use Rattle.rs_table.specs.Column.{Column, place_of}

-- the first column of this name is there, and is of numbers
pub record HasNumberColumn (name : List ℕ) (columns : List Column) : Type 0 where
  pub place : ℕ
  pub column : Column
  pub found : place_of name columns ≡ Some place
  pub there : slice_get columns place ≡ Some column
  pub is_number : column.1 ≡ Int
