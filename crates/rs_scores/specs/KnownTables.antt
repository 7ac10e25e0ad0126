-- Tables of which each is read once: what was read of which bytes.
use Rattle.std.specs.Prelude.{ℕ, ◌≡◌, ◌&&◌, Bool, true, false, List, [], ◌∷◌, ◌++◌, find, Option, Ok}
use Rattle.std.specs.Cmp.Lexicographic.{pointwise}
use Rattle.std.specs.Str.{bytes_eq}
use Rattle.rs_value.specs.declared.kind.Kind.{Kind}
use Rattle.rs_value.specs.declared.kind.Kind.TheVariants.{Int, Text}
use Rattle.rs_table.specs.Column.{Column}
use Rattle.rs_table.specs.Reading.{table_of}
use Rattle.rs_table.specs.Relation.{Relation}

-- a table, and the bytes that it was read of
pub record TableRead : Type 0 where
  pub bytes : List ℕ
  pub table : Relation

-- whether two kinds are one
abbrev pub is_same_kind : Kind → Kind → Bool
is_same_kind Int Int = true
is_same_kind Text Text = true
is_same_kind kind other = false

-- whether two columns have one name and one kind
abbrev pub is_same_column : Column → Column → Bool
is_same_column column other = bytes_eq column.0 other.0 && is_same_kind column.1 other.1

-- whether a table was read of these bytes, with these columns
abbrev pub is_read_of : List Column → List ℕ → TableRead → Bool
is_read_of schema bytes read = pointwise is_same_column read.table.schema schema && bytes_eq read.bytes bytes

-- what was read of these bytes with these columns, if it was read
abbrev pub table_read_of : List Column → List ℕ → List TableRead → Option TableRead
table_read_of schema bytes tables = find (is_read_of schema bytes) tables

-- what was read, and this table of these bytes
abbrev pub tables_with : Relation → List ℕ → List TableRead → List TableRead
tables_with table bytes tables = tables ++ record { bytes = bytes; table = table } ∷ []

-- a table is that of its bytes
abbrev pub IsTableRead : TableRead → Type 0
IsTableRead read = table_of read.table.schema read.bytes ≡ Ok read.table
