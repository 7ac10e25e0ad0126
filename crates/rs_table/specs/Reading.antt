-- The rows of a CSV file, or the first thing that refuses them.
use Rattle.std.specs.Prelude.{ℕ, ℤ, ◌+◌, ◌==◌, nat_lt, List, [], ◌∷◌, length, Option, Some, None, Result, Ok, Err, if◌then◌else◌}
use Rattle.std.specs.List.{list_any}
use Rattle.std.specs.Str.{bytes_eq, is_utf8}
use Rattle.rs_value.specs.Number.{int_value}
use Rattle.rs_value.specs.Results.{◌>>=◌}
use Rattle.rs_value.specs.declared.kind.Kind.{Kind}
use Rattle.rs_value.specs.declared.kind.Kind.TheVariants as kind
use Rattle.rs_value.specs.declared.value.Value.{Value}
use Rattle.rs_value.specs.declared.value.Value.TheVariants.{Int, Text}
use Rattle.rs_table.specs.declared.fault.TableFault.{TableFault}
use Rattle.rs_table.specs.declared.fault.TableFault.TheVariants.{NoHeader, HeaderDiffers, FieldCount, NotUtf8, NotInt, TooManyRows, NoColumn, TooManyColumns}
use Rattle.rs_table.specs.Records.{records_of}
use Rattle.rs_table.specs.Column.{Column, columns_with}
use Rattle.rs_table.specs.Relation.{Relation, most_rows}

-- the value that a field has in a column of this kind
abbrev pub cell_of : Kind → ℕ → ℕ → List ℕ → Result Value TableFault
cell_of kind.Int row column field = number_cell row column (int_value field) where
  number_cell : ℕ → ℕ → Option ℤ → Result Value TableFault
  number_cell row column (Some n) = Ok (Int n)
  number_cell row column None = Err (NotInt row column)
cell_of kind.Text row column field = if is_utf8 field then Ok (Text field) else Err (NotUtf8 row column)

-- the values of a row's fields, from the column of this number on
abbrev pub cells_of : List Column → ℕ → ℕ → List (List ℕ) → Result (List Value) TableFault
cells_of [] row number fields = Ok []
cells_of (column ∷ columns) row number [] = Ok []
cells_of (column ∷ columns) row number (field ∷ fields) = do
  value ← cell_of column.1 row number field
  values ← cells_of columns row (number + 1) fields
  Ok (value ∷ values)

-- the values of a row
abbrev pub row_of : List Column → ℕ → List (List ℕ) → Result (List Value) TableFault
row_of schema row fields =
    if nat_lt most_rows row then Err TooManyRows
    else if length fields == length schema then cells_of schema row 1 fields
    else Err (FieldCount row (length fields))

-- the values of all rows, from the row of this number on
abbrev pub rows_from : List Column → ℕ → List (List (List ℕ)) → Result (List (List Value)) TableFault
rows_from schema row [] = Ok []
rows_from schema row (record_ ∷ rest) = do
  values ← row_of schema row record_
  rows ← rows_from schema (row + 1) rest
  Ok (values ∷ rows)

-- the first place, from this number on, at which a header differs from the schema's names
abbrev pub difference_from : ℕ → List Column → List (List ℕ) → Option ℕ
difference_from number [] [] = None
difference_from number [] (name ∷ names) = Some number
difference_from number (column ∷ columns) [] = Some number
difference_from number (column ∷ columns) (name ∷ names) =
    if bytes_eq name column.0 then difference_from (number + 1) columns names else Some number

-- the rows of a file's records, the first of which is the header
abbrev pub rows_of_records : List Column → List (List (List ℕ)) → Result (List (List Value)) TableFault
rows_of_records schema [] = Err NoHeader
rows_of_records schema (header ∷ rest) = under (difference_from 1 schema header) where
  under : Option ℕ → Result (List (List Value)) TableFault
  under (Some column) = Err (HeaderDiffers column)
  under None = rows_from schema 1 rest

-- the table of a file
abbrev pub table_of : List Column → List ℕ → Result Relation TableFault
table_of schema bytes = do
  rows ← rows_of_records schema (records_of bytes)
  Ok (record { schema = schema; rows = rows })

-- the first field, from this number on, that isn't UTF-8
abbrev pub first_not_utf8 : ℕ → List (List ℕ) → Option ℕ
first_not_utf8 number [] = None
first_not_utf8 number (field ∷ fields) = if is_utf8 field then first_not_utf8 (number + 1) fields else Some number

-- the columns that a header names, all of texts, save that the first one of this name is of numbers
abbrev pub columns_named : List ℕ → List (List ℕ) → Result (List Column) TableFault
columns_named name header =
    if nat_lt 64 (length header) then Err (TooManyColumns (length header)) else checked (first_not_utf8 1 header) where
      checked : Option ℕ → Result (List Column) TableFault
      checked (Some column) = Err (NotUtf8 0 column)
      checked None = if list_any (λ field. bytes_eq field name) header then Ok (columns_with name header) else Err NoColumn

-- the schema of a file's header, in which the first column of this name is of numbers
abbrev pub header_of : List ℕ → List ℕ → Result (List Column) TableFault
header_of name bytes = first (records_of bytes) where
  first : List (List (List ℕ)) → Result (List Column) TableFault
  first [] = Err NoHeader
  first (header ∷ rest) = columns_named name header
