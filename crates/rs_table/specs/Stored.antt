-- How a table is kept: one column after another.
use Rattle.std.specs.Prelude.{ℕ, zero, suc, pos, ◌≡◌, ◌<◌, ◌≤◌, true, List, [], ◌∷◌, ◌++◌, length, map, slice_index_or}
use Rattle.std.specs.List.{All}
use Rattle.rs_value.specs.declared.kind.Kind.{Kind}
use Rattle.rs_value.specs.declared.value.Value.{Value}
use Rattle.rs_value.specs.declared.value.Value.TheVariants.{Int}
use Rattle.rs_table.specs.Relation.{IsTable}
use Rattle.rs_table.specs.Texts.{different, has_text, text_number}

-- texts, row by row, and how many more there is room for
pub record TextCells : Type 0 where
  pub texts : List (List ℕ)
  pub room : ℕ

-- the texts of these numbers
abbrev pub texts_of : List (List ℕ) → List ℕ → List (List ℕ)
texts_of kept numbers = map (λ number. slice_index_or kept number []) numbers

-- the kept texts are the different texts of the rows, by first occurrence, and a row has the number of its text
pub record IsNumbered (kept : List (List ℕ)) (numbers : List ℕ) : Type 0 where
  pub within : All (λ number. number < length kept) numbers
  pub all : different (texts_of kept numbers) ≡ length kept
  pub there : (n : ℕ) → n < length kept → has_text (slice_index_or kept n []) (texts_of kept numbers) ≡ true
  pub counted : (n : ℕ) → n < length kept → text_number (slice_index_or kept n []) (texts_of kept numbers) ≡ n

-- the cells of a column: their kind, the cells, row by row, and how many more there is room for
pub record StoredCells : Type 0 where
  pub kind : Kind
  pub cells : List Value
  pub room : ℕ

abbrev pub kinds_in : List StoredCells → List Kind
kinds_in columns = map (λ column. column.kind) columns

abbrev pub cells_in : List StoredCells → List (List Value)
cells_in columns = map (λ column. column.cells) columns

abbrev pub rooms_in : List StoredCells → List ℕ
rooms_in columns = map (λ column. column.room) columns

-- rows, the kinds of their columns, and how many more there is room for in each column
pub record StoredRows : Type 0 where
  pub kinds : List Kind
  pub rows : List (List Value)
  pub rooms : List ℕ

-- there is room for so many more rows
abbrev pub HasRoom : ℕ → StoredRows → Type 0
HasRoom count stored = All (λ room. count ≤ room) stored.rooms

-- the cells that columns have at a place, which counts from 0
abbrev pub row_across : ℕ → List (List Value) → List Value
row_across place columns = map (λ cells. slice_index_or cells place (Int (pos 0))) columns

-- the first so many rows of columns
abbrev pub rows_across : ℕ → List (List Value) → List (List Value)
rows_across zero columns = []
rows_across (suc count) columns = rows_across count columns ++ row_across count columns ∷ []

-- the first so many rows of columns, as they are stored
abbrev pub stored_in : ℕ → List StoredCells → StoredRows
stored_in count columns = record { kinds = kinds_in columns; rows = rows_across count (cells_in columns); rooms = rooms_in columns }

-- each column has so many cells
abbrev pub AreEven : ℕ → List (List Value) → Type 0
AreEven count columns = All (λ cells. length cells ≡ count) columns

-- columns with a value more in each
abbrev pub pushed : List (List Value) → List Value → List (List Value)
pushed [] values = []
pushed (cells ∷ columns) [] = []
pushed (cells ∷ columns) (value ∷ values) = (cells ++ value ∷ []) ∷ pushed columns values

-- what holds of a table's columns
pub record IsStored (schema : List (List ℕ × Kind)) (stored : StoredRows) : Type 0 where
  pub table : IsTable (record { schema = schema; rows = stored.rows })
  pub kinds : stored.kinds ≡ map (λ column. column.1) schema
