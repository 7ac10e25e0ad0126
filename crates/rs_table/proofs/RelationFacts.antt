-- What was read is a table: the rows fit the columns, and there are few of them.
use Rattle.std.proofs.Common.{ℕ, ℤ, ◌≡◌, ◌+◌, ◌-◌, ◌<◌, ◌≤◌, Bool, true, false, nat_lt, ◌&&◌, List, [], ◌∷◌, length, get_or, map, zero, suc, sym, refl, ap, ◌∙◌, ◌++◌, length-append, subst, arith, rules, if◌then◌else◌, ◌==◌}
use Rattle.std.specs.Prelude.{Option, Some, None, Result, Ok, Err, IfOk, slice_get}
use Rattle.std.specs.List.{AllByRecursion}
use Rattle.std.specs.Str.{is_utf8}
use Rattle.std.proofs.lemmas.List.Elements.{All-from_recursion, All-get_or}
use Rattle.std.proofs.lemmas.Option.{slice_get-get_or}
use Rattle.rs_value.specs.Number.{int_value}
use Rattle.rs_value.specs.declared.kind.Kind.{Kind}
use Rattle.rs_value.specs.declared.kind.Kind.TheVariants as kind
use Rattle.rs_value.specs.declared.value.Value.{Value}
use Rattle.rs_value.specs.declared.value.Value.TheVariants.{Int, Text}
use Rattle.rs_value.specs.Value.{kind_of}
use Rattle.rs_value.specs.declared.memory.Memory.{Memory}
use Rattle.rs_table.specs.declared.fault.TableFault.{TableFault}
use Rattle.rs_table.specs.declared.fault.TableFault.TheVariants.{NotUtf8, NotInt, FieldCount, TooManyRows}
use Rattle.rs_table.specs.Column.{Column}
use Rattle.rs_table.specs.Relation.{Relation, IsTable, cell_at, row_fits, most_rows}
use Rattle.rs_value.specs.Value.{fits}
use Rattle.rs_value.specs.Results.{◌>>=◌}
use Rattle.rs_table.specs.Lent.{with_rows}
use Rattle.rs_table.specs.Reading.{cell_of, cells_of, row_of, rows_from}
use Rattle.rs_table.proofs.NumberFacts.{int_value-within}

both : (a b : Bool) → (a && b) ≡ true → (a ≡ true) × (b ≡ true)
both true b e = (refl, e)
both false b e = cc

-- a value that was read fits the column's kind
pub cell_of-fits : (k : Kind) (row column : ℕ) (field : List ℕ) (value : Value) → cell_of k row column field ≡ Ok value → fits k value ≡ true
cell_of-fits kind.Int row column field value = go (int_value field) refl where
  go : (number : Option ℤ) → int_value field ≡ number → cell_of kind.Int row column field ≡ Ok value → fits kind.Int value ≡ true
  go (Some n) is e =
      let read : cell_of kind.Int row column field ≡ Ok (Int n) = rw is refl in
      let same : Int n ≡ value = cc in
      rw (← same) (int_value-within field n is)
  go None is e =
      let read : cell_of kind.Int row column field ≡ Err (NotInt row column) = rw is refl in
      cc
cell_of-fits kind.Text row column field value = go (is_utf8 field) where
  go : (utf8 : Bool) → (if utf8 then Ok (Text field) else Err (NotUtf8 row column)) ≡ Ok value → fits kind.Text value ≡ true
  go true e = let same : Text field ≡ value = cc in rw (← same) refl
  go false e = cc

-- a list that was read, taken apart
record IsReadAs {A : Type 0} (first : Result A TableFault) (rest : Result (List A) TableFault) (all : List A) : Type 0 where
  x : A
  xs : List A
  first_is : first ≡ Ok x
  rest_is : rest ≡ Ok xs
  all_is : all ≡ x ∷ xs

-- a list that was read has a first item that was read, and others that were read
read_as : {A : Type 0} (first : Result A TableFault) (rest : Result (List A) TableFault) (all : List A)
    → (first >>= (λ x. rest >>= (λ xs. Ok (x ∷ xs)))) ≡ Ok all → IsReadAs first rest all
read_as (Ok x) (Ok xs) all e = record { x = x; xs = xs; first_is = refl; rest_is = refl; all_is = cc }
read_as (Ok x) (Err fault) all e = cc
read_as (Err fault) rest all e = cc

-- the values of a row that was read fit the columns
pub cells_of-fits : (columns : List Column) (row number : ℕ) (fields : List (List ℕ)) (values : List Value)
    → length fields ≡ length columns → cells_of columns row number fields ≡ Ok values → row_fits columns values ≡ true
cells_of-fits [] row number fields values same e = let none : values ≡ [] = cc in rw none refl
cells_of-fits (column ∷ columns) row number [] values same e = absurd (omega arith)
cells_of-fits (column ∷ columns) row number (field ∷ fields) values same e =
    let parts = read_as (cell_of column.1 row number field) (cells_of columns row (number + 1) fields) values e in
    let first = cell_of-fits column.1 row number field parts.x parts.first_is in
    let others = cells_of-fits columns row (number + 1) fields parts.xs (omega arith) parts.rest_is in
    rw (parts.all_is, first, others) refl

-- what holds of a row that was read
pub record IsRow (columns : List Column) (row : ℕ) (values : List Value) : Type 0 where
  pub few : row ≤ 131072
  pub fit : row_fits columns values ≡ true

-- a row that was read is one of the first 131,072, and fits
pub row_of-row : (columns : List Column) (row : ℕ) (fields : List (List ℕ)) (values : List Value) → row_of columns row fields ≡ Ok values → IsRow columns row values
row_of-row columns row fields values = go (nat_lt most_rows row) (length fields == length columns) refl refl where
  go : (many same : Bool) → nat_lt most_rows row ≡ many → (length fields == length columns) ≡ same
      → (if many then Err TooManyRows else if same then cells_of columns row 1 fields else Err (FieldCount row (length fields))) ≡ Ok values → IsRow columns row values
  go true same many_is same_is e = cc
  go false true many_is same_is e = record { few = search rules; fit = cells_of-fits columns row 1 fields values (search rules) e }
  go false false many_is same_is e = cc

-- the values of a row that fits are of the columns' kinds
fits-kind : (k : Kind) (value : Value) → fits k value ≡ true → kind_of value ≡ k
fits-kind kind.Int (Int n) e = refl
fits-kind kind.Int (Text t) e = cc
fits-kind kind.Text (Int n) e = cc
fits-kind kind.Text (Text t) e = refl

pub kinds-row_fits : (columns : List Column) (values : List Value) → row_fits columns values ≡ true → map kind_of values ≡ map (λ (column : Column). column.1) columns
kinds-row_fits [] [] e = refl
kinds-row_fits [] (value ∷ values) e = cc
kinds-row_fits (column ∷ columns) [] e = cc
kinds-row_fits (column ∷ columns) (value ∷ values) e =
    let parts = both (fits column.1 value) (row_fits columns values) e in
    rw (fits-kind column.1 value parts.0) (ap (λ rest. column.1 ∷ rest) (kinds-row_fits columns values parts.1))

-- the rows that were read fit the columns
pub rows_from-fit : (columns : List Column) (row : ℕ) (records : List (List (List ℕ))) (rows : List (List Value))
    → rows_from columns row records ≡ Ok rows → AllByRecursion (λ values. row_fits columns values ≡ true) rows
rows_from-fit columns row [] rows e = let none : rows ≡ [] = cc in rw none tt
rows_from-fit columns row (first ∷ rest) rows e =
    let parts = read_as (row_of columns row first) (rows_from columns (row + 1) rest) rows e in
    rw parts.all_is ((row_of-row columns row first parts.x parts.first_is).fit, rows_from-fit columns (row + 1) rest parts.xs parts.rest_is)

-- no more rows than 131,072 were read
pub length-rows_from : (columns : List Column) (row : ℕ) (records : List (List (List ℕ))) (rows : List (List Value))
    → row ≤ 131073 → rows_from columns row records ≡ Ok rows → row + length rows ≤ 131073
length-rows_from columns row [] rows start e = let none : rows ≡ [] = cc in rw none (omega arith)
length-rows_from columns row (first ∷ rest) rows start e =
    let parts = read_as (row_of columns row first) (rows_from columns (row + 1) rest) rows e in
    let here = (row_of-row columns row first parts.x parts.first_is).few in
    let others = length-rows_from columns (row + 1) rest parts.xs (omega arith) parts.rest_is in
    rw parts.all_is (omega arith)

-- what was read is a table
pub IsTable-from_rows : (columns : List Column) (records : List (List (List ℕ))) (rows : List (List Value))
    → 1 ≤ length columns → length columns ≤ 64 → rows_from columns 1 records ≡ Ok rows → IsTable (record { schema = columns; rows = rows })
IsTable-from_rows columns records rows some few e = record {
  some_columns = some;
  few_columns = few;
  few_rows = omega (arith, length-rows_from columns 1 records rows (omega arith) e);
  rows_fit = rows_from-fit columns 1 records rows e;
}

-- a row of a table fits the columns
pub row_fits-at : (columns : List Column) (rows : List (List Value)) (i : ℕ) (values : List Value)
    → AllByRecursion (λ values. row_fits columns values ≡ true) rows → i < length rows → values ≡ get_or rows i values → row_fits columns values ≡ true
row_fits-at columns [] i values h lt is = absurd (omega arith)
row_fits-at columns (row ∷ rows) zero values h lt is = rw is h.0
row_fits-at columns (row ∷ rows) (suc i) values h lt is = row_fits-at columns rows i values h.1 (omega arith) is

-- a row that fits has as many values as there are columns
pub length-row_fits : (columns : List Column) (values : List Value) → row_fits columns values ≡ true → length values ≡ length columns
length-row_fits [] [] e = refl
length-row_fits [] (value ∷ values) e = cc
length-row_fits (column ∷ columns) [] e = cc
length-row_fits (column ∷ columns) (value ∷ values) e =
    ap suc (length-row_fits columns values (both (fits column.1 value) (row_fits columns values) e).1)

-- a value of a row that fits, fits its column
pub fits-at : (columns : List Column) (values : List Value) (i : ℕ) (column : Column) (value : Value)
    → row_fits columns values ≡ true → slice_get columns i ≡ Some column → slice_get values i ≡ Some value → fits column.1 value ≡ true
fits-at [] values i column value e c v = cc
fits-at (first ∷ columns) [] i column value e c v = cc
fits-at (first ∷ columns) (one ∷ values) zero column value e c v =
    let c_is : first ≡ column = cc in
    let v_is : one ≡ value = cc in
    rw (← c_is, ← v_is) (both (fits first.1 one) (row_fits columns values) e).0
fits-at (first ∷ columns) (one ∷ values) (suc i) column value e c v =
    fits-at columns values i column value (both (fits first.1 one) (row_fits columns values) e).1 c v

-- a value that fits a column of numbers is a number
pub kind_of-fits : (k : Kind) (value : Value) → k ≡ kind.Int → fits k value ≡ true → kind_of value ≡ kind.Int
kind_of-fits kind.Int (Int n) is e = refl
kind_of-fits kind.Int (Text t) is e = cc
kind_of-fits kind.Text value is e = cc

-- what holds of the value at a row and a column
pub record IsCell (table : Relation) (row column : ℕ) (value : Value) : Type 0 where
  pub cell : cell_at table row column ≡ Some value
  pub fit : (c : Column) → slice_get table.schema column ≡ Some c → fits c.1 value ≡ true

-- the value of a row at a column
pub IsCell-at : (table : Relation) (row column : ℕ) (value : Value) → IsTable table → 1 ≤ row → row ≤ length table.rows → slice_get (get_or table.rows (row - 1) []) column ≡ Some value
    → IsCell table row column value
IsCell-at table row column value is some within there =
    let in_rows : row - 1 < length table.rows = omega arith in
    let row_fit : row_fits table.schema (get_or table.rows (row - 1) []) ≡ true =
    All-get_or (λ values. row_fits table.schema values ≡ true) table.rows (row - 1) [] in_rows (All-from_recursion (λ values. row_fits table.schema values ≡ true) table.rows is.rows_fit) in
    record {
      cell = rw (slice_get-get_or table.rows (row - 1) [] in_rows) there;
      fit = λ c c_is. fits-at table.schema (get_or table.rows (row - 1) []) column c value row_fit c_is there;
    }

-- the rows of a table that fit its columns are of their kinds
pub kinds-rows : (columns : List Column) (kinds : List Kind) (rows : List (List Value)) → kinds ≡ map (λ (column : Column). column.1) columns
    → AllByRecursion (λ row. row_fits columns row ≡ true) rows → AllByRecursion (λ row. map kind_of row ≡ kinds) rows
kinds-rows columns kinds [] same fit = tt
kinds-rows columns kinds (row ∷ rows) same fit = (kinds-row_fits columns row fit.0 ∙ sym same, kinds-rows columns kinds rows same fit.1)

fit-append : (columns : List Column) (rows more : List (List Value)) → AllByRecursion (λ row. row_fits columns row ≡ true) rows → AllByRecursion (λ row. row_fits columns row ≡ true) more
    → AllByRecursion (λ row. row_fits columns row ≡ true) (rows ++ more)
fit-append columns [] more fit fit_more = fit_more
fit-append columns (row ∷ rows) more fit fit_more = (fit.0, fit-append columns rows more fit.1 fit_more)

-- a table with rows that fit it behind its own, where there are few
pub IsTable-with_rows : (table : Relation) (rows : List (List Value)) → IsTable table → AllByRecursion (λ row. row_fits table.schema row ≡ true) rows → length table.rows + length rows ≤ most_rows
    → IsTable (with_rows rows table)
IsTable-with_rows table rows is fit few = record {
  some_columns = is.some_columns;
  few_columns = is.few_columns;
  few_rows = omega (arith, length-append table.rows rows);
  rows_fit = fit-append table.schema table.rows rows is.rows_fit fit;
}

-- what holds of a value holds of its copy
pub IfOk-copy : (P : Value → Type 0) (value : Value) (result : Result Value Memory) → P value → IfOk result (λ copy. copy ≡ value) → IfOk result P
IfOk-copy P value (Ok copy) holds same = subst P (sym same) holds
IfOk-copy P value (Err e) holds same = tt
