-- Rows of a table, by their numbers.
use Rattle.std.proofs.Common.{ℕ, ◌≡◌, ◌∙◌, ◌+◌, ◌-◌, ◌<◌, ◌++◌, List, [], ◌∷◌, length, take, true, Some, sym, ap, arith}
use Rattle.std.specs.Prelude.{option_and_then, slice_get}
use Rattle.std.specs.List.{AllByRecursion}
use Rattle.std.proofs.lemmas.Option.{slice_get_within, get_or_from_slice_get, unwrap_or-slice_get, slice_get-get_or}
use Rattle.std.proofs.lemmas.List.{take_more}
use Rattle.rs_value.specs.declared.value.Value.{Value}
use Rattle.rs_table.specs.Relation.{Relation, row_fits, cell_at}
use Rattle.rs_table.proofs.RelationFacts.{row_fits-at, length-row_fits}
use Rattle.rs_catalog.specs.Indexes.{row_at}
use Rattle.rs_run.specs.Parts.Read.{IsRow}

-- a row by its number, as an element of the list
pub slice_get-row_at : (table : Relation) (row : ℕ) → IsRow table row → slice_get table.rows (row - 1) ≡ Some (row_at table.rows row)
slice_get-row_at table row is_row =
    let within : row - 1 < length table.rows = omega (arith, is_row.some, is_row.within) in
    slice_get-get_or table.rows (row - 1) [] within ∙ ap Some (sym (unwrap_or-slice_get table.rows (row - 1) []))

-- a row has as many values as there are columns
pub length-row_at : (table : Relation) (row : ℕ) → AllByRecursion (λ values. row_fits table.schema values ≡ true) table.rows → IsRow table row
    → length (row_at table.rows row) ≡ length table.schema
length-row_at table row fit is_row =
    let within : row - 1 < length table.rows = omega (arith, is_row.some, is_row.within) in
    let values = row_at table.rows row in
    length-row_fits table.schema values (row_fits-at table.schema table.rows (row - 1) values fit within
    (sym (get_or_from_slice_get table.rows (row - 1) values values (slice_get-row_at table row is_row))))

-- a cell of a row
pub slice_get-cell : (table : Relation) (row column : ℕ) (value : Value) → IsRow table row → cell_at table row column ≡ Some value → slice_get (row_at table.rows row) column ≡ Some value
slice_get-cell table row column value is_row e =
    ap (λ r. option_and_then (λ (values : List Value). slice_get values column) r) (sym (slice_get-row_at table row is_row)) ∙ e

-- the values up to a cell, with the cell
pub take-slice_get : {A : Type 0} (xs : List A) (i : ℕ) (x : A) → slice_get xs i ≡ Some x → take (i + 1) xs ≡ take i xs ++ x ∷ []
take-slice_get xs i x e = take_more xs i x (slice_get_within xs i x e) ∙ ap (λ y. take i xs ++ y ∷ []) (get_or_from_slice_get xs i x x e)
