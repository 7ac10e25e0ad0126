-- The number of a text among the first rows of a table.
use Rattle.std.proofs.Common.{ℕ, ◌≡◌, cond, zero, suc, List, [], ◌∷◌, get_or, take, refl, ap, pos}
use Rattle.std.proofs.lemmas.Option.{get_or_from_slice_get}
use Rattle.std.proofs.lemmas.Slice.Eq.{bytes_eq-Decides}
use Rattle.std.specs.Prelude.{Some, slice_get, option_and_then}
use Rattle.std.specs.Str.{bytes_eq}
use Rattle.rs_value.specs.declared.value.Value.{Value}
use Rattle.rs_value.specs.declared.value.Value.TheVariants.{Int, Text}
use Rattle.rs_table.specs.Texts.{cells_across, text_of_value, texts_among, texts_before}

-- the texts before a text that one of the first rows has are the same among all rows
pub texts_before-first : (rows : List (List Value)) (count place column : ℕ) (text : List ℕ)
    → option_and_then (λ (values : List Value). slice_get values column) (slice_get (take count rows) place) ≡ Some (Text text)
    → texts_before text (texts_among (cells_across column (take count rows))) ≡ texts_before text (texts_among (cells_across column rows))
texts_before-first [] zero place column text has = refl
texts_before-first [] (suc count) place column text has = refl
texts_before-first (row ∷ rows) zero place column text has = cc
texts_before-first (row ∷ rows) (suc count) zero column text has =
    let here : get_or row column (Int (pos 0)) ≡ Text text = get_or_from_slice_get row column (Text text) (Int (pos 0)) has in
    rw (ap text_of_value here, (bytes_eq-Decides text text).1 refl) refl
texts_before-first (row ∷ rows) (suc count) (suc place) column text has =
    let first = text_of_value (get_or row column (Int (pos 0))) in
    ap (λ (before : List (List ℕ)). cond (bytes_eq first text) [] (first ∷ before)) (texts_before-first rows count place column text has)

-- a cell of the first rows is one of the table
pub cell-first : (rows : List (List Value)) (count place column : ℕ) (value : Value)
    → option_and_then (λ (values : List Value). slice_get values column) (slice_get (take count rows) place) ≡ Some value
    → option_and_then (λ (values : List Value). slice_get values column) (slice_get rows place) ≡ Some value
cell-first [] zero place column value has = has
cell-first [] (suc count) place column value has = has
cell-first (row ∷ rows) zero place column value has = cc
cell-first (row ∷ rows) (suc count) zero column value has = has
cell-first (row ∷ rows) (suc count) (suc place) column value has = cell-first rows count place column value has
