-- The texts of a column, and their numbers.
use Rattle.std.specs.Prelude.{ℕ, ◌+◌, Bool, List, [], ◌∷◌, map, pos, slice_index_or, if◌then◌else◌}
use Rattle.std.specs.List.{list_any}
use Rattle.std.specs.Str.{bytes_eq}
use Rattle.rs_value.specs.declared.value.Value.{Value}
use Rattle.rs_value.specs.declared.value.Value.TheVariants.{Int, Text}
use Rattle.rs_table.specs.Relation.{Relation}

abbrev pub has_text : List ℕ → List (List ℕ) → Bool
has_text text texts = list_any (λ other. bytes_eq other text) texts

-- how many different texts these are: each counts where it stands last
abbrev pub different : List (List ℕ) → ℕ
different [] = 0
different (text ∷ texts) = if has_text text texts then different texts else different texts + 1

-- the texts before the first occurrence of this one
abbrev pub texts_before : List ℕ → List (List ℕ) → List (List ℕ)
texts_before text [] = []
texts_before text (other ∷ texts) = if bytes_eq other text then [] else other ∷ texts_before text texts

-- the number of a text: how many different texts stand before its first occurrence
abbrev pub text_number : List ℕ → List (List ℕ) → ℕ
text_number text texts = different (texts_before text texts)

-- the text that a cell is; a number is none
abbrev pub text_of_value : Value → List ℕ
text_of_value (Text text) = text
text_of_value (Int number) = []

abbrev pub texts_among : List Value → List (List ℕ)
texts_among cells = map text_of_value cells

-- the cells of a column, row by row
abbrev pub cells_across : ℕ → List (List Value) → List Value
cells_across column rows = map (λ row. slice_index_or row column (Int (pos 0))) rows

-- the texts of a column of texts, row by row
abbrev pub column_texts : Relation → ℕ → List (List ℕ)
column_texts table column = texts_among (cells_across column table.rows)
