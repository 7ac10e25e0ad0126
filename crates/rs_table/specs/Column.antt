-- Columns of a schema.
use Rattle.std.specs.Prelude.{ℕ, Bool, List, [], ◌∷◌, Option, position, if◌then◌else◌}
use Rattle.std.specs.Str.{bytes_eq}
use Rattle.rs_value.specs.declared.kind.Kind.{Kind}
use Rattle.rs_value.specs.declared.kind.Kind.TheVariants.{Int, Text}

-- a column: its name and its kind
abbrev pub Column : Type 0
Column = List ℕ × Kind

-- whether a column has this name
abbrev pub is_named : List ℕ → Column → Bool
is_named name column = bytes_eq column.0 name

-- the place of the first column of this name, counted from 0
abbrev pub place_of : List ℕ → List Column → Option ℕ
place_of name columns = position (is_named name) columns

-- columns of these names, all of texts
abbrev pub text_columns : List (List ℕ) → List Column
text_columns [] = []
text_columns (name ∷ rest) = (name, Text) ∷ text_columns rest

-- the same, save that the first column of this name is of numbers
abbrev pub columns_with : List ℕ → List (List ℕ) → List Column
columns_with number [] = []
columns_with number (name ∷ rest) =
    if bytes_eq name number then (name, Int) ∷ text_columns rest else (name, Text) ∷ columns_with number rest
