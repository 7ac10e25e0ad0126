-- The line of a printed row.
use Rattle.std.specs.Prelude.{ℕ, List, ◌∷◌, map}
use Rattle.std.specs.Fmt.{decimal}
use Rattle.csv.specs.Writing.{row_text, default_writer}
use Rattle.rs_value.specs.Value.{printed}
use Rattle.rs_value.specs.declared.value.Value.{Value}

-- rank, score and values as one record of CSV, as the writer of `csv` writes it at its defaults
abbrev pub line_of : ℕ → ℕ → List Value → List ℕ
line_of rank score values = row_text default_writer (decimal rank ∷ decimal score ∷ map printed values)
