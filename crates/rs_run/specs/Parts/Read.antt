-- What `top` and scripts read of their files, and the rows of a table.
use Rattle.std.specs.Prelude.{ℕ, ◌≡◌, ◌≤◌, List, length, Option, Result}
use Rattle.rs_table.specs.Relation.{Relation}
use Rattle.rs_statement.specs.declared.fault.Fault.{Fault}
use Rattle.rs_run.specs.Plain.{source_of}
use Rattle.rs_run.specs.Top.{top_table}

-- the table of the file
abbrev pub IsTopTable : List ℕ → List ℕ → Option (List ℕ) → Result Relation Fault → Type 0
IsTopTable file column there result = result ≡ top_table file column there

-- the text of the script in the file
abbrev pub IsSource : List ℕ → Option (List ℕ) → Result (List ℕ) Fault → Type 0
IsSource file there result = result ≡ source_of file there

-- a row of this number is in the table
pub record IsRow (table : Relation) (row : ℕ) : Type 0 where
  pub some : 1 ≤ row
  pub within : row ≤ length table.rows
