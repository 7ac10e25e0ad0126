-- The generated files.
use Rattle.std.specs.Prelude.{ℕ, List, [], ◌∷◌, codes}
use Rattle.rs_outside.specs.Files.{Folder}
use Rattle.rs_outside.specs.MemFiles.{MemFilesState, no_files}
use Rattle.rs_gen.specs.Script.{script_text}
use Rattle.rs_gen.specs.Tables.{hotels, museums, restaurants}

-- the name of the script
abbrev pub script_name : List ℕ
script_name = codes "gen.sql"

-- the three tables and the script
abbrev pub generated_folder : ℕ → ℕ → Folder
generated_folder number rows =
    record { name = codes "hotel.csv"; bytes = hotels number rows }
    ∷ record { name = codes "restaurant.csv"; bytes = restaurants number rows }
    ∷ record { name = codes "museum.csv"; bytes = museums number rows }
    ∷ record { name = script_name; bytes = script_text }
    ∷ []

-- these files, none of which was fetched yet, and no fetch of which is to fail
abbrev pub generated : ℕ → ℕ → MemFilesState
generated number rows = record no_files { folder = generated_folder number rows }
