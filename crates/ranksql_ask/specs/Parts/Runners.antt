-- What is run again and again, as the clauses of the program see it.
use Rattle.std.specs.Prelude.{true, Option, Some, None}
use Rattle.rs_value.specs.Outside.{untold}
use Rattle.rs_outside.specs.Files.{FilesState}
use Rattle.rs_scores.specs.KnownFiles.{KnownFilesState, known_state}
use Rattle.ranksql_ask.specs.Endings.{Runner}
use Rattle.ranksql_ask.specs.Parts.Asking.{form_of_asking}
use Rattle.ranksql_ask.specs.declared.script.Script.{Script}

-- what contracts see of files. They are always there
abbrev pub seen_by : {F : Type 0} → (F → FilesState) → Option (KnownFilesState F) → FilesState
seen_by state (Some known) = known_state known.found (state known.files)
seen_by state None = record { outside = untold 0; contents = λ name. None; remembers = true }

-- the form of what it runs, and its files
abbrev pub runner_of : {F : Type 0} → (F → FilesState) → Script F → Runner
runner_of state script = record { form = form_of_asking script.asking; files = seen_by state script.files }
