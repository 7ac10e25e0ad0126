-- The word `gen`: a run over files that are made for it.
use Rattle.std.specs.Prelude.{ℕ, List, [], ◌∷◌}
use Rattle.rs_outside.specs.Files.{Finds, file_named, found_in}
use Rattle.rs_gen.specs.Files.{generated_folder}
use Rattle.rs_events.specs.Events.{Event, Fetch, Put, Score}
use Rattle.rs_statement.specs.Steps.{Run}

-- what a fetch finds among the generated files
abbrev pub finds_generated : ℕ → ℕ → Finds
finds_generated number rows = found_in (λ name. file_named name (generated_folder number rows))

-- events without the fetches among them
abbrev pub without_fetches : List Event → List Event
without_fetches [] = []
without_fetches (Fetch name ∷ rest) = without_fetches rest
without_fetches (Score call ∷ rest) = Score call ∷ without_fetches rest
without_fetches (Put bytes ∷ rest) = Put bytes ∷ without_fetches rest

-- a run that has its files itself, so that nothing is fetched from outside
abbrev pub unfetched : Run → Run
unfetched run = record run { events = without_fetches run.events }
