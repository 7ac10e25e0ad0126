-- What a run does: its events, in order, and the fault that ends it, whatever the type of faults.
use Rattle.std.specs.Prelude.{ℕ, List, [], ◌∷◌, ◌++◌, map, Option, Some, None, option_map, Result, Ok, Err}
use Rattle.rs_events.specs.Events.{Event, Fetch, Put}

-- what a run does, and the fault that ends it, if one does
pub record Run (F : Type 0) : Type 0 where
  pub events : List Event
  pub fault : Option F

-- a run that ends with a fault before any event
abbrev pub fails : {F : Type 0} → F → Run F
fails fault = record { events = []; fault = Some fault }

-- events, and then a run
abbrev pub behind : {F : Type 0} → List Event → Run F → Run F
behind events run = record { events = events ++ run.events; fault = run.fault }

-- the same run, with its fault told as one of another type
abbrev pub with_fault : {F G : Type 0} → (F → G) → Run F → Run G
with_fault tells run = record { events = run.events; fault = option_map tells run.fault }

-- a run that puts these lines, each in one put
abbrev pub lines_run : {F : Type 0} → List (List ℕ) → Run F
lines_run lines = record { events = map Put lines; fault = None }

-- a run that fetches a file and then puts these lines, or ends with a fault before any put
abbrev pub fetch_then : {F : Type 0} → List ℕ → Result (List (List ℕ)) F → Run F
fetch_then name (Ok lines) = record { events = Fetch name ∷ map Put lines; fault = None }
fetch_then name (Err fault) = record { events = Fetch name ∷ []; fault = Some fault }
