-- A run that begins at a statement of its script does the rest of the whole run.
use Rattle.std.specs.Prelude.{ℕ, ◌≡◌, ◌⊎◌, List, [], ◌∷◌, ◌++◌, Option, Some, None}
use Rattle.rs_outside.specs.Files.{Contents, Finds, StaysKnown, finds_in, found_in}
use Rattle.rs_syntax.specs.Syntax.{Command}
use Rattle.rs_events.specs.Events.{Event}
use Rattle.rs_events.specs.Run.{Run, behind}
use Rattle.rs_events.specs.Sequence.{RunOf, Step}
use Rattle.rs_run.specs.Later.{Leads}

-- the events of commands on the way to the state to which they lead
abbrev pub events_to : {F S C : Type 0} (does : S → C → Step F S → Type 0) (state : S) (commands : List C) (later : S) → Leads does state commands later → List Event
events_to does state [] later leads = []
events_to does state (command ∷ rest) later leads = leads.1.events ++ events_to does leads.0 rest later leads.4

-- the run of the first commands alone, where they lead to a state
abbrev pub run_to : {F S C : Type 0} (does : S → C → Step F S → Type 0) (state : S) (commands : List C) (later : S) → Leads does state commands later → Run F
run_to does state commands later leads = record { events = events_to does state commands later leads; fault = None }

-- the run has these events first, and then those of a run of the rest from this state on, with its ending
pub record GoesOn {F S C : Type 0} (does : S → C → Step F S → Type 0) (events : List Event) (later : S) (rest : List C) (run : Run F) : Type 0 where
  pub more : Run F
  pub is : RunOf does later rest more
  pub run_is : run ≡ behind events more

-- the first commands lead to a state, and the run goes on from there with the rest
pub record IsJoined {F S C : Type 0} (does : S → C → Step F S → Type 0) (first : S) (front rest : List C) (run : Run F) : Type 0 where
  pub later : S
  pub leads : Leads does first front later
  pub goes_on : GoesOn does (events_to does first front later leads) later rest run

-- the run is one of these commands, and a fault ends it
pub record EndsByFault {F S C : Type 0} (does : S → C → Step F S → Type 0) (first : S) (commands : List C) (run : Run F) : Type 0 where
  pub is : RunOf does first commands run
  pub fault : F
  pub is_fault : run.fault ≡ Some fault

-- runs of commands split behind any of the commands. Where the first ones lead to a state they have a run, which no fault ends. With what the rest does from there
-- on it is a run of all. And each run of all is joined so, or a fault of the first ones ends it
pub record Splits {F S C : Type 0} (does : S → C → Step F S → Type 0) (first : S) (runs : List C → Run F → Type 0) : Type 0 where
  pub starts : (front : List C) (later : S) (leads : Leads does first front later) → runs front (run_to does first front later leads)
  pub joins : (front rest : List C) (run : Run F) → IsJoined does first front rest run → runs (front ++ rest) run
  pub parts : (front rest : List C) (run : Run F) → runs (front ++ rest) run → IsJoined does first front rest run ⊎ EndsByFault does first front run

-- the runs of a script split behind any of its statements, whatever is known of the files. Where these stay as they are and the first statements lead to a state,
-- each run of all has their events, and goes on from there. And what the rest does where more is known of the files, it does where less is known
pub record SplitsAtStatements {F S : Type 0} (does : Finds → S → Command → Step F S → Type 0) (first : S) (runs : Finds → List Command → Run F → Type 0) : Type 0 where
  pub splits : (contents : Contents) → Splits (does (finds_in contents)) first (runs (finds_in contents))
  pub same : (there : List ℕ → Option (List ℕ)) (front rest : List Command) (later : S) (leads : Leads (does (found_in there)) first front later) (run : Run F)
      → runs (found_in there) (front ++ rest) run → GoesOn (does (found_in there)) (events_to (does (found_in there)) first front later leads) later rest run
  pub known : (old new : Contents) (later : S) (rest : List Command) (run : Run F) → StaysKnown old new
      → RunOf (does (finds_in new)) later rest run → RunOf (does (finds_in old)) later rest run
