-- Steps one after another, each from the state that the one before it leaves, whatever the type of faults.
use Rattle.std.specs.Prelude.{ℕ, ◌≡◌, List, [], ◌∷◌, ◌++◌, map, Some, None, Result, Ok, Err}
use Rattle.rs_expr.specs.InOrder.{Inquiry}
use Rattle.rs_events.specs.Events.{Event, Put, Score, calls, calls_in}
use Rattle.rs_events.specs.Run.{Run, behind}

-- a step of a run: its events, and the state that it leaves, or the fault that ends the run
pub record Step (F S : Type 0) : Type 0 where
  pub events : List Event
  pub outcome : Result S F

-- a step without an event
abbrev pub still : {F S : Type 0} → Result S F → Step F S
still outcome = record { events = []; outcome = outcome }

-- these lines are put, each in one put, and this state is left
abbrev pub lines_step : {F S : Type 0} → List (List ℕ) → S → Step F S
lines_step lines state = record { events = map Put lines; outcome = Ok state }

-- all calls of an inquiry, and then the lines that its outcome gives, each in one put
abbrev pub inquiry_step : {A G F S : Type 0} → (Result A G → List (List ℕ)) → (Result A G → Result S F) → Inquiry A G → Step F S
inquiry_step lines outcome inquiry = record { events = calls_in inquiry ++ map Put (lines inquiry.outcome); outcome = outcome inquiry.outcome }

-- a step, and then another one, where the first one ends without a fault
abbrev pub then_step : {F S T : Type 0} → Step F S → Step F T → Step F T
then_step {F} {S} {T} first next = of first.outcome where
  of : Result S F → Step F T
  of (Ok state) = record { events = first.events ++ next.events; outcome = next.outcome }
  of (Err fault) = record { events = first.events; outcome = Err fault }

-- the calls of a step, without its puts
abbrev pub silent : {F S : Type 0} → Step F S → Step F S
silent step = record { events = map Score (calls step.events); outcome = step.outcome }

-- what is done of a step
abbrev pub run_of : {F S : Type 0} → Step F S → Run F
run_of {F} {S} step = of step.outcome where
  of : Result S F → Run F
  of (Ok next) = record { events = step.events; fault = None }
  of (Err fault) = record { events = step.events; fault = Some fault }

-- the run of a step and those behind it, which only go on where it ends without a fault
abbrev pub RunsOn : {F S : Type 0} → (S → Run F → Type 0) → List Event → Result S F → Run F → Type 0
RunsOn rest events (Err fault) run = run ≡ record { events = events; fault = Some fault }
RunsOn {F} rest events (Ok next) run = (more : Run F) × rest next more × (run ≡ behind events more)

-- the run of commands one after another, from this state on, up to the first fault; what each does depends on the state before it
abbrev pub RunOf : {F S C : Type 0} → (S → C → Step F S → Type 0) → S → List C → Run F → Type 0
RunOf does state [] run = run ≡ record { events = []; fault = None }
RunOf {F} {S} does state (command ∷ rest) run =
    (step : Step F S) × does state command step × RunsOn (λ next more. RunOf does next rest more) step.events step.outcome run
