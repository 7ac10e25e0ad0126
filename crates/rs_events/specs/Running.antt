-- What calls did that make a run: its events up to a halt, and the states that steps leave.
use Rattle.std.specs.Prelude.{◌≡◌, ◌⊎◌, List, Option, IfOk, MatchResult, Result, Ok, Err}
use Rattle.rs_events.specs.Environment.{Environment, KeepsEnvironment}
use Rattle.rs_events.specs.Events.{Event}
use Rattle.rs_events.specs.HaltFaults.{Answers, HaltFaults, IsFaultOf}
use Rattle.rs_events.specs.Halts.{Did, Done, Halt}
use Rattle.rs_events.specs.Run.{Run}
use Rattle.rs_events.specs.Sequence.{Step, run_of}

-- events that were done, so that others may follow them
pub record HasDone (events : List Event) (old new : Environment) : Type 0 where
  pub all : Done events old new
  pub keeps : KeepsEnvironment old new

-- a run up to its halt, with the answer of the call that made it
pub record Ran {F : Type 0} (faults : HaltFaults F) (run : Run F) (result : Result (Unit {0}) F) (old new : Environment) : Type 0 where
  pub halt : Halt
  pub did : Did run.events halt old new
  pub fault : Option F
  pub is_fault : IsFaultOf faults run.fault halt fault
  pub answers : Answers faults.memory fault result
  pub keeps : KeepsEnvironment old new

-- a run of which this is so, up to its halt
pub record Runs {F : Type 0} (faults : HaltFaults F) (of : Run F → Type 0) (result : Result (Unit {0}) F) (old new : Environment) : Type 0 where
  pub run : Run F
  pub is : of run
  pub ran : Ran faults run result old new

-- a step of which this is so, up to its halt, and the state that it leaves
pub record Stepped {F S : Type 0} (faults : HaltFaults F) (of : Step F S → Type 0) (left : S) (result : Result (Unit {0}) F) (old new : Environment) : Type 0 where
  pub step : Step F S
  pub does : of step
  pub ran : Ran faults (run_of step) result old new
  pub leaves : IfOk result (λ done. step.outcome ≡ Ok left)

-- what a call gives that leaves a state, or ends the run; there may be no memory
abbrev pub Leaves : {F S : Type 0} → F → Result S F → S → Result (Unit {0}) F → Type 0
Leaves memory outcome left result = MatchResult result (λ done. outcome ≡ Ok left) (λ fault. (fault ≡ memory) ⊎ (outcome ≡ Err fault))
