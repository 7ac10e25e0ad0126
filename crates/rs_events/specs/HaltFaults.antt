-- With which faults runs end, whatever the type of faults.
use Rattle.std.specs.Prelude.{ℕ, ◌≡◌, ◌⊎◌, List, Option, Some, None, Result, Ok, Err}
use Rattle.rs_outside.specs.declared.sink.SinkFault.{SinkFault}
use Rattle.rs_outside.specs.declared.sink.SinkFault.TheVariants.{Failed, Memory}
use Rattle.rs_expr.specs.declared.scorer.Call.{Call}
use Rattle.rs_events.specs.Halts.{CallFailed, Ended, FetchFailed, Halt, NoMemory, PutFailed}

-- the faults by which halts are told: that there was no memory, that a put failed, that this call failed, or that the fetch of this name did. The name alone need not
-- decide the last one, since a run may fetch a name twice, each time for something else
pub record HaltFaults (F : Type 0) : Type 1 where
  pub memory : F
  pub write : F
  pub failed_call : Call → F
  pub IsFailedFetch : List ℕ → F → Type 0

-- the fault of a run that halts so, where its own fault is the one that it has at its end
abbrev pub IsFaultOf : {F : Type 0} → HaltFaults F → Option F → Halt → Option F → Type 0
IsFaultOf faults own Ended fault = fault ≡ own
IsFaultOf faults own NoMemory fault = fault ≡ Some faults.memory
IsFaultOf faults own (PutFailed part) fault = fault ≡ Some faults.write
IsFaultOf {F} faults own (FetchFailed name) fault = (why : F) × faults.IsFailedFetch name why × (fault ≡ Some why)
IsFaultOf faults own (CallFailed call) fault = fault ≡ Some (faults.failed_call call)

-- the answer of a call whose fault this is, if there is one; there may be no memory for what a fault tells
abbrev pub Answers : {F : Type 0} → F → Option F → Result (Unit {0}) F → Type 0
Answers memory None result = result ≡ Ok tt
Answers memory (Some fault) result = (result ≡ Err fault) ⊎ (result ≡ Err memory)

-- the fault of a run in which a put did not go well
abbrev pub put_fault : {F : Type 0} → HaltFaults F → SinkFault → F
put_fault faults Failed = faults.write
put_fault faults Memory = faults.memory

-- faults that are told as those of another type: a halt has the same fault either way
pub record TellAs {F G : Type 0} (tells : F → G) (faults : HaltFaults F) (others : HaltFaults G) : Type 0 where
  pub memory : tells faults.memory ≡ others.memory
  pub write : tells faults.write ≡ others.write
  pub failed_call : (call : Call) → tells (faults.failed_call call) ≡ others.failed_call call
  pub failed_fetch : (name : List ℕ) (fault : F) → faults.IsFailedFetch name fault → others.IsFailedFetch name (tells fault)
