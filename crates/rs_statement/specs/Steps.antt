-- What statements are made of: runs, and the steps of which they are made, with the faults of statements.
use Rattle.std.specs.Prelude.{ℕ, ◌≡◌, List}
use Rattle.rs_outside.specs.declared.files.FetchFault.TheVariants.{Failed}
use Rattle.rs_expr.specs.declared.scorer.Call.{Call}
use Rattle.rs_events.specs.HaltFaults.{HaltFaults}
use Rattle.rs_events.specs.Run as events
use Rattle.rs_events.specs.Sequence as events_in
use Rattle.rs_statement.specs.declared.fault.Fault.{Fault}
use Rattle.rs_statement.specs.declared.fault.Fault.TheVariants.{Memory, Probe, Read, Write}

abbrev pub Run : Type 0
Run = events.Run Fault

abbrev pub Step : Type 0 → Type 0
Step S = events_in.Step Fault S

-- with which faults halts are told
abbrev pub statement_faults : HaltFaults Fault
statement_faults = record {
  memory = Memory;
  write = Write;
  failed_call = λ (call : Call). Probe call.predicate;
  IsFailedFetch = λ (name : List ℕ) (fault : Fault). fault ≡ Read name Failed;
}
