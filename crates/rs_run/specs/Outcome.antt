-- What a run did, beside what its definition says.
use Rattle.std.specs.Prelude.{ℕ, ◌≡◌, ◌⊎◌, List, [], ◌∷◌, ◌++◌, Option, Some, None, option_map}
use Rattle.rs_value.specs.Outside.{Faulted, Outside}
use Rattle.rs_outside.specs.Sink.{IsPrefix}
use Rattle.rs_events.specs.Environment.{Environment, NoneFailed}
use Rattle.rs_outside.specs.Files.{finds_in}
use Rattle.rs_events.specs.HaltFaults.{IsFaultOf}
use Rattle.rs_events.specs.Halts.{Did, Done, Halt}
use Rattle.rs_run.specs.declared.fault.RunFault.{RunFault}
use Rattle.rs_events.specs.declared.status.Status.{Status}
use Rattle.rs_events.specs.declared.status.Status.TheVariants as statuses
use Rattle.rs_run.specs.Faults.{WordsRun, run_fault_line, run_faults, status_of}
use Rattle.rs_run.specs.Running.{IsRun, OfForm}
use Rattle.rs_run.specs.Words.{Form}

-- one line was put; where the sink failed, a part of it
pub record PutsLine (line : List ℕ) (old new : Outside (List (List ℕ))) : Type 0 where
  pub piece : List ℕ
  pub put : new.told ≡ option_map (λ pieces. pieces ++ piece ∷ []) old.told
  pub whole : (piece ≡ line) ⊎ (IsPrefix piece line × Faulted old new)

-- nothing was put
abbrev pub PutsNothing : Outside (List (List ℕ)) → Outside (List (List ℕ)) → Type 0
PutsNothing old new = new.told ≡ old.told

-- the status and the line of this fault, or those of none; where there was no memory for the line, those of Memory
abbrev pub Reports : Option RunFault → Status → Outside (List (List ℕ)) → Outside (List (List ℕ)) → Type 0
Reports None status old new = (status ≡ status_of None) × PutsNothing old new
Reports (Some fault) status old new =
    ((status ≡ status_of (Some fault)) × PutsLine (run_fault_line fault) old new)
    ⊎ ((status ≡ statuses.Memory) × (PutsNothing old new ⊎ PutsLine (run_fault_line run_faults.memory) old new))

-- every status has its cause: it is the definition's, or there was no memory, or a put failed, or a fetch, or a call
abbrev pub HasCause : WordsRun → Status → Environment → Environment → Type 0
HasCause run answer old new =
    ((answer ≡ status_of run.fault) ⊎ (answer ≡ statuses.Memory))
    ⊎ (((answer ≡ statuses.Write) × Faulted old.out new.out)
    ⊎ (((answer ≡ statuses.Read) × Faulted old.files.outside new.files.outside) ⊎ ((answer ≡ statuses.Probe) × Faulted old.scorer.outside new.scorer.outside)))

-- the run ended as its definition says, after all its events
pub record RunEnds (run : WordsRun) (status : Status) (old new : Environment) : Type 0 where
  pub status_is : status ≡ status_of run.fault
  pub all : Done run.events old new

-- what a run did: its events up to a halt, and then the status and the line of the halt. The status has its cause. It is Done only where all events were done
-- without a fault; and where no fetch, no call and no put on standard output failed, all were done, or there was no memory
pub record Outcome (run : WordsRun) (status : Status) (old new : Environment) : Type 0 where
  pub halt : Halt
  pub did : Did run.events halt old new
  pub fault : Option RunFault
  pub is_fault : IsFaultOf run_faults run.fault halt fault
  pub reports : Reports fault status old.err new.err
  pub cause : HasCause run status old new
  pub well : status ≡ statuses.Done → (run.fault ≡ None) × Done run.events old new
  pub complete : NoneFailed old new → RunEnds run status old new ⊎ (status ≡ statuses.Memory)

-- the run of this form, over what is known of the files at first and what the scorer answers, had this outcome
abbrev pub FormRunsTo : Option Form → Status → Environment → Environment → Type 0
FormRunsTo form status old new = (run : WordsRun) × OfForm (finds_in old.files.contents) old.scorer.answer form run × Outcome run status old new

-- the run of these words, over what is known of the files at first and what the scorer answers, had this outcome
abbrev pub RunsTo : List (List ℕ) → Status → Environment → Environment → Type 0
RunsTo words status old new = (run : WordsRun) × IsRun (finds_in old.files.contents) old.scorer.answer words run × Outcome run status old new
