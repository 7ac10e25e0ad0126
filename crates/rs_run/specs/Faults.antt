-- The faults with which runs of words end: their statuses, and their lines on standard error.
use Rattle.std.specs.Prelude.{ℕ, ◌≡◌, List, [], ◌∷◌, ◌++◌, Option, Some, None, codes}
use Rattle.std.specs.Fmt.{decimal}
use Rattle.rs_outside.specs.declared.files.FetchFault.TheVariants.{Failed}
use Rattle.rs_expr.specs.declared.scorer.Call.{Call}
use Rattle.rs_events.specs.HaltFaults.{HaltFaults}
use Rattle.rs_events.specs.Run as events
use Rattle.rs_statement.specs.declared.fault.Fault.TheVariants as fault
use Rattle.rs_statement.specs.Faults.{fault_line}
use Rattle.rs_run.specs.declared.fault.RunFault.{RunFault}
use Rattle.rs_run.specs.declared.fault.RunFault.TheVariants.{CertForm, CertTooLong, NotEligible, Order, Statement, Usage}
use Rattle.rs_run.specs.declared.fault.ScriptWord.{ScriptWord}
use Rattle.rs_run.specs.declared.fault.ScriptWord.TheVariants.{Ta, View}
use Rattle.rs_run.specs.Words.{usage_line}
use Rattle.rs_events.specs.declared.status.Status.{Status}
use Rattle.rs_events.specs.declared.status.Status.TheVariants as status

-- the run of words
abbrev pub WordsRun : Type 0
WordsRun = events.Run RunFault

-- with which faults halts are told
abbrev pub run_faults : HaltFaults RunFault
run_faults = record {
  memory = Statement fault.Memory;
  write = Statement fault.Write;
  failed_call = λ (call : Call). Statement (fault.Probe call.predicate);
  IsFailedFetch = λ (name : List ℕ) (why : RunFault). why ≡ Statement (fault.Read name Failed);
}

-- the status of a run that ends with this fault, or with none
abbrev pub status_of : Option RunFault → Status
status_of None = status.Done
status_of (Some Usage) = status.Usage
status_of (Some (NotEligible word statement)) = status.Script
status_of (Some (Order name row before got)) = status.Table
status_of (Some (CertTooLong name)) = status.Table
status_of (Some (CertForm name place)) = status.Table
status_of (Some (Statement fault.Memory)) = status.Memory
status_of (Some (Statement (fault.Read name why))) = status.Read
status_of (Some (Statement fault.Write)) = status.Write
status_of (Some (Statement (fault.Table name why))) = status.Table
status_of (Some (Statement (fault.BadScore predicate rows got max))) = status.BadScore
status_of (Some (Statement (fault.Probe predicate))) = status.Probe
status_of (Some (Statement (fault.Script why))) = status.Script
status_of (Some (Statement (fault.Session why name))) = status.Session

-- the name of a word that takes some statements alone
abbrev pub word_name : ScriptWord → List ℕ
word_name Ta = codes "ta"
word_name View = codes "view"

-- the line of a fault
abbrev pub run_fault_line : RunFault → List ℕ
run_fault_line Usage = usage_line
run_fault_line (NotEligible word statement) = codes "script: " ++ word_name word ++ codes " NotEligible statement " ++ decimal statement ++ 10 ∷ []
run_fault_line (Order name row before got) =
    codes "table: " ++ name ++ codes ": OutOfOrder row " ++ decimal row ++ codes " before " ++ decimal before ++ codes " got " ++ decimal got ++ 10 ∷ []
run_fault_line (CertTooLong name) = codes "table: " ++ name ++ codes ": CertTooLong\n"
run_fault_line (CertForm name place) = codes "table: " ++ name ++ codes ": CertForm record " ++ decimal place ++ 10 ∷ []
run_fault_line (Statement why) = fault_line why
