-- Why nothing is run: the status, and the line on standard error.
use Rattle.std.specs.Prelude.{ℕ, List, ◌++◌, Some, codes}
use Rattle.std.specs.Fmt.{decimal}
use Rattle.rs_outside.specs.declared.files.FetchFault.{FetchFault}
use Rattle.rs_outside.specs.declared.files.FetchFault.TheVariants as fetch
use Rattle.rs_run.specs.Faults.{run_fault_line}
use Rattle.rs_run.specs.declared.fault.RunFault.TheVariants.{Statement}
use Rattle.rs_events.specs.declared.status.Status.{Status}
use Rattle.rs_events.specs.declared.status.Status.TheVariants as status
use Rattle.rs_statement.specs.declared.fault.Fault.TheVariants as fault
use Rattle.rs_scores.specs.declared.fault.KnownFault.{KnownFault}
use Rattle.rs_scores.specs.declared.fault.KnownFault.TheVariants as known
use Rattle.rs_scores.specs.declared.scores_fault.ScoresFault.TheVariants as scores
use Rattle.rs_prepare.specs.Preparing.{EndWords}
use Rattle.rs_prepare.specs.declared.fault.PrepareFault.{PrepareFault}
use Rattle.rs_prepare.specs.declared.fault.PrepareFault.TheVariants.{Unopened, Unread}
use Rattle.rs_prepare.specs.declared.open_fault.End.{End}
use Rattle.rs_prepare.specs.declared.open_fault.End.TheVariants as ends
use Rattle.rs_prepare.specs.declared.open_fault.OpenFault.{OpenFault}
use Rattle.rs_prepare.specs.declared.open_fault.OpenFault.TheVariants as opening
use Rattle.rs_prepare.specs.declared.open_fault.Stream.{Stream}
use Rattle.rs_prepare.specs.declared.open_fault.Stream.TheVariants as streams
use Rattle.ranksql_ask.specs.declared.fault.StartFault.{StartFault}
use Rattle.ranksql_ask.specs.declared.fault.StartFault.TheVariants as start

-- why nothing is run: the words are of no form, or there is no memory, or the script makes no predicate of this name, or the file of this name can't be read, or one can't be
-- written to, or the file of this name holds something that is no known score, or another run has locked it, or the file of an end is one that is in use already
pub data Refusal : Type 0 where
  Usage : Refusal
  Memory : Refusal
  NoPredicate : List ℕ → Refusal
  Read : List ℕ → FetchFault → Refusal
  Write : Refusal
  Scores : List ℕ → KnownFault → Refusal
  InUse : List ℕ → Refusal
  OneFile : End → Stream → Refusal

abbrev pub refusal : StartFault → Refusal
refusal start.Usage = Usage
refusal start.Memory = Memory
refusal (start.NoPredicate name) = NoPredicate name.now
refusal (start.Read name why) = Read name.now why
refusal start.Write = Write
refusal (start.Scores name why) = Scores name.now why
refusal (start.InUse name) = InUse name.now
refusal (start.OneFile end stream) = OneFile end stream

-- the refusal of an end that isn't opened
abbrev pub unopened : EndWords → End → OpenFault → Refusal
unopened words end opening.Memory = Memory
unopened words end (opening.OneFile stream) = OneFile end stream
unopened words ends.Scores opening.InUse = InUse words.scores
unopened words ends.Answers opening.Missing = Read words.answers fetch.Missing
unopened words ends.Answers opening.InUse = Read words.answers fetch.Failed
unopened words ends.Answers opening.Failed = Read words.answers fetch.Failed
unopened words ends.Scores opening.Missing = Write
unopened words ends.Scores opening.Failed = Write
unopened words ends.Questions opening.Missing = Write
unopened words ends.Questions opening.InUse = Write
unopened words ends.Questions opening.Failed = Write

-- the refusal of what doesn't stand ready
abbrev pub unready : EndWords → PrepareFault → Refusal
unready words (Unopened end why) = unopened words end why
unready words (Unread scores.Memory) = Memory
unready words (Unread (scores.Fetch why)) = Read words.scores why
unready words (Unread (scores.Refused why)) = Scores words.scores why

-- why a file holds no known scores
abbrev pub known_text : KnownFault → List ℕ
known_text known.NotEnded = codes "NotEnded"
known_text (known.FieldCount number found) = codes "FieldCount record " ++ (decimal number ++ (codes " found " ++ decimal found))
known_text (known.NotAsked number) = codes "NotAsked record " ++ decimal number
known_text (known.NotUtf8 number field) = codes "NotUtf8 record " ++ (decimal number ++ (codes " field " ++ decimal field))
known_text (known.NotScore number) = codes "NotScore record " ++ decimal number
known_text (known.Twice number) = codes "Twice record " ++ decimal number
known_text known.Memory = codes "memory"

-- the word of an end
abbrev pub end_text : End → List ℕ
end_text ends.Questions = codes "QUESTIONS"
end_text ends.Answers = codes "ANSWERS"
end_text ends.Scores = codes "SCORES"

-- what a file is
abbrev pub stream_text : Stream → List ℕ
stream_text streams.Output = codes "is standard output"
stream_text streams.Error = codes "is standard error"
stream_text streams.Scores = codes "and SCORES are one file"
stream_text streams.Questions = codes "and QUESTIONS are one file"

-- the line of a file that isn't read
abbrev pub read_line : List ℕ → FetchFault → List ℕ
read_line name why = run_fault_line (Statement (fault.Read name why))

-- the line of a file that is in use already
abbrev pub one_file_line : End → Stream → List ℕ
one_file_line end stream = codes "ask: " ++ end_text end ++ codes " " ++ stream_text stream ++ codes "\n"

-- the status where nothing is run
abbrev pub ask_status : Refusal → Status
ask_status Usage = status.Usage
ask_status Memory = status.Memory
ask_status (NoPredicate name) = status.Script
ask_status (Read name why) = status.Read
ask_status Write = status.Write
ask_status (Scores name why) = status.Table
ask_status (InUse name) = status.Table
ask_status (OneFile end stream) = status.Write

-- the line then
abbrev pub ask_line : Refusal → List ℕ
ask_line Usage = codes "usage: ranksql_ask NAMES SCORES QUESTIONS ANSWERS run SCRIPT SEED, or plain SCRIPT behind ANSWERS\n"
ask_line Memory = codes "memory\n"
ask_line (NoPredicate name) = codes "ask: no predicate " ++ name ++ codes "\n"
ask_line (Read name why) = read_line name why
ask_line Write = codes "write\n"
ask_line (Scores name why) = codes "scores: " ++ name ++ codes ": " ++ known_text why ++ codes "\n"
ask_line (InUse name) = codes "scores: " ++ name ++ codes ": InUse\n"
ask_line (OneFile end stream) = one_file_line end stream
