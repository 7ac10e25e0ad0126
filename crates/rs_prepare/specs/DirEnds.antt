-- What comes of what the system answers, when the files of an asking are opened.
use Rattle.std.specs.Prelude.{ℕ, ◌≡◌, ◌⊎◌, true, false, List, Option, Some, None, Result, Ok, Err}
use Rattle.std.specs.Fs.{new_options, with_append, with_create, with_read, with_write}
use Rattle.std.specs.IoError.{error_kind}
use Rattle.std.specs.declared.fs.options.OpenOptions.{OpenOptions}
use Rattle.std.specs.declared.io.Error.{Error}
use Rattle.std.specs.declared.io.ErrorKind.{ErrorKind}
use Rattle.std.specs.declared.io.ErrorKind.TheVariants.{NotFound, OutOfMemory}
use Rattle.rs_outside.specs.OutSink.{Stream}
use Rattle.rs_ask.specs.ReadAnswers.{Reader}
use Rattle.rs_prepare.specs.Questions.{QuestionsState, new_questions}
use Rattle.rs_prepare.specs.Seeing.{AreOne, IsNew, IsSeen, SystemTells, node_of}
use Rattle.rs_prepare.specs.declared.node.About.{About}
use Rattle.rs_prepare.specs.declared.node.FileKind.TheVariants.{Fifo, Regular}
use Rattle.rs_prepare.specs.declared.open_fault.End.{End}
use Rattle.rs_prepare.specs.declared.open_fault.End.TheVariants as end
use Rattle.rs_prepare.specs.declared.open_fault.OpenFault.{OpenFault}
use Rattle.rs_prepare.specs.declared.open_fault.OpenFault.TheVariants.{Failed, InUse, Memory, Missing, OneFile}
use Rattle.rs_prepare.specs.declared.open_fault.Stream.TheVariants as streams
use Rattle.rs_prepare.specs.declared.seen.Seen.{Seen}

-- what is asked of the system where the file of scores is opened: to write behind its end, and to make it where it isn't there
abbrev pub scores_options : OpenOptions
scores_options = with_create (with_append new_options true) true

-- that of questions: to write behind its end
abbrev pub questions_options : OpenOptions
questions_options = with_append new_options true

-- that of answers: to read it
abbrev pub answers_options : OpenOptions
answers_options = with_read new_options true

-- a FIFO that is held open: to read and to write
abbrev pub held_options : OpenOptions
held_options = with_write (with_read new_options true) true

-- the fault that an error of the system is when a file is opened
abbrev pub open_fault : ErrorKind → OpenFault
open_fault NotFound = Missing
open_fault OutOfMemory = Memory
open_fault _ = Failed

-- what was opened, or why it was not
abbrev pub opened_or : {F : Type 0} → Result F Error → Result F OpenFault
opened_or (Ok file) = Ok file
opened_or (Err error) = Err (open_fault (error_kind error))

-- the system, and the files that are open
pub record Ends (S : Type 0) : Type 0 where
  pub system : S
  pub seen : Seen

-- none is open but standard output and standard error, which are what the system tells
abbrev pub AreNewEnds : {S F : Type 0} → SystemTells S F → S → Ends S → Type 0
AreNewEnds tells system new = (output : Option About) × (error : Option About) × tells.output system output × tells.error system error
    × (new ≡ record { system = system; seen = record { output = node_of output; error = node_of error; scores = None; questions = None } })

-- the system opened the file of this name so, and told this of it
pub record IsOpened {S F : Type 0} (tells : SystemTells S F) (system : S) (how : OpenOptions) (name : List ℕ) (file : F) (about : Option About) : Type 0 where
  pub opened : tells.opens system how name (Ok file)
  pub is : tells.open_file system file about

-- the system didn't open it so, and the fault is what its error is told as; or it opened it, and the file is refused so
abbrev pub IsUnopened : {S F : Type 0} → SystemTells S F → S → OpenOptions → List ℕ → (F → Option About → OpenFault → Type 0) → OpenFault → Type 0
IsUnopened {F = F} tells system how name refuses fault =
    ((error : Error) × tells.opens system how name (Err error) × (fault ≡ open_fault (error_kind error)))
    ⊎ ((file : F) × (about : Option About) × IsOpened tells system how name file about × refuses file about fault)

-- a file of which this is told is a regular one
abbrev pub IsRegular : Option About → Type 0
IsRegular about = (regular : About) × (about ≡ Some regular) × (regular.kind ≡ Regular)

-- no other program has locked a file, where it is a regular one
abbrev pub IsFree : {S F : Type 0} → SystemTells S F → S → F → Option About → Type 0
IsFree tells system file about = (¬ IsRegular about) ⊎ (IsRegular about × tells.in_use system file false)

-- what comes of locking it: another program has locked it, or not
abbrev pub Locks : {S F : Type 0} → SystemTells S F → S → F → Option About → Result (Unit {0}) OpenFault → Type 0
Locks tells system file about (Ok done) = IsFree tells system file about
Locks tells system file about (Err InUse) = IsRegular about × tells.in_use system file true
Locks tells system file about (Err fault) = ⊥

-- a file of scores that is none of those that are open, nor standard error, and that no other program has locked
pub record IsFreeFile {S F : Type 0} (tells : SystemTells S F) (old : Ends S) (file : F) (about : Option About) : Type 0 where
  pub unseen : IsNew old.seen (node_of about)
  pub no_error : ¬ AreOne (node_of about) old.seen.error
  pub unlocked : IsFree tells old.system file about

-- the file of scores is refused: it is one of those that are open, or else standard error, or else another program has locked it
abbrev pub RefusesScores : {S F : Type 0} → SystemTells S F → Ends S → F → Option About → OpenFault → Type 0
RefusesScores tells old file about (OneFile streams.Error) = IsNew old.seen (node_of about) × AreOne (node_of about) old.seen.error
RefusesScores tells old file about (OneFile stream) = IsSeen old.seen (node_of about) stream
RefusesScores tells old file about InUse =
    IsNew old.seen (node_of about) × (¬ AreOne (node_of about) old.seen.error) × IsRegular about × tells.in_use old.system file true
RefusesScores tells old file about Missing = ⊥
RefusesScores tells old file about Failed = ⊥
RefusesScores tells old file about Memory = ⊥

-- the file of questions or that of answers is refused: it is one of those that are open
abbrev pub RefusesSeen : {S : Type 0} → Ends S → Option About → OpenFault → Type 0
RefusesSeen old about (OneFile stream) = IsSeen old.seen (node_of about) stream
RefusesSeen old about InUse = ⊥
RefusesSeen old about Missing = ⊥
RefusesSeen old about Failed = ⊥
RefusesSeen old about Memory = ⊥

-- a file of scores that was opened is let through or refused
abbrev pub ChecksScores : {S F : Type 0} → SystemTells S F → Ends S → F → Option About → Result (Unit {0}) OpenFault → Type 0
ChecksScores tells old file about (Ok done) = IsFreeFile tells old file about
ChecksScores tells old file about (Err fault) = RefusesScores tells old file about fault

-- so is one of questions or of answers
abbrev pub ChecksSeen : {S : Type 0} → Ends S → Option About → Result (Unit {0}) OpenFault → Type 0
ChecksSeen old about (Ok done) = IsNew old.seen (node_of about)
ChecksSeen old about (Err fault) = RefusesSeen old about fault

-- the file of this name is not opened for this end, for this reason
abbrev pub Unopens : {S F : Type 0} → SystemTells S F → Ends S → End → List ℕ → OpenFault → Type 0
Unopens tells old end.Scores name fault = IsUnopened tells old.system scores_options name (RefusesScores tells old) fault
Unopens tells old end.Questions name fault = IsUnopened tells old.system questions_options name (λ _. RefusesSeen old) fault
Unopens tells old end.Answers name fault = IsUnopened tells old.system answers_options name (λ _. RefusesSeen old) fault

-- and then the files that are open stay so
abbrev pub UnopensOnly : {S F : Type 0} → SystemTells S F → Ends S → End → List ℕ → OpenFault → Ends S → Type 0
UnopensOnly tells old end name fault new = Unopens tells old end name fault × (new ≡ old)

-- what is put goes behind the end of the file of this name, which is open now as that of scores
abbrev pub OpensScores : {S F : Type 0} → SystemTells S F → Ends S → List ℕ → Stream F → Ends S → Type 0
OpensScores {F = F} tells old name scores new = (file : F) × (about : Option About) × IsOpened tells old.system scores_options name file about
    × IsFreeFile tells old file about × (scores ≡ record { writer = file; faults = 0 })
    × (new ≡ record { system = old.system; seen = record { output = old.seen.output; error = old.seen.error; scores = node_of about; questions = old.seen.questions } })

-- a file of which this is told is a FIFO
abbrev pub IsFifo : Option About → Type 0
IsFifo about = (fifo : About) × (about ≡ Some fifo) × (fifo.kind ≡ Fifo)

-- the file that was opened, if one was
abbrev pub opened_file : {F : Type 0} → Result F Error → Option F
opened_file (Ok file) = Some file
opened_file (Err error) = None

-- what is held open beside the file of questions of this name: that file itself, where it is a FIFO that the system opens to read and to write, and else nothing
abbrev pub Holds : {S F : Type 0} → SystemTells S F → S → List ℕ → Option F → Type 0
Holds {F = F} tells system name held = (about : Option About) × tells.file_named system name about
    × (((¬ IsFifo about) × (held ≡ None)) ⊎ (IsFifo about × (opened : Result F Error) × tells.opens system held_options name opened × (held ≡ opened_file opened)))

-- questions go behind the end of the file of this name, which is open now as that of questions
abbrev pub OpensQuestions : {S F : Type 0} → SystemTells S F → Ends S → List ℕ → QuestionsState F → Ends S → Type 0
OpensQuestions {F = F} tells old name questions new = (file : F) × (about : Option About) × (held : Option F) × IsOpened tells old.system questions_options name file about
    × IsNew old.seen (node_of about) × Holds tells old.system name held × (questions ≡ new_questions file held)
    × (new ≡ record { system = old.system; seen = record { output = old.seen.output; error = old.seen.error; scores = old.seen.scores; questions = node_of about } })

-- answers are read from the file of this name
abbrev pub OpensAnswers : {S F : Type 0} → SystemTells S F → Ends S → List ℕ → Reader F → Ends S → Type 0
OpensAnswers {F = F} tells old name answers new = (file : F) × (about : Option About) × IsOpened tells old.system answers_options name file about
    × IsNew old.seen (node_of about) × (answers ≡ record { reader = file; faults = 0 }) × (new ≡ old)
