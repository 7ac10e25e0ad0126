-- Reading a file of the system.
use Rattle.std.specs.Prelude.{ℕ, ◌≡◌, ◌+◌, ◌<◌, ◌≤◌, false, List, ◌++◌, length, Option, Some, None, IfSome, Result, Ok, Err}
use Rattle.std.specs.declared.io.ErrorKind.{ErrorKind}
use Rattle.std.specs.declared.io.ErrorKind.TheVariants.{NotFound, OutOfMemory}
use Rattle.rs_outside.specs.declared.answered.Answered.{Answered}
use Rattle.rs_outside.specs.declared.answered.Answered.TheVariants.{Open, Read}
use Rattle.rs_outside.specs.declared.files.FetchFault.{FetchFault}
use Rattle.rs_outside.specs.declared.files.FetchFault.TheVariants.{Missing, TooLong, Failed, Memory}
use Rattle.std.specs.Io.KnownBytes.{Consumes}
use Rattle.rs_value.specs.Faults.{raised}
use Rattle.rs_value.specs.Outside.{untold}
use Rattle.rs_outside.specs.Files.{FilesState}
use Rattle.rs_outside.specs.Sink.{IsPrefix}

-- the fault that an error of the system is when a file is opened
abbrev pub open_fault : ErrorKind → FetchFault
open_fault NotFound = Missing
open_fault OutOfMemory = Memory
open_fault _ = Failed

-- the fault that an error of the system is when an open file is read
abbrev pub read_fault : ErrorKind → FetchFault
read_fault OutOfMemory = Memory
read_fault _ = Failed

-- what reading to the end answers where these bytes were read, and these were left, if that is known:
-- all of them, or one more than the limit
abbrev pub ReadToEnd : Option (List ℕ) → ℕ → List ℕ → Result (Unit {0}) FetchFault → Type 0
ReadToEnd left limit bytes (Ok done) = (length bytes ≤ limit) × IfSome left (λ all. all ≡ bytes)
ReadToEnd left limit bytes (Err TooLong) = (length bytes ≡ limit + 1) × IfSome left (λ all. IsPrefix bytes all)
ReadToEnd left limit bytes (Err Missing) = ⊥
ReadToEnd left limit bytes (Err Failed) = length bytes ≤ limit
ReadToEnd left limit bytes (Err Memory) = length bytes ≤ limit

-- the bytes that were read are appended
abbrev pub AppendsRest : Option (List ℕ) → ℕ → List ℕ → Result (Unit {0}) FetchFault → List ℕ → Type 0
AppendsRest left limit old result new = (bytes : List ℕ) × (new ≡ old ++ bytes) × ReadToEnd left limit bytes result

-- the last read, and the answer that comes of it: where it gave the end all was read; where it gave bytes they passed the
-- limit, or there was no memory for them; and where it failed its error is the fault
abbrev pub ComesOf : Option (Result ℕ ErrorKind) → Result (Unit {0}) FetchFault → Type 0
ComesOf None result = ⊥
ComesOf (Some (Err kind)) result = result ≡ Err (read_fault kind)
ComesOf (Some (Ok count)) (Ok done) = count ≡ 0
ComesOf (Some (Ok count)) (Err TooLong) = 0 < count
ComesOf (Some (Ok count)) (Err Memory) = 0 < count
ComesOf (Some (Ok count)) (Err Missing) = ⊥
ComesOf (Some (Ok count)) (Err Failed) = ⊥

-- at most this many bytes are taken of those that are left
abbrev pub ConsumesAtMost : ℕ → Option (List ℕ) → Option (List ℕ) → Type 0
ConsumesAtMost most old new = (bytes : List ℕ) × Consumes old new bytes × (length bytes ≤ most)

-- the answer that comes of what the system said: that the file couldn't be opened, or the last read of it
abbrev pub AnswersBy : Answered → Result (Unit {0}) FetchFault → Type 0
AnswersBy (Open kind) result = result ≡ Err (open_fault kind)
AnswersBy (Read last) result = ComesOf last result

-- how many fetches failed, and what the system answered at the last one
pub record DirFilesState : Type 0 where
  pub faults : ℕ
  pub last : Option Answered

-- what contracts see of the files of the system: nothing is known of a file, which may change at any time
abbrev pub disk_state : DirFilesState → FilesState
disk_state files = record { outside = untold files.faults; contents = λ name. None; remembers = false }

-- the count of faults after a fetch with this answer
abbrev pub faults_after_fetch : Result (Unit {0}) FetchFault → ℕ → ℕ
faults_after_fetch (Ok done) count = count
faults_after_fetch (Err Missing) count = count
faults_after_fetch (Err TooLong) count = count
faults_after_fetch (Err Failed) count = raised count
faults_after_fetch (Err Memory) count = count
