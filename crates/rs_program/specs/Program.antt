-- How the program ends.
use Rattle.std.specs.Prelude.{ℕ, ◌≡◌, List, Option, Result, codes}
use Rattle.std.specs.Process.{exit_status}
use Rattle.std.specs.declared.process.ExitCode.{ExitCode}
use denote.Ref.{Bor, MutBor}
use Rattle.rs_outside.specs.Sink.{Puts}
use Rattle.rs_outside.specs.declared.sink.SinkFault.{SinkFault}
use Rattle.rs_events.specs.Status.{exit_status_of}
use Rattle.rs_events.specs.declared.status.Status.{Status}

-- what a run acts on
pub record Objects (F S O E : Type 0) : Type 0 where
  pub files : F
  pub scorer : S
  pub out : O
  pub err : E

abbrev pub objects : {F S O E : Type 0} → F → S → O → E → Objects F S O E
objects files scorer out err = record { files = files; scorer = scorer; out = out; err = err }

-- references to these four, as a call takes them and leaves them
abbrev pub Lent : Type 0 → Type 0 → Type 0 → Type 0 → Type 0
Lent F S O E = MutBor F × (MutBor S × (MutBor O × (MutBor E × Unit {0})))

-- what stands behind the references
abbrev pub lent_objects : {F S O E : Type 0} → Lent F S O E → Objects F S O E
lent_objects lent = objects lent.0.now lent.1.0.now lent.1.1.0.now lent.1.1.1.0.now

-- what a call with an allocator, words and these four may answer and leave
abbrev pub Running : Type 0 → Type 0 → Type 0 → Type 0 → Type 0 → Type 1
Running A F S O E = A × (Bor (List (List ℕ)) × Lent F S O E) → Status × Lent F S O E → Type 0

-- one call at these words, which found the objects as they were before and answered this status; nothing changed them behind it
pub record RanOnce {A F S O E : Type 0} (call : Running A F S O E) (alloc : A) (words : List (List ℕ)) (before : Objects F S O E) (status : Status) (after : Objects F S O E) : Type 0 where
  pub shown : Bor (List (List ℕ))
  pub lent : Lent F S O E
  pub left : Lent F S O E
  pub met : call (alloc, (shown, lent)) (status, left)
  pub shows : shown.now ≡ words
  pub found : lent_objects lent ≡ before
  pub leaves : lent_objects left ≡ after

-- one call at these words did all that was done, and the exit status is the number of what it answered
abbrev pub EndsAsRun : {A F S O E : Type 0} → Running A F S O E → A → List (List ℕ) → Objects F S O E → ExitCode → Objects F S O E → Type 0
EndsAsRun call alloc words before exit after =
    (status : Status) × RanOnce call alloc words before status after × (exit_status exit ≡ exit_status_of status)

-- the line of a run that ends for want of memory
abbrev pub memory_line : List ℕ
memory_line = codes "memory\n"

-- one put of it, which may have failed
abbrev pub SaysNoMemory : Option (List (List ℕ)) → Option (List (List ℕ)) → Type 0
SaysNoMemory before after = (put : Result (Unit {0}) SinkFault) × Puts memory_line put before after
