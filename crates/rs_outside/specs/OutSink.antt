-- Writing to a stream of the system.
use Rattle.std.specs.Prelude.{ℕ, ◌≡◌, List, Option, Result, Ok, Err, OnOk}
use Rattle.std.specs.Io.KnownBytes.{Appends}
use Rattle.rs_outside.specs.declared.sink.SinkFault.{SinkFault}
use Rattle.rs_outside.specs.declared.sink.SinkFault.TheVariants.{Failed, Memory}
use Rattle.rs_value.specs.Faults.{raised}
use Rattle.rs_value.specs.Outside.{Outside, untold}
use Rattle.rs_outside.specs.Sink.{IsPrefix}

-- a writer, and how many puts on it failed
pub record Stream (W : Type 0) : Type 0 where
  pub writer : W
  pub faults : ℕ

-- what contracts see of it
abbrev pub stream_state : {W : Type 0} → Stream W → Outside (List (List ℕ))
stream_state stream = untold stream.faults

-- a prefix of these bytes was written, which is all of them where the answer is Ok
abbrev pub WritesWhole : Option (List ℕ) → Option (List ℕ) → Result (Unit {0}) SinkFault → List ℕ → Type 0
WritesWhole old new result bytes = (part : List ℕ) × IsPrefix part bytes × Appends old new part × OnOk result (part ≡ bytes)

-- the count of faults after a put with this answer
abbrev pub faults_after_put : Result (Unit {0}) SinkFault → ℕ → ℕ
faults_after_put (Ok done) count = count
faults_after_put (Err Failed) count = raised count
faults_after_put (Err Memory) count = count
