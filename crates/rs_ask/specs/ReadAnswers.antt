-- Answers from a reader of the system.
use Rattle.std.specs.Prelude.{ℕ, List, Option, Result, Ok, Err, false}
use Rattle.rs_value.specs.Faults.{raised}
use Rattle.rs_value.specs.Outside.{Outside}

-- a reader, and how many reads failed
pub record Reader (R : Type 0) : Type 0 where
  pub reader : R
  pub faults : ℕ

-- what contracts see of it: the bytes that the reader has left, where it tells them
abbrev pub reader_state : {R : Type 0} → (R → Option (List ℕ)) → Reader R → Outside (List ℕ)
reader_state remaining from = record { told = remaining from.reader; faults = from.faults; steady = false }

-- the count of faults after a read with this result
abbrev pub faults_after_read : {T E : Type 0} → Result T E → ℕ → ℕ
faults_after_read (Ok next) count = count
faults_after_read (Err fault) count = raised count
