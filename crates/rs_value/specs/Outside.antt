-- Objects of the outside, as contracts see them: files, sinks, scorers.
use Rattle.std.specs.Prelude.{ℕ, ◌≡◌, ◌≤◌, Bool, true, false, Option, None}
use Rattle.rs_value.specs.Faults.{Rose}

-- what an object tells of itself, where it tells it; how many of its calls failed, which stands still at 2^64 - 1; and
-- whether it is steady, so that no call of it will fail
pub record Outside (T : Type 0) : Type 0 where
  pub told : Option T
  pub faults : ℕ
  pub steady : Bool

-- for as long as calls go on, the count of faults never falls, and what is steady stays so
pub record Keeps {T : Type 0} (old new : Outside T) : Type 0 where
  pub grows : old.faults ≤ new.faults
  pub steady : new.steady ≡ old.steady

-- what one call does to the count, where the call failed if this fact holds: the count never falls, and rises where the
-- call failed; whether the object is steady stays, and of a steady one no call fails
pub record Counts {T : Type 0} (Failed : Type 0) (old new : Outside T) : Type 0 where
  pub keeps : Keeps old new
  pub failed : Failed → Rose old.faults new.faults
  pub sure : old.steady ≡ true → (new.faults ≡ old.faults) × ¬ Failed

-- some call of the object failed: its count rose, and it isn't steady
pub record Faulted {T : Type 0} (old new : Outside T) : Type 0 where
  pub rose : Rose old.faults new.faults
  pub unsteady : old.steady ≡ false

-- an object that tells nothing, as one of the system
abbrev pub untold : {T : Type 0} → ℕ → Outside T
untold faults = record { told = None; faults = faults; steady = false }
