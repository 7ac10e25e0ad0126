-- Objects of the outside, over several calls.
use Rattle.std.proofs.Common.{ℕ, ◌≡◌, ◌∙◌, ◌≤◌, Bool, true, false, refl, sym, inl, inr, arith}
use Rattle.rs_value.specs.Faults.{Rose}
use Rattle.rs_value.specs.Outside.{Counts, Faulted, Keeps, Outside}

-- a count that rose from a later one rose from an earlier one, and one that rose to an earlier one rose to a later one
pub Rose-from : (old middle new : ℕ) → old ≤ middle → Rose middle new → Rose old new
Rose-from old middle new le (inl more) = inl (omega arith)
Rose-from old middle new le (inr end) = inr end

-- an object that isn't called
pub Keeps-refl : {T : Type 0} (object : Outside T) → Keeps object object
Keeps-refl object = record { grows = omega arith; steady = refl }

-- calls, and others behind them
pub Keeps-then : {T : Type 0} (old middle new : Outside T) → Keeps old middle → Keeps middle new → Keeps old new
Keeps-then old middle new one two = record {
  grows = let first = one.grows in let second = two.grows in omega (arith, first, second);
  steady = two.steady ∙ one.steady;
}

-- the one call that failed
pub Faulted-one : {T Failed : Type 0} (old new : Outside T) → Counts Failed old new → Failed → Faulted old new
Faulted-one {T} {Failed} old new counts failed = record { rose = counts.failed failed; unsteady = go old.steady refl } where
  go : (steady : Bool) → old.steady ≡ steady → steady ≡ false
  go true e = absurd ((counts.sure e).1 failed)
  go false e = refl

-- a call that failed behind others
pub Faulted-from : {T : Type 0} (old middle new : Outside T) → Keeps old middle → Faulted middle new → Faulted old new
Faulted-from old middle new kept failed = record {
  rose = Rose-from old.faults middle.faults new.faults kept.grows failed.rose;
  unsteady = sym kept.steady ∙ failed.unsteady;
}
