-- What stops the asking while a run puts its rows.
use Rattle.std.specs.Prelude.{ℕ, ◌≡◌, ◌≤◌, ◌⊎◌, Bool, true, false, List, Some, if◌then◌else◌}
use Rattle.std.specs.List.{concat}
use Rattle.rs_value.specs.Outside.{Faulted, Outside}
use Rattle.rs_outside.specs.Sink.{IsPrefix}
use Rattle.rs_ask.specs.PutRows.{StoppedIn}
use Rattle.rs_ask.specs.Putting.{PutsBytes}
use Rattle.rs_ask.specs.declared.stop.Stop.{Stop}
use Rattle.rs_ask.specs.declared.stop.Stop.TheVariants.{Differs, Lost, Memory, Write}

-- what a run that differs from what was put before is told as, where it may have lacked memory
abbrev pub differs_as : Bool → Stop
differs_as lacked = if lacked then Memory else Differs

-- a run put these rows, which don't begin with what was put before; and that doesn't begin with them, or no put of them failed
abbrev pub DoesDiffer : List ℕ → Outside (List (List ℕ)) → Type 0
DoesDiffer before rows = (pieces : List (List ℕ)) × (rows.told ≡ Some pieces) × (¬ IsPrefix before (concat pieces))
    × ((rows.faults ≡ 0) ⊎ (¬ IsPrefix (concat pieces) before))

-- a put of a run's rows failed, behind others
abbrev pub StopsIn : List ℕ → Outside (List (List ℕ)) → Outside (List (List ℕ)) → Outside (List (List ℕ)) → Type 0
StopsIn before rows began now = (pieces : List (List ℕ)) × (rows.told ≡ Some pieces) × (1 ≤ rows.faults) × StoppedIn pieces before began now

-- what stopped a run that put these rows, where this was put before, and where it may have lacked memory. It differs from what was put before, though it had memory, and nothing more was put. Or the put of
-- what is new of one of its pieces failed, behind all that is new of the pieces before it. Or there was no memory for that put; or the run lacked memory before it put all that was put before, and nothing more was put
abbrev pub StopsAt : Stop → Bool → List ℕ → Outside (List (List ℕ)) → Outside (List (List ℕ)) → Outside (List (List ℕ)) → Type 0
StopsAt Differs lacked before rows began now = (lacked ≡ false) × DoesDiffer before rows × PutsBytes before began now
StopsAt Write lacked before rows began now = StopsIn before rows began now × Faulted began now
StopsAt (Lost line) lacked before rows began now = ⊥
StopsAt Memory lacked before rows began now = StopsIn before rows began now ⊎ ((lacked ≡ true) × PutsBytes before began now)
