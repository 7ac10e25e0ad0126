-- A sink in memory: what it holds, and what each put does to it.
use Rattle.std.specs.Prelude.{ℕ, ◌+◌, ◌==◌, List, [], ◌∷◌, ◌++◌, length, take, find, Option, Some, None, option_map, is_some, Result, Ok, Err, if◌then◌else◌}
use Rattle.rs_outside.specs.declared.sink.SinkFault.{SinkFault}
use Rattle.rs_outside.specs.declared.sink.SinkFault.TheVariants.{Failed, Memory}
use Rattle.rs_value.specs.Faults.{raised}
use Rattle.rs_value.specs.Outside.{Outside}

-- a put that is to fail: its number, counted from 1, and how many bytes it takes first
pub record PutFailure : Type 0 where
  pub call : ℕ
  pub after : ℕ

-- the pieces taken, the puts that are to fail, and how many failed
pub record MemSinkState : Type 0 where
  pub pieces : List (List ℕ)
  pub failing : List PutFailure
  pub faults : ℕ

-- nothing taken, no failure planned
abbrev pub no_pieces : MemSinkState
no_pieces = record { pieces = []; failing = []; faults = 0 }

-- the state with one more put that is to fail
abbrev pub after_fail_put_at : ℕ → ℕ → MemSinkState → MemSinkState
after_fail_put_at call after state =
    record state { failing = state.failing ++ record { call = call; after = after } ∷ [] }

-- how many bytes the next put takes before it fails, after the first failure that is planned for its number
abbrev pub next_failure : MemSinkState → Option ℕ
next_failure state =
    option_map (λ failure. failure.after) (find (λ failure. failure.call == length state.pieces + 1) state.failing)

-- what a put takes of these bytes: all, or where it is to fail after this many, the first ones, at most all
abbrev pub taken_of : List ℕ → Option ℕ → List ℕ
taken_of bytes None = bytes
taken_of bytes (Some after) = take after bytes

-- what the next put answers, where there is memory
abbrev pub put_answer : MemSinkState → Result (Unit {0}) SinkFault
put_answer state = if is_some (next_failure state) then Err Failed else Ok tt

-- the state after a put of these bytes with this answer
abbrev pub after_put : List ℕ → Result (Unit {0}) SinkFault → MemSinkState → MemSinkState
after_put bytes (Err Memory) state = state
after_put bytes (Err Failed) state =
    record state { pieces = state.pieces ++ taken_of bytes (next_failure state) ∷ []; faults = raised state.faults }
after_put bytes (Ok done) state = record state { pieces = state.pieces ++ bytes ∷ [] }

-- what contracts see of a sink in memory: it tells its pieces, and is steady where no put is to fail
abbrev pub sink_state : MemSinkState → Outside (List (List ℕ))
sink_state state = record { told = Some state.pieces; faults = state.faults; steady = length state.failing == 0 }
