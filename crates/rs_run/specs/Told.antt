-- Steps whose faults are told as those of another type.
use Rattle.std.specs.Prelude.{Result, Ok, Err}
use Rattle.rs_events.specs.Sequence.{Step}

-- a result with its fault told so
abbrev pub told_result : {F G S : Type 0} → (F → G) → Result S F → Result S G
told_result tells (Ok state) = Ok state
told_result tells (Err fault) = Err (tells fault)

-- the same step, with its fault told so
abbrev pub told_step : {F G S : Type 0} → (F → G) → Step F S → Step G S
told_step tells step = record { events = step.events; outcome = told_result tells step.outcome }
