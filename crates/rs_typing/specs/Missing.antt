-- What may be missing, and the fault that is told where it is.
use Rattle.std.specs.Prelude.{Option, Some, None, Result, Ok, Err}
use Rattle.rs_typing.specs.declared.fault.BindFault.{BindFault}

-- a thing, or this fault where there is none
abbrev pub or_fault : {A : Type 0} → BindFault → Option A → Result A BindFault
or_fault fault (Some a) = Ok a
or_fault fault None = Err fault
