-- What is well, and limits that are kept.
use Rattle.std.proofs.Common.{◌≡◌, Bool, true, false, refl}
use Rattle.std.specs.Prelude.{Result, Ok, Err, if◌then◌else◌}
use Rattle.rs_typing.specs.declared.fault.BindFault.{BindFault}

-- what is well
abbrev pub well : {A : Type 0} → A → Result A BindFault
well a = Ok a

pub same_Ok : {A : Type 0} (a t : A) → well a ≡ Ok t → a ≡ t
same_Ok a t h = cc

-- what is refused at a limit is well below it
pub Ok-else : {A : Type 0} (full : Bool) (a : Result A BindFault) (fault : BindFault) (t : A) → (if full then Err fault else a) ≡ Ok t
    → (full ≡ false) × (a ≡ Ok t)
Ok-else true a fault t h = cc
Ok-else false a fault t h = (refl, h)
