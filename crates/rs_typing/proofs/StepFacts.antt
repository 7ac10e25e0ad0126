-- Steps that may fail.
use Rattle.std.proofs.Common.{◌≡◌, Bool, true, false, refl, inl, inr}
use Rattle.std.specs.Prelude.{Option, Some, None, Result, Ok, Err, ◌⊎◌, if◌then◌else◌}
use Rattle.rs_value.specs.Results.{◌>>=◌}
use Rattle.rs_typing.specs.declared.fault.BindFault.{BindFault}
use Rattle.rs_typing.specs.Missing.{or_fault}

-- two steps are well where both are, and fail by the first one that does
pub Ok-steps : {A B : Type 0} (a : Result A BindFault) (next : A → Result B BindFault) (t : B) → (a >>= next) ≡ Ok t
    → (first : A) × (a ≡ Ok first) × (next first ≡ Ok t)
Ok-steps (Ok first) next t h = (first, refl, h)
Ok-steps (Err fault) next t h = cc

pub Err-steps : {A B : Type 0} (a : Result A BindFault) (next : A → Result B BindFault) (fault : BindFault) → (a >>= next) ≡ Err fault
    → (a ≡ Err fault) ⊎ ((first : A) × (a ≡ Ok first) × (next first ≡ Err fault))
Err-steps (Ok first) next fault h = inr (first, refl, h)
Err-steps (Err failed) next fault h = inl cc

-- a test is passed where what is behind it is well
pub Ok-test : {A : Type 0} (test : Bool) (a : Result A BindFault) (fault : BindFault) (t : A) → (if test then a else Err fault) ≡ Ok t
    → (test ≡ true) × (a ≡ Ok t)
Ok-test true a fault t h = (refl, h)
Ok-test false a fault t h = cc

pub Ok-or_fault : {A : Type 0} (fault : BindFault) (a : Option A) (t : A) → or_fault fault a ≡ Ok t → a ≡ Some t
Ok-or_fault fault (Some a) t h = cc
Ok-or_fault fault None t h = cc
