-- Tests of steps that may fail, and what is refused where they fail.
use Rattle.std.proofs.Common.{ℕ, ◌≡◌, ◌≢◌, ◌==◌, Bool, true, false, refl, inl, inr, arith}
use Rattle.std.specs.Prelude.{◌⊎◌, Option, Some, None, Result, Err, if◌then◌else◌}
use Rattle.std.proofs.lemmas.Bool.Decides.{nat_tests}
use Rattle.rs_typing.specs.declared.fault.BindFault.{BindFault}
use Rattle.rs_typing.specs.Missing.{or_fault}

-- numbers and their test
pub is-equal : (a b : ℕ) → (a == b) ≡ true → a ≡ b
is-equal a b h = grind (arith, nat_tests)

pub is-apart : (a b : ℕ) → (a == b) ≡ false → a ≢ b
is-apart a b h = grind (arith, nat_tests)

pub equal-test : (a b : ℕ) → a ≡ b → (a == b) ≡ true
equal-test a b h = grind (arith, nat_tests)

pub apart-test : (a b : ℕ) → a ≢ b → (a == b) ≡ false
apart-test a b h = grind (arith, nat_tests)

-- a limit, and what is refused at it
pub Err-else : {A : Type 0} (full : Bool) (a : Result A BindFault) (limit fault : BindFault) → (if full then Err limit else a) ≡ Err fault
    → ((full ≡ true) × (limit ≡ fault)) ⊎ ((full ≡ false) × (a ≡ Err fault))
Err-else true a limit fault h = inl (refl, cc)
Err-else false a limit fault h = inr (refl, h)

-- a test, and what is refused where it fails
pub Err-test : {A : Type 0} (test : Bool) (a : Result A BindFault) (fails fault : BindFault) → (if test then a else Err fails) ≡ Err fault
    → ((test ≡ false) × (fails ≡ fault)) ⊎ ((test ≡ true) × (a ≡ Err fault))
Err-test false a fails fault h = inl (refl, cc)
Err-test true a fails fault h = inr (refl, h)

pub Err-or_fault : {A : Type 0} (fails fault : BindFault) (a : Option A) → or_fault fails a ≡ Err fault → (a ≡ None) × (fails ≡ fault)
Err-or_fault fails fault (Some a) h = cc
Err-or_fault fails fault None h = (refl, cc)
