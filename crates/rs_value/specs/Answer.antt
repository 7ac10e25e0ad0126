-- A call that is determined, but for want of memory.
use Rattle.std.specs.Prelude.{◌≡◌, ◌⊎◌, Result, Err}

-- the result is the answer, or says that there was no memory
abbrev pub Gives : {T E : Type 0} → E → Result T E → Result T E → Type 0
Gives memory answer result = (result ≡ answer) ⊎ (result ≡ Err memory)
