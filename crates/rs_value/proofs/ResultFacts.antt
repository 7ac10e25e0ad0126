-- Results of which a `?` tells the fault.
use Rattle.std.proofs.Common.{◌≡◌, ap}
use Rattle.std.specs.Prelude.{Result, Ok, Err, IsErr, IsErrAnd}

-- a fault that goes on by itself, or as another one
pub given-err : {A E : Type 0} (result : Result A E) (fault : E) → IsErr result × IsErrAnd result (λ f. f ≡ fault) → result ≡ Err fault
given-err (Ok value) fault is = absurd (let e = is.0 in cc)
given-err (Err f) fault is = ap Err is.1
