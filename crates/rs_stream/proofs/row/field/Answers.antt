use Rattle.std.proofs.Common.{ℕ, List, [], Option, ap}
use Rattle.std.specs.Prelude.{unwrap_or}
use Rattle.rs_stream.proofs.row.field.Goals as goal

pub returns-in-Some : goal.returns-in-Some
returns-in-Some c = ap (λ (found : Option (List ℕ)). unwrap_or found []) c.in-Some.ensures.value

pub returns-in-None : goal.returns-in-None
returns-in-None c = ap (λ (found : Option (List ℕ)). unwrap_or found []) c.in-None.ensures.value
