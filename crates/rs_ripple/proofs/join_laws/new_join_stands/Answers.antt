-- Nothing is drawn, and no ask is made.
use Rattle.std.proofs.Common.{refl}
use Rattle.rs_ripple.proofs.LawFacts.{new-stands}
use Rattle.rs_ripple.proofs.join_laws.new_join_stands.Goals as goal

pub returns : goal.returns
returns c = λ j lefts rights input. record { core = new-stands j lefts rights input; left_rows = refl; right_rows = refl }
