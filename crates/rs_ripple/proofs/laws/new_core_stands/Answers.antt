-- Nothing is drawn, and no ask is made.
use Rattle.rs_ripple.proofs.LawFacts.{new-stands}
use Rattle.rs_ripple.proofs.laws.new_core_stands.Goals as goal

pub returns : goal.returns
returns c = λ j lefts rights input. new-stands j lefts rights input
