-- The first held pair is the next answer.
use Rattle.rs_ripple.proofs.LawFacts.{taken-is, taken-stands}
use Rattle.rs_ripple.proofs.laws.taken_core_stands.Goals as goal

pub returns : goal.returns
returns c = λ j lefts rights made count ripple s ready. (taken-is j lefts rights made count ripple s ready, taken-stands j lefts rights made count ripple s ready)
