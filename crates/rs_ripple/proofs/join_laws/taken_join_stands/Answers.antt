-- The first held pair is the next answer.
use Rattle.rs_ripple.proofs.JoinLawFacts.{taken-join-stands}
use Rattle.rs_ripple.proofs.join_laws.taken_join_stands.Goals as goal

pub returns : goal.returns
returns c = λ j lefts rights made count joined s ready. taken-join-stands j lefts rights made count joined s ready
