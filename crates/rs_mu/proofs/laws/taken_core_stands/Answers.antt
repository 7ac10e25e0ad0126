-- The first held row is the next answer.
use Rattle.rs_mu.proofs.StepFacts.{taken-stands}
use Rattle.rs_mu.proofs.laws.taken_core_stands.Goals as goal

pub returns : goal.returns
returns c = λ e rows asks count mu s ready. taken-stands e rows asks count mu s ready
