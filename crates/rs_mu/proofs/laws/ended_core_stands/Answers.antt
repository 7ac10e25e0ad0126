-- All rows are fed already.
use Rattle.rs_mu.proofs.StepFacts.{ended-can, ended-stands}
use Rattle.rs_mu.proofs.laws.ended_core_stands.Goals as goal

pub returns : goal.returns
returns c = λ e rows asks count mu s need over. (ended-can e rows asks count mu s need, ended-stands e rows asks count mu s need over)
