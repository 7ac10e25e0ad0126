-- The row is put in behind the answers that are given.
use Rattle.rs_mu.proofs.StepFacts.{fed-can, fed-stands}
use Rattle.rs_mu.proofs.laws.fed_core_stands.Goals as goal

pub returns : goal.returns
returns c = λ e rows asks count mu row s need next. (fed-can e rows asks count mu row s need next, fed-stands e rows asks count mu row s need next)
