use Rattle.rs_scores.proofs.NewFacts.{never-missing}
use Rattle.rs_scores.proofs.laws.written_scores_are_never_missing.Goals as goal

pub returns : goal.returns
returns c = λ names before entries known new knows. never-missing names before entries known new knows
