-- Both lists fall and have the same rows of each score.
use Rattle.rs_rank.proofs.StableFacts.{stable-is_unique}
use Rattle.rs_rank.proofs.laws.stable_is_unique.Goals as goal

pub returns : goal.returns
returns g c = λ rows ordered down same. stable-is_unique g.T.Scored.score_of rows ordered down same
