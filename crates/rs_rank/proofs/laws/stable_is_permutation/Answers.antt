-- Putting rows in one after another only moves them.
use Rattle.rs_rank.proofs.StableFacts.{IsPermutation-stable}
use Rattle.rs_rank.proofs.laws.stable_is_permutation.Goals as goal

pub returns : goal.returns
returns g c = λ rows. IsPermutation-stable g.T.Scored.score_of rows
