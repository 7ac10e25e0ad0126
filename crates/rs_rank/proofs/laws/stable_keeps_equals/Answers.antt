-- Each row is put in behind the rows of its score.
use Rattle.rs_rank.proofs.StableFacts.{of_score-stable}
use Rattle.rs_rank.proofs.laws.stable_keeps_equals.Goals as goal

pub returns : goal.returns
returns g c = λ rows score. of_score-stable g.T.Scored.score_of score rows
