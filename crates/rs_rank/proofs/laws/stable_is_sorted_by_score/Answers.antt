-- Each row is put in at the same place by both orders.
use Rattle.rs_rank.proofs.SortedFacts.{stable-by_score}
use Rattle.rs_rank.proofs.laws.stable_is_sorted_by_score.Goals as goal

pub returns : goal.returns
returns g c = λ rows. stable-by_score g.T.Scored.score_of rows
