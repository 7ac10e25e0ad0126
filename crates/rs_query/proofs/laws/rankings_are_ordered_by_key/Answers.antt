use Rattle.rs_query.proofs.ScoreFacts.{ranking-by_key}
use Rattle.rs_query.proofs.laws.rankings_are_ordered_by_key.Goals as goal

pub returns : goal.returns
returns c = λ weights terms weight row_for entries some sums climbs. ranking-by_key weights terms weight row_for entries some sums climbs
