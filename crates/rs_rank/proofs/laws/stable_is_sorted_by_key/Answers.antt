-- Sorting by the sum keeps the places of rows, and so it sorts by the sum and then the ids, as keys do.
use Rattle.rs_rank.proofs.SortedFacts.{stable-by_key}
use Rattle.rs_rank.proofs.laws.stable_is_sorted_by_key.Goals as goal

pub returns : goal.returns
returns c = λ weights terms rows climbs. stable-by_key weights terms rows climbs
