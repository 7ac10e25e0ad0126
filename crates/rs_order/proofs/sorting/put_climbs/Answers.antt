-- The keys in front come before the new one, and the new one before those behind it.
use Rattle.rs_order.proofs.SortingFacts.{Climbs-put}
use Rattle.rs_order.proofs.sorting.put_climbs.Goals as goal

pub returns : goal.returns
returns g c = λ key x xs climbs differs. Climbs-put g.K.Ord.cmp g.met.K.Ord.total key x xs differs climbs
