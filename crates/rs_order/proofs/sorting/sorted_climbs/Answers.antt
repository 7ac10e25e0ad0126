-- Each item is put in with keys still rising.
use Rattle.rs_order.proofs.SortingFacts.{Climbs-sorted}
use Rattle.rs_order.proofs.sorting.sorted_climbs.Goals as goal

pub returns : goal.returns
returns g c = λ key xs distinct. Climbs-sorted g.K.Ord.cmp g.met.K.Ord.total key xs distinct
