-- Both lists rise by the second key, and have the same items.
use Rattle.rs_order.proofs.SortingFacts.{sorted-sorted}
use Rattle.rs_order.proofs.sorting.sorted_twice_is_sorted_once.Goals as goal

pub returns : goal.returns
returns g c = λ first second xs distinct. sorted-sorted g.K.Ord.cmp first g.L.Ord.cmp g.met.L.Ord.total second xs distinct
