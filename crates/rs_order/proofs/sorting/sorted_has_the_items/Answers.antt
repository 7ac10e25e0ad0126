-- Putting an item in adds it and loses none.
use Rattle.rs_order.proofs.SortingFacts.{In-sorted, In-sorted-back}
use Rattle.rs_order.proofs.sorting.sorted_has_the_items.Goals as goal

pub returns : goal.returns
returns g c = λ key xs z. (In-sorted g.K.Ord.cmp key xs z, In-sorted-back g.K.Ord.cmp key xs z)
