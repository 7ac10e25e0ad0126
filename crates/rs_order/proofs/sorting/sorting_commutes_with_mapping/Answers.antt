-- Each item is put in at the same place.
use Rattle.rs_order.proofs.PartFacts.{sorted-map}
use Rattle.rs_order.proofs.sorting.sorting_commutes_with_mapping.Goals as goal

pub returns : goal.returns
returns g c = λ key f xs. sorted-map g.K.Ord.cmp key f xs
