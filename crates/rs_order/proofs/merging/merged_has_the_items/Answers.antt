-- Each turn takes one item, and none is lost.
use Rattle.rs_order.proofs.MergingFacts.{In-merged, In-merged-back}
use Rattle.rs_order.proofs.merging.merged_has_the_items.Goals as goal

pub returns : goal.returns
returns g c = λ key xs ys z. (In-merged-back g.K.Ord.cmp key z xs ys, In-merged g.K.Ord.cmp key z xs ys)
