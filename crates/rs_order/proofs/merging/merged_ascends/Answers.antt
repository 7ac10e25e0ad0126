-- Each item that is taken first comes at or before all that is left.
use Rattle.rs_order.proofs.AscendingFacts.{Ascends-merged}
use Rattle.rs_order.proofs.merging.merged_ascends.Goals as goal

pub returns : goal.returns
returns g c = λ key xs ys a b. Ascends-merged g.K.Ord.cmp g.met.K.Ord.total key xs ys a b
