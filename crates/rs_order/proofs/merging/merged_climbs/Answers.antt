-- The first item of a merge is the lesser of the two first ones.
use Rattle.rs_order.proofs.MergingFacts.{Climbs-merged}
use Rattle.rs_order.proofs.merging.merged_climbs.Goals as goal

pub returns : goal.returns
returns g c = λ key xs ys climbs climb apart. Climbs-merged g.K.Ord.cmp g.met.K.Ord.total key xs ys climbs climb apart
