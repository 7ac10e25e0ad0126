-- Each list begins with the least of the items.
use Rattle.rs_order.proofs.ClimbingFacts.{Climbs-same}
use Rattle.rs_order.proofs.climbing.same_items_make_one_list.Goals as goal

pub returns : goal.returns
returns g c = λ key xs ys climbs climb same. Climbs-same g.K.Ord.cmp g.met.K.Ord.total key xs ys climbs climb (λ z. (same z).0) (λ z. (same z).1)
