-- Both lists begin with the least of the whole's items.
use Rattle.rs_order.proofs.ClimbingFacts.{Climbs-shared}
use Rattle.rs_order.proofs.climbing.first_items_are_shared.Goals as goal

pub returns : goal.returns
returns g c = λ key n part whole climbs climb within beyond. Climbs-shared g.K.Ord.cmp g.met.K.Ord.total key n part whole climbs climb within beyond
