-- What comes strictly before comes at or before.
use Rattle.rs_order.proofs.AscendingFacts.{Ascends-Climbs}
use Rattle.rs_order.proofs.climbing.climbing_lists_ascend.Goals as goal

pub returns : goal.returns
returns g c = λ key xs climbs. Ascends-Climbs g.K.Ord.cmp key xs climbs
