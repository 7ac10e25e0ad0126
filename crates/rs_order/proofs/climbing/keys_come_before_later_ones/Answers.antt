-- Each key comes before the keys of all items behind it.
use Rattle.rs_order.proofs.PartFacts.{Climbs-at}
use Rattle.rs_order.proofs.climbing.keys_come_before_later_ones.Goals as goal

pub returns : goal.returns
returns g c = λ key xs i j other climbs before within. Climbs-at g.K.Ord.cmp key xs i j other climbs before within
