-- Behind an item that doesn't come before the bar none does.
use Rattle.rs_order.proofs.AsksFacts.{those_before-first}
use Rattle.rs_order.proofs.asks.those_before_come_first.Goals as goal

pub returns : goal.returns
returns g c = λ key xs bar climbs. those_before-first g.K.Ord.cmp g.met.K.Ord.total key bar xs climbs
