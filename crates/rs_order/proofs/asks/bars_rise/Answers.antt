-- Each key comes before all behind it, and None lies beyond them.
use Rattle.rs_order.proofs.AsksFacts.{bar_after-later}
use Rattle.rs_order.proofs.asks.bars_rise.Goals as goal

pub returns : goal.returns
returns g c = λ key xs m n climbs le. bar_after-later g.K.Ord.cmp g.met.K.Ord.total key xs m n climbs le
