-- The items before the bar are the first ones, so an item's place decides.
use Rattle.std.proofs.Common.{arith}
use Rattle.rs_order.proofs.AsksFacts.{get_or-before, get_or-asked}
use Rattle.rs_order.proofs.asks.asks_are_exact.Goals as goal

pub returns : goal.returns
returns g c = λ key xs bar n other climbs within. (
  λ h. let more = get_or-before g.K.Ord.cmp g.met.K.Ord.total key bar xs n other climbs within h in omega arith,
  λ h. get_or-asked g.K.Ord.cmp g.met.K.Ord.total key bar xs n other climbs (omega arith),
)
