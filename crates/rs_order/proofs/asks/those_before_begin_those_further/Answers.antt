-- What doesn't come before the bar has nothing behind it that does.
use Rattle.rs_order.proofs.AscendingFacts.{those_before-begin}
use Rattle.rs_order.proofs.asks.those_before_begin_those_further.Goals as goal

pub returns : goal.returns
returns g c = λ key xs bar further a le. those_before-begin g.K.Ord.cmp g.met.K.Ord.total key bar further xs a le
