-- What comes before a bar comes before one that lies further on.
use Rattle.rs_order.proofs.AsksFacts.{asks_for-more}
use Rattle.rs_order.proofs.asks.asks_grow.Goals as goal

pub returns : goal.returns
returns g c = λ key xs bar further h. asks_for-more g.K.Ord.cmp g.met.K.Ord.total key xs bar further h
