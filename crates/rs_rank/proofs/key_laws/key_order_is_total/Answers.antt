-- The order is made of total ones.
use Rattle.rs_rank.proofs.OrderFacts.{key_cmp-total}
use Rattle.rs_rank.proofs.key_laws.key_order_is_total.Goals as goal

pub returns : goal.returns
returns c = key_cmp-total
