-- Bounds, blocks and row numbers are merged in their orders.
use Rattle.rs_rank.proofs.OrderFacts.{IsBefore-merge_key}
use Rattle.rs_rank.proofs.key_laws.merging_keeps_the_strict_order.Goals as goal

pub returns : goal.returns
returns c = λ weights p q left right later_left later_right. IsBefore-merge_key weights p q left right later_left later_right
