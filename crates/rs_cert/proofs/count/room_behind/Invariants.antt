use Rattle.std.proofs.Common.{◌≡◌, ◌+◌, ◌≤◌, length}
use Rattle.rs_order.specs.Asks.{those_before}
use Rattle.rs_cert.specs.Pairs.{pair_cmp, pairs_of_row}
use Rattle.rs_cert.proofs.count.room_behind.Given as goal

abbrev pub invariant-loop-right : goal.invariant-loop-right
invariant-loop-right l = record {
  room : l.rest + l.right-index ≡ l.room;
  before : l.right-index ≤ length (those_before pair_cmp (λ pair. pair) l.bar (pairs_of_row l.number l.left 1 l.rights));
}
