-- The lists that are left wait behind those that were placed.
use Rattle.std.proofs.Common.{◌≡◌, ◌++◌, ◌≤◌}
use Rattle.std.specs.VecDeque.{deque_capacity, deque_len}
use Rattle.rs_outputs.specs.Waiting.{AreNew, lists_in}
use Rattle.rs_outputs.proofs.outputs.place_all.Given as goal

abbrev pub invariant-loop-values : goal.invariant-loop-values
invariant-loop-values l = record {
  lists : l.placed ++ lists_in l.waiting.items ≡ l.fn.placed ++ lists_in l.fn.waiting.items;
  new : AreNew l.placed (lists_in l.waiting.items);
  capacity : deque_capacity l.waiting ≡ deque_capacity l.fn.waiting;
  fewer : deque_len l.waiting ≤ deque_len l.fn.waiting;
}

abbrev pub decreases-loop-values : goal.decreases-loop-values
decreases-loop-values l = deque_len l.waiting
