-- The rows from some on are done: the map has the first of them for each key, and each has the next one.
use Rattle.std.proofs.Common.{◌≡◌, ◌≤◌, length, take, unwrap_or}
use Rattle.std.specs.BTreeMap.{get}
use Rattle.rs_query.specs.EqualRows.{AreNextBehind, HasKey, IsNext}
use Rattle.rs_query.proofs.equal_rows.next_rows.Given as goal

abbrev pub invariant-loop-key : goal.invariant-loop-key
invariant-loop-key g l = record {
  most : length l.keys.items ≤ length l.fn.keys.items;
  left : l.keys.items ≡ take (length l.keys.items) l.fn.keys.items;
  sized : length l.next.items ≡ length l.fn.keys.items;
  firsts : (key : g.row.K.Denot) → IsNext (HasKey g.K.Ord.cmp l.fn.keys.items key) (length l.keys.items) (length l.fn.keys.items) (unwrap_or (get g.K.Ord.cmp l.firsts key) 0);
  next : AreNextBehind g.K.Ord.cmp (length l.keys.items) l.fn.keys.items l.next.items;
}

abbrev pub decreases-loop-key : goal.decreases-loop-key
decreases-loop-key g l = length l.keys.items
