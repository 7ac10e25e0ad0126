use Rattle.std.proofs.Common.{◌≡◌, ◌≤◌, ◌+◌, ◌++◌}
use Rattle.std.specs.Vec.{vec_capacity, vec_len}
use Rattle.std.specs.VecDeque.{deque_len}
use Rattle.rs_order.specs.Merging.{merged}
use Rattle.rs_rank.specs.Keys.{key_cmp}
use Rattle.rs_view.specs.Keeping.{key_of_row}
use Rattle.rs_view.proofs.merge.push_merged.Given as goal

-- what is pushed and what is left of both lists make the same rows, and there is room for what is left
abbrev pub invariant-loop-row : goal.invariant-loop-row
invariant-loop-row l =
    (l.rows.items ++ merged key_cmp key_of_row l.old.items l.new.items ≡ l.initial.rows.items ++ merged key_cmp key_of_row l.initial.old.items l.initial.new.items)
    × (vec_len l.rows + (deque_len l.old + deque_len l.new) ≤ vec_capacity l.rows)

abbrev pub decreases-loop-row : goal.decreases-loop-row
decreases-loop-row l = deque_len l.old + deque_len l.new
