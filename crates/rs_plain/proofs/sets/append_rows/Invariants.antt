use Rattle.std.proofs.Common.{◌≡◌, ◌++◌}
use Rattle.rs_plain.proofs.sets.append_rows.Given as goal

abbrev pub invariant-loop-row : goal.invariant-loop-row
invariant-loop-row g l = l.rows.items ≡ l.fn.left.items ++ l.yielded
