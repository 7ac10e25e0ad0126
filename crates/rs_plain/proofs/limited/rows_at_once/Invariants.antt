use Rattle.std.proofs.Common.{◌≤◌}
use Rattle.rs_plain.proofs.limited.rows_at_once.Given as goal

abbrev pub invariant-loop-size : goal.invariant-loop-size
invariant-loop-size l = l.rows ≤ 65536
