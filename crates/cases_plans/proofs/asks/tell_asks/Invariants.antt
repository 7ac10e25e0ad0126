use Rattle.std.proofs.Common.{◌≡◌}
use Rattle.rs_expr.specs.MemScorer.{answered_score}
use Rattle.rs_exec.specs.Cursors.{CanGo}
use Rattle.cases_plans.proofs.asks.tell_asks.Given as goal

-- the cursor can go on, and failed where the last ask had a fault
abbrev pub invariant-loop : goal.invariant-loop
invariant-loop l = CanGo l.fn.catalog (answered_score l.scorer) l.cursor × (l.cursor.failed ≡ l.failed)
