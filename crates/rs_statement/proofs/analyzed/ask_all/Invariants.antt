use Rattle.std.proofs.Common.{◌-◌, suc, length}
use Rattle.rs_plan.specs.Lists.{list_of_plan}
use Rattle.rs_exec.specs.Asking.{world_of}
use Rattle.rs_exec.specs.Cursors.{asks_of, plan_of}
use Rattle.rs_statement.specs.Parts.Asks.{left_of}
use Rattle.rs_events.specs.Sequence.{silent}
use Rattle.rs_events.specs.Environment.{Environment}
use Rattle.rs_statement.proofs.AnalyzeSteps.{GoesOn}
use Rattle.rs_events.proofs.SoFar.{SoFar}
use Rattle.rs_statement.proofs.analyzed.ask_all.Given as goal

-- some asks were made; the others are left, and the cursor goes on
abbrev pub invariant-loop : goal.invariant-loop
invariant-loop g l =
    let answer = (g.S.Scorer.state l.fn.scorer).answer in record {
      so_far : (beside : Environment) → SoFar (silent (left_of l.catalog answer l.fn.cursor)) (silent (left_of l.catalog answer l.cursor))
          (record beside { scorer = g.S.Scorer.state l.fn.scorer }) (record beside { scorer = g.S.Scorer.state l.scorer });
      goes_on : GoesOn l.catalog answer l.fn.cursor l.cursor;
    }

-- the asks that are left
abbrev pub decreases-loop : goal.decreases-loop
decreases-loop g l =
    suc (length (list_of_plan (world_of l.catalog (g.S.Scorer.state l.fn.scorer).answer l.cursor.query) (plan_of l.cursor))) - asks_of l.cursor
