use Rattle.std.proofs.Common.{◌-◌, suc, length}
use Rattle.rs_plan.specs.Lists.{list_of_plan}
use Rattle.rs_exec.specs.Asking.{world_of}
use Rattle.rs_exec.specs.Cursors.{StandsFor, asks_of, plan_of}
use Rattle.rs_statement.specs.Parts.Asks.{left_of}
use Rattle.rs_events.proofs.SoFar.{SoFar}
use Rattle.rs_statement.proofs.planned.put_all.Given as goal

-- some asks were made and their rows put; the others are left, and the cursor stands
abbrev pub invariant-loop-lines : goal.invariant-loop-lines
invariant-loop-lines g l =
    let answer = (g.W.Host.state l.fn.host).scorer.answer in record {
      so_far : SoFar (left_of l.catalog answer l.fn.cursor) (left_of l.catalog answer l.cursor)
          (g.W.Host.state l.fn.host) (g.W.Host.state l.host);
      stands : StandsFor l.catalog answer l.cursor;
    }

-- the asks that are left
abbrev pub decreases-loop-lines : goal.decreases-loop-lines
decreases-loop-lines g l =
    suc (length (list_of_plan (world_of l.catalog (g.W.Host.state l.fn.host).scorer.answer l.cursor.query) (plan_of l.cursor))) - asks_of l.cursor
