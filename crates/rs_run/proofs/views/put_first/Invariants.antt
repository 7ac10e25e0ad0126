use Rattle.std.proofs.Common.{◌≤◌, ◌-◌, map, take}
use Rattle.rs_events.specs.Environment.{Environment}
use Rattle.rs_events.specs.Events.{Put}
use Rattle.rs_events.specs.Running.{HasDone}
use Rattle.rs_statement.specs.Lines.{rank_lines}
use Rattle.rs_view.specs.Views.{rows_in}
use Rattle.rs_run.proofs.views.put_first.Given as goal

-- the lines of the rows so far were put, and no more than are wanted
pub record Goes (g : goal.Over) (l : goal.Live-loop-given g) : Type 0 where
  pub has : (beside : Environment) → HasDone (map Put (rank_lines 1 (take l.given (rows_in l.fn.catalog l.fn.view))))
      (record beside { out = g.O.Sink.state l.fn.out }) (record beside { out = g.O.Sink.state l.out })
  pub within : l.given ≤ l.wanted

abbrev pub invariant-loop-given : goal.invariant-loop-given
invariant-loop-given g l = Goes g l

abbrev pub decreases-loop-given : goal.decreases-loop-given
decreases-loop-given g l = l.wanted - l.given
