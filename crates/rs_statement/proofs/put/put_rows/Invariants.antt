use Rattle.std.proofs.Common.{◌≡◌, suc, take, map}
use Rattle.rs_statement.specs.Lines.{rank_lines}
use Rattle.rs_events.specs.Running.{HasDone}
use Rattle.rs_events.specs.Events.{Put}
use Rattle.rs_events.specs.Environment.{Environment}
use Rattle.rs_statement.proofs.put.put_rows.Given as goal

-- the lines of the rows so far were put
abbrev pub invariant-loop-index : goal.invariant-loop-index
invariant-loop-index g l = record {
  has : (beside : Environment) → HasDone (map Put (take l.index (rank_lines (suc l.fn.given) l.fn.rows))) (record beside { out = g.O.Sink.state l.fn.out }) (record beside { out = g.O.Sink.state l.out });
  rows_same : l.rows ≡ l.fn.rows;
}
