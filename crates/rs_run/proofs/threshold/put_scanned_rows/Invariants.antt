use Rattle.std.proofs.Common.{◌≡◌, map, take}
use Rattle.rs_events.specs.Environment.{Environment}
use Rattle.rs_events.specs.Events.{Put}
use Rattle.rs_events.specs.Running.{HasDone}
use Rattle.rs_statement.specs.Lines.{rank_lines}
use Rattle.rs_run.specs.Parts.Scanning.{scan_input, scanned_rows}
use Rattle.rs_run.proofs.ScanFacts.{IsAt}
use Rattle.rs_run.proofs.threshold.put_scanned_rows.Given as goal

-- the lines of the rows so far were put, and the scan stands behind as many asks
pub record Goes (g : goal.Over) (l : goal.Live-loop-given g) : Type 0 where
  pub has : (beside : Environment) → HasDone (map Put (take l.given (rank_lines 1 (scanned_rows l.fn.test l.fn.limit (scan_input l.fn.test l.fn.scan l.fn.lists)))))
      (record beside { out = g.O.Sink.state l.fn.out }) (record beside { out = g.O.Sink.state l.out })
  pub at : IsAt l.test l.fn.scan l.fn.lists l.given l.scan l.lists
  pub test_same : l.test ≡ l.fn.test
  pub block_same : l.block ≡ l.fn.block
  pub catalog_same : l.catalog ≡ l.fn.catalog

abbrev pub invariant-loop-given : goal.invariant-loop-given
invariant-loop-given g l = Goes g l
