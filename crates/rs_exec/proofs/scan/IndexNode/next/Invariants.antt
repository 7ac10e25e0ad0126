-- What is left to draw gives what all gives: no row that was drawn so far passes.
use Rattle.std.proofs.Common.{◌≡◌, ◌+◌, ◌-◌}
use Rattle.rs_scan.specs.Scans.{rows_of_index, scan_at}
use Rattle.rs_exec.specs.Drawing.{passes}
use Rattle.rs_exec.proofs.NextFacts.{NonePassed}
use Rattle.rs_exec.proofs.scan.IndexNode.next.Given as goal

abbrev pub invariant-loop-row : goal.invariant-loop-row
invariant-loop-row l = record {
  none : NonePassed (passes l.context.catalog.now l.context.query.now) (rows_of_index l.context.catalog.now l.fn.self.scan) l.fn.self.scan.drawn l.self.scan.drawn;
  self_is : l.self ≡ record l.fn.self {
    scan = scan_at l.context.catalog.now l.self.scan.drawn l.fn.self.scan;
    tally = record l.fn.self.tally { asked = l.fn.self.tally.asked + 1 };
  };
}

-- the rows that aren't drawn
abbrev pub decreases-loop-row : goal.decreases-loop-row
decreases-loop-row l = l.self.scan.rows - l.self.scan.drawn
