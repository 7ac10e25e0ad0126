-- No row so far fits.
use Rattle.std.proofs.Common.{Some}
use Rattle.rs_query.specs.Searching.{Fits}
use Rattle.rs_query.proofs.NextFacts.{IsNone}
use Rattle.rs_query.proofs.tie.Tie.scan.Given as goal

abbrev pub invariant-loop-row : goal.invariant-loop-row
invariant-loop-row l = IsNone (Fits l.catalog l.block (Some l.self) l.rows) l.behind l.row
