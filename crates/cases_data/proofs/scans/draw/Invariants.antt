use Rattle.std.proofs.Common.{◌≡◌}
use Rattle.rs_catalog.specs.Indexes.{ranking_at}
use Rattle.rs_scan.specs.Scans.{last_at}
use Rattle.cases_data.proofs.scans.draw.Given as goal

-- the scan stays one of the same index and of the same view, and stands behind the entry that it drew last
abbrev pub invariant-loop : goal.invariant-loop
invariant-loop l = (l.scan.index ≡ l.initial.scan.index) × (l.scan.rows ≡ l.initial.scan.rows) × (l.scan.last ≡ last_at (ranking_at l.fn.catalog l.scan.index) l.scan.drawn)
