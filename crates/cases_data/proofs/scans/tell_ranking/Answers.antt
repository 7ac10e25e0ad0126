-- A new scan stands before the first entry.
use Rattle.std.proofs.Common.{◌∙◌, ap, sym}
use Rattle.rs_catalog.specs.Indexes.{ranking_at}
use Rattle.rs_scan.specs.Scans.{IndexScan, last_at}
use Rattle.cases_data.proofs.scans.tell_ranking.Goals as goal

pub draw-requires-clause-last : goal.draw-requires-clause-last
draw-requires-clause-last c =
    let new = c.new-scan.ensures in
    ap (λ (s : IndexScan). s.last) new ∙ sym (ap (λ (s : IndexScan). last_at (ranking_at c.args.catalog.now s.index) s.drawn) new)
