use Rattle.std.proofs.Common.{◌∙◌, ap, sym}
use Rattle.rs_catalog.specs.Indexes.{ranking_at}
use Rattle.rs_scan.specs.Scans.{IndexScan, last_at}
use Rattle.cases_data.proofs.scans.draw.Goals as goal

pub loop-preserved : goal.loop-preserved
loop-preserved c =
    let after = c.next.ensures.after in (
      ap (λ (s : IndexScan). s.index) after ∙ c.loop.invariant.0,
      ap (λ (s : IndexScan). s.rows) after ∙ c.loop.invariant.1,
      ap (λ (s : IndexScan). s.last) after ∙ sym (ap (λ (s : IndexScan). last_at (ranking_at c.args.catalog.now s.index) s.drawn) after),
    )
