-- The entry behind the one that was drawn last is the first one that wasn't drawn, and there is none where all were drawn.
use Rattle.std.proofs.Common.{◌≡◌, ◌∙◌, ◌+◌, ◌-◌, ◌*◌, ◌≤◌, Some, None, get_or, min, sym, ap, subst, arith}
use Rattle.std.specs.Prelude.{slice_get}
use Rattle.rs_rank.specs.declared.row.RankRow.{RankRow}
use Rattle.rs_catalog.specs.Indexes.{ranking_at}
use Rattle.rs_scan.specs.Scans.{IndexScan, IsOfAllRows, entry_row, last_at, rows_of_index, scan_at, scored}
use Rattle.rs_scan.proofs.LastFacts.{after-found, after-over, number-scored, row-found, row-over, scan-found, scan-over}
use Rattle.rs_scan.proofs.rank_scan.RankScan.next.Goals as goal

pub returns-in_err-score-clause-row : goal.returns-in_err-score-clause-row
returns-in_err-score-clause-row c =
    let m = c.self.inside in
    let catalogue = c.args.catalog.now in
    let scan : IndexScan = record { index = m.index; entry = m.entry; block = m.block; weight = m.weight; rows = m.rows; drawn = m.drawn; last = m.last } in
    let view = subst (λ (s : IndexScan). IsOfAllRows catalogue s) (sym c.self.view_is) c.requires.view in
    let was = subst (λ (s : IndexScan). s.last ≡ last_at (ranking_at catalogue s.index) s.drawn) (sym c.self.view_is) c.requires.last in
    c.from_residual.ensures ∙ sym (subst (λ (s : IndexScan). slice_get (rows_of_index catalogue s) s.drawn ≡ None) c.self.view_is (row-over catalogue scan c.index.result.now c.index_after.result c.self.invariant.within view c.index.ensures.value c.index.ensures.ranking was c.index_after.ensures c.in_err-score.was))

pub returns-in_err-score-clause-end : goal.returns-in_err-score-clause-end
returns-in_err-score-clause-end c =
    let m = c.self.inside in
    let catalogue = c.args.catalog.now in
    let scan : IndexScan = record { index = m.index; entry = m.entry; block = m.block; weight = m.weight; rows = m.rows; drawn = m.drawn; last = m.last } in
    let view = subst (λ (s : IndexScan). IsOfAllRows catalogue s) (sym c.self.view_is) c.requires.view in
    let was = subst (λ (s : IndexScan). s.last ≡ last_at (ranking_at catalogue s.index) s.drawn) (sym c.self.view_is) c.requires.last in
    let end = scan-over catalogue scan c.index.result.now c.index_after.result c.self.invariant.within view c.index.ensures.value c.index.ensures.ranking was c.index_after.ensures c.in_err-score.was in
    (λ is. subst (λ (s : IndexScan). s.drawn ≡ s.rows) c.self.view_is end, λ is. c.from_residual.ensures)

pub returns-in_err-score-clause-after : goal.returns-in_err-score-clause-after
returns-in_err-score-clause-after c =
    let m = c.self.inside in
    let catalogue = c.args.catalog.now in
    let scan : IndexScan = record { index = m.index; entry = m.entry; block = m.block; weight = m.weight; rows = m.rows; drawn = m.drawn; last = m.last } in
    let view = subst (λ (s : IndexScan). IsOfAllRows catalogue s) (sym c.self.view_is) c.requires.view in
    let was = subst (λ (s : IndexScan). s.last ≡ last_at (ranking_at catalogue s.index) s.drawn) (sym c.self.view_is) c.requires.last in
    subst (λ (s : IndexScan). s ≡ scan_at catalogue (min (s.drawn + 1) s.rows) s) c.self.view_is (after-over catalogue scan c.index.result.now c.index_after.result c.self.invariant.within view c.index.ensures.value c.index.ensures.ranking was c.index_after.ensures c.in_err-score.was)

pub overflow_add-self : goal.overflow_add-self
overflow_add-self c =
    let m = c.self.inside in
    let catalogue = c.args.catalog.now in
    let scan : IndexScan = record { index = m.index; entry = m.entry; block = m.block; weight = m.weight; rows = m.rows; drawn = m.drawn; last = m.last } in
    let view = subst (λ (s : IndexScan). IsOfAllRows catalogue s) (sym c.self.view_is) c.requires.view in
    let was = subst (λ (s : IndexScan). s.last ≡ last_at (ranking_at catalogue s.index) s.drawn) (sym c.self.view_is) c.requires.last in
    let less = (scan-found catalogue scan c.index.result.now c.index_after.result c.self.invariant.within view c.index.ensures.value c.index.ensures.ranking was c.index_after.ensures c.in_ok-score.score c.in_ok-score.row c.in_ok-score.was).less in
    omega arith

pub invariant_of-self : goal.invariant_of-self
invariant_of-self c =
    let m = c.self.inside in
    let catalogue = c.args.catalog.now in
    let scan : IndexScan = record { index = m.index; entry = m.entry; block = m.block; weight = m.weight; rows = m.rows; drawn = m.drawn; last = m.last } in
    let view = subst (λ (s : IndexScan). IsOfAllRows catalogue s) (sym c.self.view_is) c.requires.view in
    let was = subst (λ (s : IndexScan). s.last ≡ last_at (ranking_at catalogue s.index) s.drawn) (sym c.self.view_is) c.requires.last in
    let less = (scan-found catalogue scan c.index.result.now c.index_after.result c.self.invariant.within view c.index.ensures.value c.index.ensures.ranking was c.index_after.ensures c.in_ok-score.score c.in_ok-score.row c.in_ok-score.was).less in
    record { entry_number = c.self.invariant.entry_number; within = omega arith }

pub returns-clause-row : goal.returns-clause-row
returns-clause-row c =
    let m = c.self.inside in
    let catalogue = c.args.catalog.now in
    let scan : IndexScan = record { index = m.index; entry = m.entry; block = m.block; weight = m.weight; rows = m.rows; drawn = m.drawn; last = m.last } in
    let view = subst (λ (s : IndexScan). IsOfAllRows catalogue s) (sym c.self.view_is) c.requires.view in
    let was = subst (λ (s : IndexScan). s.last ≡ last_at (ranking_at catalogue s.index) s.drawn) (sym c.self.view_is) c.requires.last in
    let made : c.row_of.result ≡ scored scan.block scan.entry scan.weight (record { score = c.in_ok-score.score; row = c.in_ok-score.row }) =
    c.row_of.ensures ∙ ap (entry_row scan.block scan.entry c.in_ok-score.row) c.share-sum.ensures in
    subst (λ (s : IndexScan). Some c.row_of.result ≡ slice_get (rows_of_index catalogue s) s.drawn) c.self.view_is (ap Some made ∙ sym (row-found catalogue scan c.index.result.now c.index_after.result c.self.invariant.within view c.index.ensures.value c.index.ensures.ranking was c.index_after.ensures c.in_ok-score.score c.in_ok-score.row c.in_ok-score.was))

pub returns-clause-number : goal.returns-clause-number
returns-clause-number c =
    let m = c.self.inside in
    let catalogue = c.args.catalog.now in
    let scan : IndexScan = record { index = m.index; entry = m.entry; block = m.block; weight = m.weight; rows = m.rows; drawn = m.drawn; last = m.last } in
    let view = subst (λ (s : IndexScan). IsOfAllRows catalogue s) (sym c.self.view_is) c.requires.view in
    let was = subst (λ (s : IndexScan). s.last ≡ last_at (ranking_at catalogue s.index) s.drawn) (sym c.self.view_is) c.requires.last in
    let some = (scan-found catalogue scan c.index.result.now c.index_after.result c.self.invariant.within view c.index.ensures.value c.index.ensures.ranking was c.index_after.ensures c.in_ok-score.score c.in_ok-score.row c.in_ok-score.was).some in
    let made : c.row_of.result ≡ scored scan.block scan.entry scan.weight (record { score = c.in_ok-score.score; row = c.in_ok-score.row }) =
    c.row_of.ensures ∙ ap (entry_row scan.block scan.entry c.in_ok-score.row) c.share-sum.ensures in
    let place = ap (λ (r : RankRow). get_or r.ids.rows (scan.entry - 1) 0) made ∙ number-scored scan.block scan.entry c.in_ok-score.row (scan.weight * c.in_ok-score.score) c.self.invariant.entry_number in
    subst (λ (s : IndexScan). 1 ≤ get_or c.row_of.result.ids.rows (s.entry - 1) 0) c.self.view_is (omega (arith, place, some))

pub returns-clause-end : goal.returns-clause-end
returns-clause-end c =
    let m = c.self.inside in
    let catalogue = c.args.catalog.now in
    let scan : IndexScan = record { index = m.index; entry = m.entry; block = m.block; weight = m.weight; rows = m.rows; drawn = m.drawn; last = m.last } in
    let view = subst (λ (s : IndexScan). IsOfAllRows catalogue s) (sym c.self.view_is) c.requires.view in
    let was = subst (λ (s : IndexScan). s.last ≡ last_at (ranking_at catalogue s.index) s.drawn) (sym c.self.view_is) c.requires.last in
    let less = (scan-found catalogue scan c.index.result.now c.index_after.result c.self.invariant.within view c.index.ensures.value c.index.ensures.ranking was c.index_after.ensures c.in_ok-score.score c.in_ok-score.row c.in_ok-score.was).less in
    (λ is. absurd cc, λ is. absurd (let same = subst (λ (s : IndexScan). s.drawn ≡ s.rows) (sym c.self.view_is) is in omega arith))

pub returns-clause-after : goal.returns-clause-after
returns-clause-after c =
    let m = c.self.inside in
    let catalogue = c.args.catalog.now in
    let scan : IndexScan = record { index = m.index; entry = m.entry; block = m.block; weight = m.weight; rows = m.rows; drawn = m.drawn; last = m.last } in
    let view = subst (λ (s : IndexScan). IsOfAllRows catalogue s) (sym c.self.view_is) c.requires.view in
    let was = subst (λ (s : IndexScan). s.last ≡ last_at (ranking_at catalogue s.index) s.drawn) (sym c.self.view_is) c.requires.last in
    subst (λ (s : IndexScan). record scan { drawn = scan.drawn + 1; last = Some (c.in_ok-score.score, c.in_ok-score.row) } ≡ scan_at catalogue (min (s.drawn + 1) s.rows) s) c.self.view_is (after-found catalogue scan c.index.result.now c.index_after.result c.self.invariant.within view c.index.ensures.value c.index.ensures.ranking was c.index_after.ensures c.in_ok-score.score c.in_ok-score.row c.in_ok-score.was)
