-- The row behind those that were given has the next number, and there is none behind the last.
use Rattle.std.proofs.Common.{◌≡◌, ◌∙◌, ◌+◌, ◌<◌, Some, None, sym, ap, subst, arith}
use Rattle.std.specs.Prelude.{slice_get}
use Rattle.std.proofs.lemmas.Option.{slice_get_past}
use Rattle.rs_scan.specs.Scans.{TableScan, entry_row, rows_of_table, table_rows}
use Rattle.rs_scan.proofs.ScanFacts.{length-rows_from, slice_get-rows_from}
use Rattle.rs_scan.proofs.seq_scan.SeqScan.next.Goals as goal

pub returns-then-self-clause-row : goal.returns-then-self-clause-row
returns-then-self-clause-row c =
    let scan = c.self.inside in
    let count = length-rows_from scan.block scan.entry 1 scan.rows in
    subst (λ (s : TableScan). None ≡ slice_get (rows_of_table s) s.drawn) c.self.view_is
    (sym (slice_get_past (table_rows scan.block scan.entry scan.rows) scan.drawn (omega (arith, count, c.if-self.true))))

pub returns-clause-row : goal.returns-clause-row
returns-clause-row c =
    let scan = c.self.inside in
    let less : scan.drawn < scan.rows = omega (arith, c.self.invariant.within, c.if-self.false) in
    let one : scan.drawn + 1 ≡ 1 + scan.drawn = omega arith in
    subst (λ (s : TableScan). Some c.row_of.result ≡ slice_get (rows_of_table s) s.drawn) c.self.view_is
    (ap Some (c.row_of.ensures ∙ ap (λ n. entry_row scan.block scan.entry n 0) one)
    ∙ sym (slice_get-rows_from scan.block scan.entry 1 scan.rows scan.drawn less))
