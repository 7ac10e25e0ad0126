-- The next row fits, or it joins those that don't.
use Rattle.std.proofs.Common.{◌+◌, ◌∙◌, Some, sym, arith}
use Rattle.std.proofs.lemmas.Bool.{true≢false}
use Rattle.rs_table.specs.Lent.{shown}
use Rattle.rs_query.specs.Searching.{Fits}
use Rattle.rs_query.proofs.NextFacts.{IsNext-found, IsNone-more}
use Rattle.rs_query.proofs.TieFacts.{fits-cell}
use Rattle.rs_query.proofs.tie.Tie.scan.Goals as goal

pub returns-then-are_equal : goal.returns-then-are_equal
returns-then-are_equal c =
    let fits = fits-cell c.args.catalog.now c.args.block.now c.args.self.now c.args.rows.now (c.loop-row.row + 1) c.table-table.result (shown c.cell-cell.result) (shown c.cell.result)
    c.requires.unlisted c.table-table.ensures c.cell-cell.ensures.value c.cell.ensures.cell in
    IsNext-found (Fits c.args.catalog.now c.args.block.now (Some c.args.self.now) c.args.rows.now) c.args.behind c.args.last c.loop-row.row c.loop-row.invariant (omega arith) (omega arith)
    (fits.0 (c.are_equal.ensures.0 c.if-are_equal.true))

pub loop-row-preserved : goal.loop-row-preserved
loop-row-preserved c =
    let fits = fits-cell c.args.catalog.now c.args.block.now c.args.self.now c.args.rows.now (c.loop-row.row + 1) c.table-table.result (shown c.cell-cell.result) (shown c.cell.result)
    c.requires.unlisted c.table-table.ensures c.cell-cell.ensures.value c.cell.ensures.cell in
    IsNone-more (Fits c.args.catalog.now c.args.block.now (Some c.args.self.now) c.args.rows.now) c.args.behind c.loop-row.row c.loop-row.invariant
    (λ also. true≢false (sym (c.are_equal.ensures.1 (fits.1 also)) ∙ c.if-are_equal.false))
