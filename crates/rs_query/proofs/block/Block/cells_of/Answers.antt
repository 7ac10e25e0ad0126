-- The value of the next column is its cell, of its kind.
use Rattle.std.proofs.Common.{ℕ, ◌≡◌, ◌∙◌, ◌++◌, [], ◌∷◌, Some, get_or, sym, ap}
use Rattle.std.specs.Prelude.{slice_get}
use Rattle.std.proofs.lemmas.Option.{slice_get-get_or}
use Rattle.rs_query.specs.Meaning.{column_value}
use Rattle.rs_query.specs.WellFormed.{IsColumn}
use Rattle.rs_query.proofs.CellFacts.{HaveKinds-more}
use Rattle.rs_query.proofs.EntryFacts.{column-inside, row-inside}
use Rattle.rs_order.proofs.EachFacts.{each-slice_get}
use Rattle.rs_query.proofs.ListFacts.{map-take-more}
use Rattle.rs_query.proofs.block.Block.cells_of.Goals as goal

pub push_cell-requires-clause-column : goal.push_cell-requires-clause-column
push_cell-requires-clause-column c =
    let columns = c.args.columns.now in
    let i = c.loop-column.column-index in
    each-slice_get (IsColumn c.args.catalog.now c.args.self.now) columns i (get_or columns i (0, 0)) c.requires.columns (slice_get-get_or columns i (0, 0) c.loop-column-test.true)

pub push_cell-requires-clause-row : goal.push_cell-requires-clause-row
push_cell-requires-clause-row c =
    let columns = c.args.columns.now in
    let i = c.loop-column.column-index in
    let at = slice_get-get_or columns i (0, 0) c.loop-column-test.true in
    row-inside c.args.catalog.now c.args.self.now c.args.ids.now.mask c.args.ids.now.rows (get_or columns i (0, 0)) c.requires.rows
    (each-slice_get (IsColumn c.args.catalog.now c.args.self.now) columns i (get_or columns i (0, 0)) c.requires.columns at)
    (column-inside columns i (get_or columns i (0, 0)) c.args.ids.now.mask c.requires.inside at)

pub loop-column-preserved : goal.loop-column-preserved
loop-column-preserved c =
    let columns = c.args.columns.now in
    let i = c.loop-column.column-index in
    let column : ℕ × ℕ = get_or columns i (0, 0) in
    let at : slice_get columns i ≡ Some column = slice_get-get_or columns i (0, 0) c.loop-column-test.true in
    record {
      values = c.in_ok-push_cell.ensures.value
          ∙ ap (λ made. made ++ column_value c.args.catalog.now c.args.self.now c.args.ids.now.rows column ∷ []) c.loop-column.invariant.values
          ∙ sym (map-take-more (column_value c.args.catalog.now c.args.self.now c.args.ids.now.rows) columns i column at);
      kinds = HaveKinds-more c.args.catalog.now c.args.self.now c.args.ids.now.rows columns c.loop-column.cells.items c.push_cell.new.values.items i column
          (column_value c.args.catalog.now c.args.self.now c.args.ids.now.rows column) at c.loop-column.invariant.values c.in_ok-push_cell.ensures.value
          c.loop-column.invariant.kinds c.in_ok-push_cell.ensures.fit;
    }
