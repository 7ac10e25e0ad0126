-- There is a value for each column, and each fits.
use Rattle.std.proofs.Common.{◌≡◌, ◌∙◌, true, length, sym, ap, subst, arith}
use Rattle.rs_table.specs.Relation.{row_fits}
use Rattle.test_units.proofs.RowFacts.{row_fits-so_far}
use Rattle.test_units.proofs.columns.copy_row.Goals as goal

pub returns : goal.returns
returns c =
    let columns : length c.columns-column-end.result.now ≡ length c.args.table.now.schema = ap length (c.columns-column-end.ensures.value ∙ c.schema.ensures.value) in
    let most = c.loop-column.auto.column-end in
    let done = c.loop-column-test.false in
    let each = c.loop-column.invariant.len in
    subst (λ v. row_fits c.args.table.now.schema v ≡ true) (sym c.of.ensures)
    (row_fits-so_far c.args.table.now.schema c.loop-column.values.items (omega arith) c.loop-column.invariant.fit)
