use Rattle.std.proofs.Common.{◌≡◌, ◌≤◌, ◌∙◌, length, sym, ap, arith}
use Rattle.std.proofs.lemmas.List.{take_all}
use Rattle.rs_catalog.specs.Indexes.{row_at}
use Rattle.rs_run.proofs.RowFacts.{take-slice_get, slice_get-cell, length-row_at}
use Rattle.rs_run.proofs.top.row_values.Goals as goal

pub loop-column-preserved : goal.loop-column-preserved
loop-column-preserved c =
    let cell = slice_get-cell c.args.table.now c.args.row c.loop-column.column _ c.requires c.in_ok-value.ensures.cell in
    let more = take-slice_get (row_at c.args.table.now.rows c.args.row) c.loop-column.column _ cell in
    c.in_ok-push.ensures.items ∙ rw c.loop-column.invariant (sym more)

pub returns : goal.returns
returns c =
    let columns : length c.columns-column-end.result.now ≡ length c.args.table.now.schema = ap length (c.columns-column-end.ensures.value ∙ c.schema.ensures.value) in
    let all : length (row_at c.args.table.now.rows c.args.row) ≤ c.loop-column.column =
    omega (arith, length-row_at c.args.table.now c.args.row c.schema.ensures.rows_fit c.requires) in
    c.loop-column.invariant ∙ take_all c.loop-column.column (row_at c.args.table.now.rows c.args.row) all
