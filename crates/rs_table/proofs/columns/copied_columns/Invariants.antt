use Rattle.std.proofs.Common.{◌≡◌, take}
use Rattle.rs_table.specs.Stored.{cells_in, kinds_in}
use Rattle.rs_table.proofs.columns.copied_columns.Given as goal

abbrev pub invariant-loop-column : goal.invariant-loop-column
invariant-loop-column l = record {
  kinds : kinds_in l.copies.items ≡ kinds_in (take l.column-index l.columns);
  cells : cells_in l.copies.items ≡ cells_in (take l.column-index l.columns);
}
