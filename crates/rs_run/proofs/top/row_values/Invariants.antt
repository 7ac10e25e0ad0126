use Rattle.std.proofs.Common.{◌≡◌, take}
use Rattle.rs_catalog.specs.Indexes.{row_at}
use Rattle.rs_run.proofs.top.row_values.Given as goal

-- the values so far are the first of the row
abbrev pub invariant-loop-column : goal.invariant-loop-column
invariant-loop-column l = l.values.items ≡ take l.column (row_at l.table.rows l.row)
