use Rattle.std.proofs.Common.{◌≡◌, length}
use Rattle.test_units.proofs.RowFacts.{FitSoFar}
use Rattle.test_units.proofs.columns.copy_row.Given as goal

-- there is a value for each of the first columns, and each fits
abbrev pub invariant-loop-column : goal.invariant-loop-column
invariant-loop-column l = record { len : length l.values.items ≡ l.column; fit : FitSoFar l.table.schema l.values.items }
