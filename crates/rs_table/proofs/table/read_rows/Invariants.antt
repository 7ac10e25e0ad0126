use Rattle.std.proofs.Common.{◌≡◌, ◌+◌, ◌-◌, ◌≤◌, ℕ, List, map}
use Rattle.rs_value.specs.declared.kind.Kind.{Kind}
use Rattle.rs_table.specs.Appended.{appended}
use Rattle.rs_table.specs.Reading.{rows_from}
use Rattle.rs_table.specs.Stored.{AreEven, cells_in, kinds_in, rows_across}
use Rattle.rs_table.proofs.table.read_rows.Given as goal

abbrev pub invariant-loop-cells : goal.invariant-loop-cells
invariant-loop-cells l = record {
  few : l.len ≤ 131072;
  kinds : kinds_in l.cells.items ≡ map (λ (column : List ℕ × Kind). column.1) l.columns;
  even : AreEven l.len (cells_in l.cells.items);
  so_far : appended (rows_across l.len (cells_in l.cells.items)) (rows_from l.columns (l.len + 1) l.records) ≡ rows_from l.columns 1 l.initial.records;
}

abbrev pub decreases-loop-cells : goal.decreases-loop-cells
decreases-loop-cells l = 131073 - l.len
