use Rattle.std.proofs.Common.{◌≡◌, ℕ, List, map, take}
use Rattle.rs_value.specs.declared.kind.Kind.{Kind}
use Rattle.rs_table.specs.Stored.{AreEven, cells_in, kinds_in}
use Rattle.rs_table.proofs.columns.empty_columns.Given as goal

abbrev pub invariant-loop-column : goal.invariant-loop-column
invariant-loop-column l = record {
  kinds : kinds_in l.made.items ≡ map (λ (column : List ℕ × Kind). column.1) (take l.column-index l.columns);
  cells : AreEven 0 (cells_in l.made.items);
}
