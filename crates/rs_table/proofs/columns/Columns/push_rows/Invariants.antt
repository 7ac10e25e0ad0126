use Rattle.std.proofs.Common.{◌≡◌, ◌++◌, length, map}
use Rattle.std.specs.List.{AllByRecursion}
use Rattle.rs_value.specs.Value.{kind_of}
use Rattle.rs_table.specs.Stored.{HasRoom}
use Rattle.rs_table.proofs.columns.Columns.push_rows.Given as goal

abbrev pub invariant-loop-row : goal.invariant-loop-row
invariant-loop-row l = record {
  kinds : l.self.kinds ≡ l.initial.self.kinds;
  rows : l.self.rows ++ l.row-iterator.rest.items ≡ l.initial.self.rows ++ l.fn.rows.items;
  fit : AllByRecursion (λ row. map kind_of row ≡ l.self.kinds) l.row-iterator.rest.items;
  room : HasRoom (length l.row-iterator.rest.items) l.self;
}
