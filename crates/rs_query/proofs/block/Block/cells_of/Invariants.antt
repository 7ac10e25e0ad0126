-- The values so far are those of the first columns, and have their kinds.
use Rattle.std.proofs.Common.{◌≡◌, map, take}
use Rattle.rs_query.specs.Meaning.{column_value}
use Rattle.rs_query.proofs.CellFacts.{HaveKinds}
use Rattle.rs_query.proofs.block.Block.cells_of.Given as goal

abbrev pub invariant-loop-column : goal.invariant-loop-column
invariant-loop-column l = record {
  values : l.cells.items ≡ map (column_value l.catalog l.self l.ids.rows) (take l.column-index l.columns);
  kinds : HaveKinds l.catalog l.self (take l.column-index l.columns) l.cells.items;
}
