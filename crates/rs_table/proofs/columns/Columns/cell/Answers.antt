-- The cell of the column at the row's place is that of the row.
use Rattle.std.proofs.Common.{arith}
use Rattle.rs_table.specs.Lent.{shown}
use Rattle.rs_table.proofs.StoredFacts.{IsPlaced, placed}
use Rattle.rs_table.proofs.columns.Columns.cell.Goals as goal

at_index : (c : goal.After-index) → IsPlaced c.args.self.now c.args.column c.index.result.now
at_index c = placed c.args.self.now c.self.inside.len c.args.column c.self.inside.columns.items c.index.result.now c.self.view_is c.self.invariant c.requires.column_in c.index.ensures

at_cell : (c : goal.After-cell) → IsPlaced c.args.self.now c.args.column c.index.result.now
at_cell c = placed c.args.self.now c.self.inside.len c.args.column c.self.inside.columns.items c.index.result.now c.self.view_is c.self.invariant c.requires.column_in c.index.ensures

pub cell-requires : goal.cell-requires
cell-requires c = let size = (at_index c).size in omega (arith, size)

pub returns : goal.returns
returns c = (at_cell c).at c.args.row (shown c.cell.result) c.requires.row_in c.cell.ensures
