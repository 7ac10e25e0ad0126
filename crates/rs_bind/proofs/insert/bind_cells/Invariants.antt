use Rattle.std.proofs.Common.{◌≡◌, drop}
use Rattle.rs_table.specs.Appended.{appended}
use Rattle.rs_bind.specs.Inserts.{cell_values}
use Rattle.rs_bind.proofs.insert.bind_cells.Given as goal

abbrev pub invariant-loop-index : goal.invariant-loop-index
invariant-loop-index l = appended l.values.items (cell_values (drop l.index l.columns) (drop l.index l.cells)) ≡ cell_values l.columns l.cells
