use Rattle.csv.specs.Records.{fields_of}
use Rattle.rs_table.proofs.ReadFacts.{AreRead}
use Rattle.rs_table.proofs.table.read_cells.Given as goal

abbrev pub invariant-loop-index : goal.invariant-loop-index
invariant-loop-index l = AreRead l.columns l.row (fields_of l.record_) l.index l.initial.cells l.cells
