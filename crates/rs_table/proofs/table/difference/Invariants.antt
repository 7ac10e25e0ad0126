use Rattle.std.proofs.Common.{◌≡◌, ◌+◌, ◌≤◌, length, drop}
use Rattle.csv.specs.Records.{fields_of}
use Rattle.rs_table.specs.Reading.{difference_from}
use Rattle.rs_table.proofs.table.difference.Given as goal

abbrev pub invariant-loop-index : goal.invariant-loop-index
invariant-loop-index l = record {
  within : l.index ≤ length (fields_of l.header);
  so_far : difference_from (l.index + 1) (drop l.index l.columns) (drop l.index (fields_of l.header)) ≡ difference_from 1 l.columns (fields_of l.header);
}
