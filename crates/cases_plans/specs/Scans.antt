-- Threshold scans that can be asked for a row.
use Rattle.std.specs.Prelude.{◌≡◌}
use Rattle.rs_query.specs.Tables.{size_of}
use Rattle.rs_ta.specs.BlockTests.{BlockTestState, holds_on}
use Rattle.rs_ta.specs.IndexLists.{IndexListsState, index_lists_state}
use Rattle.rs_ta.specs.Lists.{rows_in}
use Rattle.rs_ta.specs.Scans.{HaveWeights, Scan, Stands, input_of}

-- a scan can be asked over rank indexes, with the test of a block
pub record CanBeScanned (scan : Scan) (lists : IndexListsState) (test : BlockTestState) : Type 0 where
  pub stands : Stands (input_of scan (index_lists_state lists) (holds_on test.catalogue test.block)) scan (index_lists_state lists)
  pub have : HaveWeights (input_of scan (index_lists_state lists) (holds_on test.catalogue test.block))
  pub same_rows : size_of test.catalogue test.block 1 ≡ rows_in (index_lists_state lists).lists
