-- The numbers rise from row to row.
use Rattle.rs_scan.proofs.ScanFacts.{length-rows_from, table-climbs, table-ids, table-others, table-sums}
use Rattle.rs_scan.proofs.laws.table_rows_can_be_input.Goals as goal

pub returns-clause-count : goal.returns-clause-count
returns-clause-count c = λ block entry rows. length-rows_from block entry 1 rows

pub returns-clause-rising : goal.returns-clause-rising
returns-clause-rising c = λ weights block entry rows is. table-climbs block entry is weights 1 rows

pub returns-clause-sums : goal.returns-clause-sums
returns-clause-sums c = λ weights block entry rows. table-sums weights block entry 1 rows

pub returns-clause-ids : goal.returns-clause-ids
returns-clause-ids c = λ block entry rows is. table-ids block entry is 1 rows

pub returns-clause-others : goal.returns-clause-others
returns-clause-others c = λ block entry rows is. table-others block entry is 1 rows
