use Rattle.rs_catalog.proofs.SnapshotFacts.{HaveRows-all, HaveRows-grown, HaveRows-push, snapshot-all, snapshot-grown, snapshot-with_index, snapshot-with_table}
use Rattle.rs_catalog.proofs.snapshot_laws.snapshots_stay.Goals as goal

pub returns-clause-start : goal.returns-clause-start
returns-clause-start c = λ answer catalogue held. snapshot-all answer catalogue held

pub returns-clause-rows_start : goal.returns-clause-rows_start
returns-clause-rows_start c = λ catalogue. HaveRows-all catalogue.tables

pub returns-clause-tables : goal.returns-clause-tables
returns-clause-tables c = λ sizes catalogue name table have. snapshot-with_table sizes catalogue name table have

pub returns-clause-indexes : goal.returns-clause-indexes
returns-clause-indexes c = λ sizes catalogue def ranking. snapshot-with_index sizes catalogue def ranking

pub returns-clause-rows : goal.returns-clause-rows
returns-clause-rows c = λ sizes catalogue new table rows result before after join have held grows. snapshot-grown sizes catalogue new table rows result before after have held grows

pub returns-clause-rows_tables : goal.returns-clause-rows_tables
returns-clause-rows_tables c = λ sizes catalogue name table have. HaveRows-push sizes catalogue.tables (record { name = name; table = table }) have

pub returns-clause-rows_rows : goal.returns-clause-rows_rows
returns-clause-rows_rows c = λ sizes catalogue new table rows result before after join have grows. HaveRows-grown sizes catalogue new table rows result before after have grows
