-- The rows of the column's table fit its columns.
use Rattle.rs_query.proofs.KindFacts.{HasKinds-table}
use Rattle.rs_query.proofs.block.Block.kind.Goals as goal

pub returns-clause-cells : goal.returns-clause-cells
returns-clause-cells c = HasKinds-table c.args.catalog.now c.args.self.now c.args.column c.table.result c.table.ensures c.schema.ensures.rows_fit
