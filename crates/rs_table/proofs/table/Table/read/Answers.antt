use Rattle.rs_table.proofs.RelationFacts.{IsTable-from_rows}
use Rattle.rs_table.proofs.table.Table.read.Goals as goal

pub invariant_of-result : goal.invariant_of-result
invariant_of-result c = record {
  table =
      IsTable-from_rows c.args.schema c.read_header.new.records c.in_ok-rows.rows.rows c.columns-columns.ensures.some c.columns-columns.ensures.few
      (rw c.columns-columns.ensures.value at c.in_ok-rows.ensures.rows);
  kinds = rw c.columns-columns.ensures.value at c.in_ok-rows.ensures.kinds;
}
