use Rattle.std.proofs.Common.{arith}
use Rattle.csv.specs.Records.{fields_of}
use Rattle.rs_table.proofs.HeaderFacts.{length-columns_left}
use Rattle.rs_table.proofs.schema.read_columns.Goals as goal

pub invariant_of-result : goal.invariant_of-result
invariant_of-result c =
    length-columns_left c.args.column.now (fields_of c.args.header.now) c.loop-index.columns.items c.loop-index.found c.loop-index.index (omega arith) (omega arith) c.if-found.true
    c.loop-index.invariant.made c.loop-index.invariant.any
