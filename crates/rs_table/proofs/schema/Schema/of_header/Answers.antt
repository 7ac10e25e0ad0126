use Rattle.csv.specs.Records.{fields_of}
use Rattle.rs_table.proofs.HeaderFacts.{IfOk-number}
use Rattle.rs_table.proofs.schema.Schema.of_header.Goals as goal

pub returns-clause-number_column : goal.returns-clause-number_column
returns-clause-number_column c = IfOk-number c.args.column.now (fields_of c.read.new.record_) c.read_columns.result c.read_columns.ensures
