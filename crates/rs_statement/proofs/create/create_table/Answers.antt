use Rattle.std.proofs.Common.{◌∙◌, ap}
use Rattle.rs_value.proofs.ResultFacts.{given-err}
use Rattle.rs_catalog.specs.Catalog.{with_table}
use Rattle.rs_statement.specs.declared.fault.Fault.TheVariants.{Memory}
use Rattle.rs_statement.proofs.StepFacts.{Table-joins, Table-no_memory, Table-refused, Table-unread}
use Rattle.rs_statement.proofs.create.create_table.Goals as goal

pub returns-in_err-schema : goal.returns-in_err-schema
returns-in_err-schema g c = λ beside. rw (given-err c.from_residual.result c.in_err-schema.field-0.0 c.from_residual.ensures) (Table-refused c.args.catalog.now c.args.name.now c.args.file.now _ (record beside { files = g.F.Files.state c.args.files.now }) c.in_err-schema.field-0.0 c.in_err-schema.ensures.gives)

pub returns-in_err-table : goal.returns-in_err-table
returns-in_err-table g c = λ beside. rw (given-err c.from_residual-in_err-table.result c.in_err-table.field-0.0 c.from_residual-in_err-table.ensures) (Table-unread c.args.catalog.now c.args.name.now c.args.file.now _ (record beside { files = g.F.Files.state c.args.files.now })
    c.in_ok-schema.schema c.in_err-table.field-0.0 (g.F.Files.state c.read_table.new.files) c.in_ok-schema.ensures.gives c.in_err-table.ensures)

pub returns-in_err-name : goal.returns-in_err-name
returns-in_err-name g c = λ beside. rw (given-err c.from_residual-in_err-name.result Memory c.from_residual-in_err-name.ensures) (Table-no_memory c.args.catalog.now c.args.name.now c.args.file.now _ (record beside { files = g.F.Files.state c.args.files.now })
    c.in_ok-schema.schema c.in_ok-table.table _ (g.F.Files.state c.read_table.new.files) c.in_ok-schema.ensures.gives c.in_ok-table.ensures)

pub returns : goal.returns
returns g c = λ beside. Table-joins c.args.catalog.now c.args.name.now c.args.file.now _ (record beside { files = g.F.Files.state c.args.files.now })
    c.in_ok-schema.schema c.in_ok-table.table c.add_table.new.self (g.F.Files.state c.read_table.new.files) c.in_ok-schema.ensures.gives c.in_ok-table.ensures
    (c.in_ok-add_table.ensures.ok ∙ ap (λ name. with_table name c.in_ok-table.table c.args.catalog.now) c.in_ok-name.ensures)

pub returns-in_err-add_table : goal.returns-in_err-add_table
returns-in_err-add_table g c = λ beside. rw (given-err c.from_residual-in_err-add_table.result Memory c.from_residual-in_err-add_table.ensures) (Table-no_memory c.args.catalog.now c.args.name.now c.args.file.now _ (record beside { files = g.F.Files.state c.args.files.now })
    c.in_ok-schema.schema c.in_ok-table.table c.add_table.new.self (g.F.Files.state c.read_table.new.files) c.in_ok-schema.ensures.gives c.in_ok-table.ensures)
