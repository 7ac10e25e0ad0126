use Rattle.std.proofs.Common.{◌≡◌, ◌⊎◌, sym, subst}
use Rattle.rs_value.proofs.ResultFacts.{given-err}
use Rattle.rs_syntax.specs.Syntax.{command_of}
use Rattle.rs_bind.specs.Inserts.{insert_of}
use Rattle.rs_catalog.specs.Catalog.{CatalogDef}
use Rattle.rs_statement.specs.declared.fault.Fault.TheVariants.{Memory}
use Rattle.rs_statement.specs.Inserts.{NamesIndex, grow_fault, insert_step}
use Rattle.rs_statement.specs.Statements.{or_bind_fault}
use Rattle.rs_statement.proofs.InsertSteps.{Rows-joined, Rows-kept, Rows-named, Rows-refused}
use Rattle.rs_statement.proofs.StepFacts.{Stepped-bound, Stepped-refused}
use Rattle.rs_statement.proofs.insert.insert_rows.Goals as goal

pub returns-in_err-table-clause-does : goal.returns-in_err-table-clause-does
returns-in_err-table-clause-does g c = λ beside. rw (given-err c.from_residual.result c.in_err-table.field-0.0 c.from_residual.ensures)
    (Stepped-refused (insert_step (g.S.Scorer.state c.args.scorer.now).answer c.args.catalog.now) (or_bind_fault (insert_of c.args.catalog.now (command_of c.args.statement.now)))
    c.in_err-table.field-0.0 c.args.catalog.now (record beside { scorer = g.S.Scorer.state c.args.scorer.now }) c.in_err-table.ensures.gives)

-- the rows didn't join, so the catalogue is as it was
pub grow_fault-requires : goal.grow_fault-requires
grow_fault-requires g c =
    subst (λ (catalogue : CatalogDef). NamesIndex catalogue c.in-Err.why)
    (sym (Rows-kept c.args.catalog.now c.add_rows.new.self c.in_ok-table.table c.in_ok-table.rows.items (g.S.Scorer.state c.args.scorer.now) (g.S.Scorer.state c.add_rows.new.scorer) c.in-Err.why c.in-Err.ensures))
    (Rows-named c.args.catalog.now c.add_rows.new.self c.in_ok-table.table c.in_ok-table.rows.items (g.S.Scorer.state c.args.scorer.now) (g.S.Scorer.state c.add_rows.new.scorer) c.in-Err.why c.in-Err.ensures)

pub returns-in-Ok-clause-does : goal.returns-in-Ok-clause-does
returns-in-Ok-clause-does g c = λ beside.
    Stepped-bound (insert_step (g.S.Scorer.state c.args.scorer.now).answer c.args.catalog.now) (or_bind_fault (insert_of c.args.catalog.now (command_of c.args.statement.now)))
    (c.in_ok-table.table, c.in_ok-table.rows.items) c.add_rows.new.self _
    (record beside { scorer = g.S.Scorer.state c.args.scorer.now }) (record beside { scorer = g.S.Scorer.state c.add_rows.new.scorer }) c.in_ok-table.ensures.gives
    (Rows-joined c.args.catalog.now c.add_rows.new.self c.in_ok-table.table c.in_ok-table.rows.items (record beside { scorer = g.S.Scorer.state c.args.scorer.now })
    (g.S.Scorer.state c.add_rows.new.scorer) c.in-Ok.ensures)

pub returns-in-Err-clause-does : goal.returns-in-Err-clause-does
returns-in-Err-clause-does g c = λ beside.
    let old = record beside { scorer = g.S.Scorer.state c.args.scorer.now } in
    Stepped-bound (insert_step (g.S.Scorer.state c.args.scorer.now).answer c.args.catalog.now) (or_bind_fault (insert_of c.args.catalog.now (command_of c.args.statement.now)))
    (c.in_ok-table.table, c.in_ok-table.rows.items) c.add_rows.new.self _ old (record beside { scorer = g.S.Scorer.state c.add_rows.new.scorer }) c.in_ok-table.ensures.gives
    (Rows-refused c.args.catalog.now c.add_rows.new.self c.in_ok-table.table c.in_ok-table.rows.items old (g.S.Scorer.state c.add_rows.new.scorer) c.in-Err.why c.in-Err.ensures c.grow_fault.result
    (subst (λ (catalogue : CatalogDef). (c.grow_fault.result ≡ grow_fault catalogue c.in-Err.why) ⊎ (c.grow_fault.result ≡ Memory))
    (Rows-kept c.args.catalog.now c.add_rows.new.self c.in_ok-table.table c.in_ok-table.rows.items (g.S.Scorer.state c.args.scorer.now) (g.S.Scorer.state c.add_rows.new.scorer) c.in-Err.why c.in-Err.ensures) c.grow_fault.ensures))
