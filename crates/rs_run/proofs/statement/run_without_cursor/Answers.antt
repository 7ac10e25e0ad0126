use Rattle.std.proofs.Common.{List, ◌≡◌, ◌∙◌, refl, subst, sym}
use Rattle.rs_syntax.specs.Syntax.{command_of, query_of}
use Rattle.rs_syntax.specs.declared.name.Name.{Name}
use Rattle.rs_syntax.specs.declared.row.RowSyn.{RowSyn}
use Rattle.rs_syntax.specs.declared.statement.Statement.{Statement}
use Rattle.rs_syntax.specs.declared.statement.Statement.TheVariants.{Insert}
use Rattle.rs_expr.specs.Scoring.{Answering}
use Rattle.rs_catalog.specs.Catalog.{CatalogDef}
use Rattle.rs_bind.specs.Inserts.{insert_of}
use Rattle.rs_outside.specs.Files.{Finds, finds_in}
use Rattle.rs_statement.specs.Inserts.{insert_step}
use Rattle.rs_statement.specs.Statements.{Does, analyze_step, explain_step, or_bind_fault, predicate_outcome, refused_or, select_step}
use Rattle.rs_statement.specs.declared.evaluating.Evaluating.{Evaluating}
use Rattle.rs_statement.proofs.StepFacts.{Does-analyze, Does-explain, Does-index, Does-predicate, Does-query, Does-table, of_a_kind}
use Rattle.rs_events.proofs.SteppedFacts.{Stepped-is, Stepped-map, Stepped-still}
use Rattle.rs_run.proofs.statement.run_without_cursor.Goals as goal

pub returns-in-CreateTable : goal.returns-in-CreateTable
returns-in-CreateTable g c =
    let old = g.W.Host.state c.args.host.now in
    let finds = finds_in old.files.contents in
    rw g.met.W.Host.after_files (
    Stepped-map _ (Does finds old.scorer.answer c.args.evaluating c.args.catalog.now (command_of c.args.statement.now)) c.create_table.new.catalog c.create_table.result old _
    (Does-table finds old.scorer.answer c.args.evaluating c.args.catalog.now c.args.statement.now c.in-CreateTable.name c.in-CreateTable.columns c.deref.result.now c.in-CreateTable.file c.in-CreateTable.is
    (c.deref.ensures.value ∙ c.items-columns.ensures))
    (rw c.files.ensures.value at c.create_table.ensures old))

pub returns-in-CreateRankIndex : goal.returns-in-CreateRankIndex
returns-in-CreateRankIndex g c =
    let old = g.W.Host.state c.args.host.now in
    let finds = finds_in old.files.contents in
    rw g.met.W.Host.after_scorer (
    Stepped-is (Does finds old.scorer.answer c.args.evaluating c.args.catalog.now (command_of c.args.statement.now)) _ c.create_index.new.catalog c.create_index.result old _
    (Does-index finds old.scorer.answer c.args.evaluating c.args.catalog.now c.args.statement.now _ _ _ _ _ c.in-CreateRankIndex.is)
    (rw c.scorer.ensures.value at c.create_index.ensures old))

-- what a statement does whose rows join a table
does-insert : (finds : Finds) (answer : Answering) (evaluating : Evaluating) (catalogue : CatalogDef) (s : Statement) (table : Name) (rows : List RowSyn) → s ≡ Insert table rows
    → Does finds answer evaluating catalogue (command_of s) (refused_or (insert_step answer catalogue) (or_bind_fault (insert_of catalogue (command_of s))))
does-insert finds answer evaluating catalogue s table rows e =
    subst (λ s. Does finds answer evaluating catalogue (command_of s) (refused_or (insert_step answer catalogue) (or_bind_fault (insert_of catalogue (command_of s))))) (sym e) refl

pub insert_rows-requires : goal.insert_rows-requires
insert_rows-requires g c = record { form = rw c.in-Insert.is tt; written = c.requires.written }

pub returns-in-Insert : goal.returns-in-Insert
returns-in-Insert g c =
    let old = g.W.Host.state c.args.host.now in
    let finds = finds_in old.files.contents in
    rw g.met.W.Host.after_scorer (
    Stepped-is (Does finds old.scorer.answer c.args.evaluating c.args.catalog.now (command_of c.args.statement.now)) _ c.insert_rows.new.catalog c.insert_rows.result old _
    (does-insert finds old.scorer.answer c.args.evaluating c.args.catalog.now c.args.statement.now _ _ c.in-Insert.is)
    (rw c.scorer-in-Insert.ensures.value at c.insert_rows.ensures.does old))

pub returns-in-CreatePredicate : goal.returns-in-CreatePredicate
returns-in-CreatePredicate g c =
    let old = g.W.Host.state c.args.host.now in
    let finds = finds_in old.files.contents in
    Stepped-still (Does finds old.scorer.answer c.args.evaluating c.args.catalog.now (command_of c.args.statement.now))
    (predicate_outcome c.args.catalog.now c.in-CreatePredicate.name (command_of c.args.statement.now)) c.create_predicate.new.catalog c.create_predicate.result old
    (Does-predicate finds old.scorer.answer c.args.evaluating c.args.catalog.now c.args.statement.now _ _ _ _ _ c.in-CreatePredicate.is) c.create_predicate.ensures

pub unreachable-requires : goal.unreachable-requires
unreachable-requires g c =
    of_a_kind c.args.statement.now c.in_default.not-CreateTable c.in_default.not-CreatePredicate c.in_default.not-CreateRankIndex c.in_default.not-Query c.in_default.not-Explain
    c.in_default.not-ExplainAnalyze c.in_default.not-Insert c.requires.form

pub run_select-requires : goal.run_select-requires
run_select-requires g c = record { written = rw c.in-Query.is at c.requires.written; held = c.requires.held }

pub returns-in-Query : goal.returns-in-Query
returns-in-Query g c =
    let old = g.W.Host.state c.args.host.now in
    let finds = finds_in old.files.contents in
    Stepped-is (Does finds old.scorer.answer c.args.evaluating c.args.catalog.now (command_of c.args.statement.now))
    (select_step c.args.evaluating old.scorer.answer c.args.catalog.now (query_of c.in-Query.select)) c.args.catalog.now c.run_select.result old _
    (Does-query finds old.scorer.answer c.args.evaluating c.args.catalog.now c.args.statement.now c.in-Query.select c.in-Query.is) c.run_select.ensures

pub run_explain-requires : goal.run_explain-requires
run_explain-requires g c = record { written = rw c.in-Explain.is at c.requires.written }

pub run_analyze-requires : goal.run_analyze-requires
run_analyze-requires g c = record { written = rw c.in-ExplainAnalyze.is at c.requires.written; held = c.requires.held }

pub returns-in-Explain : goal.returns-in-Explain
returns-in-Explain g c =
    let old = g.W.Host.state c.args.host.now in
    let finds = finds_in old.files.contents in
    Stepped-is (Does finds old.scorer.answer c.args.evaluating c.args.catalog.now (command_of c.args.statement.now))
    (explain_step c.args.evaluating old.scorer.answer c.args.catalog.now (query_of c.in-Explain.select)) c.args.catalog.now c.run_explain.result old _
    (Does-explain finds old.scorer.answer c.args.evaluating c.args.catalog.now c.args.statement.now c.in-Explain.select c.in-Explain.is) c.run_explain.ensures

pub returns-in-ExplainAnalyze : goal.returns-in-ExplainAnalyze
returns-in-ExplainAnalyze g c =
    let old = g.W.Host.state c.args.host.now in
    let finds = finds_in old.files.contents in
    Stepped-is (Does finds old.scorer.answer c.args.evaluating c.args.catalog.now (command_of c.args.statement.now))
    (analyze_step c.args.evaluating old.scorer.answer c.args.catalog.now (query_of c.in-ExplainAnalyze.select)) c.args.catalog.now c.run_analyze.result old _
    (Does-analyze finds old.scorer.answer c.args.evaluating c.args.catalog.now c.args.statement.now c.in-ExplainAnalyze.select c.in-ExplainAnalyze.is) c.run_analyze.ensures
