-- The statements of a script that concern no cursor: what each does, and the catalogue that it leaves.
use Rattle.std.specs.Prelude.{ℕ, ◌≡◌, List, [], ◌∷◌, Option, Some, None, Result, Ok, Err}
use Rattle.rs_rank.specs.declared.answer.Answer.{Answer}
use Rattle.rs_rank.specs.declared.scored_row.ScoredRow.{ScoredRow}
use Rattle.rs_syntax.specs.declared.name.Name.{Name}
use Rattle.rs_syntax.specs.Syntax.{Command, CreateTable, CreatePredicate, CreateRankIndex, Explain, ExplainAnalyze, Insert}
use Rattle.rs_syntax.specs.Syntax as syntax
use Rattle.rs_table.specs.Column.{Column}
use Rattle.rs_value.specs.Results.{◌>>=◌}
use Rattle.rs_table.specs.Reading.{table_of}
use Rattle.rs_expr.specs.InOrder.{Inquiry}
use Rattle.rs_expr.specs.Scoring.{Answering}
use Rattle.rs_catalog.specs.Catalog.{CatalogDef, room_for, with_index, with_predicate, with_table}
use Rattle.rs_catalog.specs.Indexes.{making, predicate_for}
use Rattle.rs_catalog.specs.declared.index.IndexDef.{IndexDef}
use Rattle.rs_catalog.specs.declared.index.IndexFault.{IndexFault}
use Rattle.rs_catalog.specs.declared.room.RoomFault.{RoomFault}
use Rattle.rs_catalog.specs.declared.room.What.{What}
use Rattle.rs_catalog.specs.declared.room.What.TheVariants as what
use Rattle.rs_bind.specs.Indexes.{index_def_of}
use Rattle.rs_bind.specs.Inserts.{insert_of}
use Rattle.rs_bind.specs.Names.{columns_of}
use Rattle.rs_bind.specs.Predicates.{predicate_of}
use Rattle.rs_bind.specs.Queries.{bound_query}
use Rattle.rs_typing.specs.declared.fault.BindFault.{BindFault}
use Rattle.rs_typing.specs.declared.fault.BindFault.TheVariants as bind
use Rattle.rs_query.specs.Answers.{predicate_at}
use Rattle.rs_query.specs.Views.{all_rows}
use Rattle.rs_query.specs.declared.query.Query.{Query}
use Rattle.rs_plain.specs.Plain.{evaluation_of}
use Rattle.rs_plain.specs.declared.fault.PlainFault.{PlainFault}
use Rattle.rs_plain.specs.declared.fault.PlainFault.TheVariants as plain
use Rattle.rs_plan.specs.Counts.{counts_of_plan}
use Rattle.rs_enum.specs.Texts.{text_of}
use Rattle.rs_exec.specs.Asking.{world_of}
use Rattle.rs_statement.specs.declared.evaluating.Evaluating.{Evaluating}
use Rattle.rs_statement.specs.declared.evaluating.Evaluating.TheVariants.{Plainly, Planned}
use Rattle.rs_statement.specs.declared.sampling.Sampling.{Sampling}
use Rattle.rs_statement.specs.declared.fault.Fault.{Fault}
use Rattle.rs_statement.specs.declared.fault.Fault.TheVariants.{BadScore, Memory, Probe, Script}
use Rattle.rs_statement.specs.declared.script_fault.ScriptFault.TheVariants.{Bind, Room}
use Rattle.rs_statement.specs.Content.{content_of, or_table_fault, table_limit}
use Rattle.rs_statement.specs.Lines.{rank_lines}
use Rattle.rs_statement.specs.Faults.{or_index_fault}
use Rattle.rs_statement.specs.Inserts.{insert_step}
use Rattle.rs_statement.specs.Planned.{asks_in_all, cards_for, plan_for, planned_step}
use Rattle.rs_events.specs.Events.{Fetch, calls_in}
use Rattle.rs_outside.specs.Files.{Finds}
use Rattle.rs_statement.specs.Sampled.{sample_step}
use Rattle.rs_statement.specs.Steps.{Step}
use Rattle.rs_events.specs.Sequence.{inquiry_step, lines_step, silent, still, then_step}

-- a rule that a statement breaks ends the run
abbrev pub bind_fault : BindFault → Fault
bind_fault (bind.At why at) = Script (Bind why at.start)
bind_fault bind.Memory = Memory

abbrev pub or_bind_fault : {A : Type 0} → Result A BindFault → Result A Fault
or_bind_fault (Ok a) = Ok a
or_bind_fault (Err why) = Err (bind_fault why)

-- so does a name for which the catalogue has no room, at the name
abbrev pub or_room_fault : Name → Result (Unit {0}) RoomFault → Result (Unit {0}) Fault
or_room_fault name (Ok room) = Ok room
or_room_fault name (Err why) = Err (Script (Room why name.at.start))

-- what a statement binds, where the catalogue has room for its name
abbrev pub with_room : {A : Type 0} → CatalogDef → What → Name → Result A BindFault → Result A Fault
with_room catalogue what name bound = do
  a ← or_bind_fault bound
  room ← or_room_fault name (room_for what name.text catalogue)
  Ok a

-- the table of the file joins
abbrev pub table_step : CatalogDef → Name → List ℕ → List Column → Option (List ℕ) → Step CatalogDef
table_step catalogue name file columns there = record {
  events = Fetch file ∷ [];
  outcome = (do
    bytes ← content_of table_limit file there
    table ← or_table_fault file (table_of columns bytes)
    Ok (with_table name.text table catalogue));
}

-- the index joins, with its rows by score; a bad score of a row ends the run
abbrev pub index_outcome : CatalogDef → IndexDef → Result (List ScoredRow) IndexFault → Result CatalogDef Fault
index_outcome catalogue def ranking = or_index_fault (predicate_for catalogue def).name ranking >>= λ ranking. Ok (with_index def ranking catalogue)

abbrev pub index_step : Answering → CatalogDef → IndexDef → Step CatalogDef
index_step answer catalogue def =
    let made = making answer catalogue def in
    record { events = calls_in made; outcome = index_outcome catalogue def made.outcome }

-- the predicate joins
abbrev pub predicate_outcome : CatalogDef → Name → Command → Result CatalogDef Fault
predicate_outcome catalogue name command =
    with_room catalogue what.Predicate name (predicate_of command) >>= λ predicate. Ok (with_predicate predicate catalogue)

-- the lines of an answer, the first one at rank 1; where a fault came, there is none
abbrev pub answer_lines : Result (List Answer) PlainFault → List (List ℕ)
answer_lines (Ok rows) = rank_lines 1 rows
answer_lines (Err fault) = []

-- the fault of a run whose query has no answer
abbrev pub query_fault : CatalogDef → PlainFault → Fault
query_fault catalogue (plain.BadScore predicate ids got max) = BadScore (predicate_at catalogue predicate).name ids.rows got max
query_fault catalogue (plain.Probe predicate) = Probe (predicate_at catalogue predicate).name
query_fault catalogue plain.Memory = Memory

-- a query leaves the catalogue as it is
abbrev pub query_outcome : CatalogDef → Result (List Answer) PlainFault → Result CatalogDef Fault
query_outcome catalogue (Ok rows) = Ok catalogue
query_outcome catalogue (Err fault) = Err (query_fault catalogue fault)

-- a query: all its calls, and then its rows, each as one line
abbrev pub evaluation_step : CatalogDef → Inquiry (List Answer) PlainFault → Step CatalogDef
evaluation_step catalogue evaluated = inquiry_step answer_lines (query_outcome catalogue) evaluated

-- a query is evaluated plainly, which scores every combination of rows, or by its plan, which its sample decides. Each query takes its sample by the same
-- seed, so the queries before it change nothing
abbrev pub query_step : Evaluating → Answering → CatalogDef → Query → Step CatalogDef
query_step Plainly answer catalogue query = evaluation_step catalogue (evaluation_of answer catalogue query (all_rows catalogue query))
query_step (Planned sampling) answer catalogue query =
    then_step (sample_step catalogue sampling query) (planned_step (world_of catalogue answer query) (plan_for answer catalogue sampling query))

-- the query has to be bound, and nothing is told of it
abbrev pub explain_outcome : CatalogDef → syntax.Query → Result CatalogDef Fault
explain_outcome catalogue query = or_bind_fault (bound_query catalogue query) >>= λ bound. Ok catalogue

-- a statement that is refused, or one that goes on with what it binds
abbrev pub refused_or : {A S : Type 0} → (A → Step S) → Result A Fault → Step S
refused_or does (Ok a) = does a
refused_or does (Err fault) = still (Err fault)

abbrev pub select_step : Evaluating → Answering → CatalogDef → syntax.Query → Step CatalogDef
select_step evaluating answer catalogue query =
    refused_or (query_step evaluating answer catalogue) (or_bind_fault (bound_query catalogue query))

-- EXPLAIN of a query that is bound: its sample is taken, and then the text of its plan is put, in one put
abbrev pub explained_step : Answering → CatalogDef → Sampling → Query → Step CatalogDef
explained_step answer catalogue sampling query =
    then_step (sample_step catalogue sampling query)
    (lines_step (text_of catalogue query (cards_for answer catalogue sampling query) (plan_for answer catalogue sampling query) None ∷ []) catalogue)

-- EXPLAIN: plainly, no plan is told of
abbrev pub explain_step : Evaluating → Answering → CatalogDef → syntax.Query → Step CatalogDef
explain_step Plainly answer catalogue query = still (explain_outcome catalogue query)
explain_step (Planned sampling) answer catalogue query =
    refused_or (explained_step answer catalogue sampling) (or_bind_fault (bound_query catalogue query))

-- EXPLAIN ANALYZE of a query that is bound: its sample is taken, its plan is asked as the query's would be, but no row is put, and then the text of the
-- plan is put, with what each node has done by then
abbrev pub analyzed_step : Answering → CatalogDef → Sampling → Query → Step CatalogDef
analyzed_step answer catalogue sampling query =
    let w = world_of catalogue answer query in
    let tree = plan_for answer catalogue sampling query in
    then_step (sample_step catalogue sampling query)
    (then_step (silent (planned_step w tree))
    (lines_step (text_of catalogue query (cards_for answer catalogue sampling query) tree (Some (counts_of_plan w tree (asks_in_all w tree))) ∷ []) catalogue))

-- EXPLAIN ANALYZE: plainly, no plan is told of
abbrev pub analyze_step : Evaluating → Answering → CatalogDef → syntax.Query → Step CatalogDef
analyze_step Plainly answer catalogue query = still (explain_outcome catalogue query)
analyze_step (Planned sampling) answer catalogue query =
    refused_or (analyzed_step answer catalogue sampling) (or_bind_fault (bound_query catalogue query))

-- the fetch of a table's file, where the statement isn't refused before it
abbrev pub DoesTable : Finds → CatalogDef → Name → List ℕ → Result (List Column) Fault → Step CatalogDef → Type 0
DoesTable finds catalogue name file (Err fault) step = step ≡ still (Err fault)
DoesTable finds catalogue name file (Ok columns) step = (there : Option (List ℕ)) × finds file there × (step ≡ table_step catalogue name file columns there)

-- what a statement does that is of no cursor: first its names and types count, then whether there is room for its name, and then what it
-- does. Those that are of a cursor are none of these
abbrev pub Does : Finds → Answering → Evaluating → CatalogDef → Command → Step CatalogDef → Type 0
Does finds answer evaluating catalogue (CreateTable name columns file) step =
    DoesTable finds catalogue name file (with_room catalogue what.Table name (columns_of columns)) step
Does finds answer evaluating catalogue (CreatePredicate name params max cost formula) step =
    step ≡ still (predicate_outcome catalogue name (CreatePredicate name params max cost formula))
Does finds answer evaluating catalogue (CreateRankIndex name table predicate args at) step =
    step ≡ refused_or (index_step answer catalogue) (with_room catalogue what.Index name (index_def_of catalogue (CreateRankIndex name table predicate args at)))
Does finds answer evaluating catalogue (syntax.Ask query) step = step ≡ select_step evaluating answer catalogue query
Does finds answer evaluating catalogue (Explain query) step = step ≡ explain_step evaluating answer catalogue query
Does finds answer evaluating catalogue (ExplainAnalyze query) step = step ≡ analyze_step evaluating answer catalogue query
Does finds answer evaluating catalogue (Insert table rows) step =
    step ≡ refused_or (insert_step answer catalogue) (or_bind_fault (insert_of catalogue (Insert table rows)))
Does finds answer evaluating catalogue _ step = ⊥

-- a statement that is neither EXPLAIN nor EXPLAIN ANALYZE
abbrev pub IsNoExplain : Command → Type 0
IsNoExplain (Explain query) = ⊥
IsNoExplain (ExplainAnalyze query) = ⊥
IsNoExplain command = Unit {0}
