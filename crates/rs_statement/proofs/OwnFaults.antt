-- The faults that the statements of a script can end with: never that a put failed or a call of the scorer.
use Rattle.std.proofs.Common.{ℕ, ℤ, ◌≡◌, ◌+◌, ◌==◌, List, [], ◌∷◌, Some, None, Bool, true, false, refl, sym, subst, length, if◌then◌else◌}
use Rattle.std.specs.Prelude.{zero, suc, Option, Result, Ok, Err}
use Rattle.std.specs.Str.{bytes_eq}
use Rattle.rs_lex.specs.declared.token.Span.{Span}
use Rattle.rs_value.specs.declared.value.Value.{Value}
use Rattle.rs_outside.specs.declared.files.FetchFault.{FetchFault}
use Rattle.rs_events.specs.Fetching.{fetched_bytes}
use Rattle.rs_table.specs.Column.{Column}
use Rattle.rs_value.specs.Results.{◌>>=◌}
use Rattle.rs_table.specs.Reading.{table_of}
use Rattle.rs_table.specs.declared.fault.TableFault.{TableFault}
use Rattle.rs_rank.specs.declared.scored_row.ScoredRow.{ScoredRow}
use Rattle.rs_expr.specs.InOrder.{Inquiry, and_then}
use Rattle.rs_expr.specs.Predicates.{PredicateDef}
use Rattle.rs_expr.specs.Scores.{as_score, is_score}
use Rattle.rs_syntax.specs.Syntax.{Command, CreateTable, CreatePredicate, CreateRankIndex, Explain, ExplainAnalyze}
use Rattle.rs_syntax.specs.Syntax as syntax
use Rattle.rs_syntax.specs.declared.name.Name.{Name}
use Rattle.rs_catalog.specs.Catalog.{CatalogDef, RankIndex, room_for, with_index, with_predicate, with_table}
use Rattle.rs_catalog.specs.Growing.{comes_to, growing, growing_index, in_turn, scoring_new, scorings_new, with_entries}
use Rattle.rs_catalog.specs.Snapshot.{snapshot}
use Rattle.rs_catalog.specs.Indexes as indexes
use Rattle.rs_catalog.specs.declared.growth.GrowFault.{GrowFault}
use Rattle.rs_catalog.specs.declared.growth.GrowFault.TheVariants as grow
use Rattle.rs_catalog.specs.declared.index.BoundArg.{BoundArg}
use Rattle.rs_catalog.specs.declared.index.IndexDef.{IndexDef}
use Rattle.rs_catalog.specs.declared.index.IndexFault.{IndexFault}
use Rattle.rs_catalog.specs.declared.index.IndexFault.TheVariants as index
use Rattle.rs_catalog.specs.declared.room.RoomFault.{RoomFault}
use Rattle.rs_catalog.specs.declared.room.What.{What}
use Rattle.rs_catalog.specs.declared.room.What.TheVariants as what
use Rattle.rs_bind.specs.Indexes.{index_def_of}
use Rattle.rs_bind.specs.Inserts.{insert_of}
use Rattle.rs_bind.specs.Names.{columns_of}
use Rattle.rs_bind.specs.Predicates.{predicate_of}
use Rattle.rs_bind.specs.Queries.{bound_query, count_of}
use Rattle.rs_query.specs.declared.query.Query.{Query}
use Rattle.rs_query.specs.Views.{View, all_rows}
use Rattle.rs_query.specs.Questions.{Question, first_of, is_bad}
use Rattle.rs_plain.specs.Plain.{evaluation_of, questions_of}
use Rattle.rs_plain.specs.declared.fault.PlainFault.{PlainFault}
use Rattle.rs_plain.specs.declared.fault.PlainFault.TheVariants as plain
use Rattle.rs_rank.specs.declared.answer.Answer.{Answer}
use Rattle.rs_query.specs.Answers.{limit_of}
use Rattle.rs_plan.specs.Calls.{questions_of_ask}
use Rattle.rs_plan.specs.Lists as plan
use Rattle.rs_plan.specs.Lists.{list_of_plan}
use Rattle.rs_plan.specs.Trees.{PlanTree}
use Rattle.rs_exec.specs.Asking.{world_of}
use Rattle.rs_exec.specs.Cursors.{next_answer}
use Rattle.rs_exec.specs.declared.fault.ExecFault.{ExecFault}
use Rattle.rs_exec.specs.declared.fault.ExecFault.TheVariants as exec
use Rattle.rs_typing.specs.declared.fault.BindFault.{BindFault}
use Rattle.rs_typing.specs.declared.fault.BindFault.TheVariants as bind
use Rattle.rs_statement.specs.declared.sampling.Sampling.{Sampling}
use Rattle.rs_statement.specs.declared.fault.Fault.{Fault}
use Rattle.rs_statement.specs.declared.fault.Fault.TheVariants.{Memory, Write, Read, Table, BadScore, Probe, Script, Session}
use Rattle.rs_statement.specs.Content.{content_of, or_read_fault, or_table_fault, table_limit}
use Rattle.rs_expr.specs.Scoring.{Answering}
use Rattle.rs_events.specs.Events.{Event}
use Rattle.rs_outside.specs.Files.{Finds}
use Rattle.rs_statement.specs.Steps.{Run, Step}
use Rattle.rs_statement.specs.Planned.{ask_count, ask_outcome, ask_step, asks_from, asks_in_all, next_asks, plan_for, planned_step}
use Rattle.rs_events.specs.Sequence.{RunOf, RunsOn, silent, still, then_step}
use Rattle.rs_statement.specs.Faults.{or_index_fault}
use Rattle.rs_statement.specs.Inserts.{grow_outcome, insert_step}
use Rattle.rs_statement.specs.declared.evaluating.Evaluating.{Evaluating}
use Rattle.rs_statement.specs.declared.evaluating.Evaluating.TheVariants.{Planned, Plainly}
use Rattle.rs_statement.specs.Statements.{Does, DoesTable, analyze_step, analyzed_step, explain_outcome, explain_step, explained_step, index_step, or_bind_fault, or_room_fault, query_outcome, query_step, refused_or, select_step, table_step, with_room}
use Rattle.rs_statement.specs.Named.{or_session_fault}
use Rattle.rs_statement.specs.Session.{ByPlan, DoesInSession, OpenCursor, Ready, Source, State, beside_cursors, cursor_named, declare_step, declared_query, fetch_step, fetched_cursor, fetched_from, fetched_step, opened_step, ready_outcome, room_for_cursor, with_asks, without_cursor}
use Rattle.rs_statement.proofs.AnalyzeSteps.{analyzed_lines}

-- the faults of `top` and of statements
unfoldable pub IsOwn : Fault → Type 0
IsOwn Memory = Unit {0}
IsOwn (Read name why) = Unit {0}
IsOwn Write = ⊥
IsOwn (Table name why) = Unit {0}
IsOwn (BadScore predicate row got max) = Unit {0}
IsOwn (Probe predicate) = ⊥
IsOwn (Script why) = Unit {0}
IsOwn (Session why name) = Unit {0}

-- something, or a fault of their own
unfoldable pub Own : {A : Type 0} → Result A Fault → Type 0
Own (Ok a) = Unit {0}
Own (Err fault) = IsOwn fault

-- an end without a fault, or with one of their own
unfoldable pub OwnEnd : Option Fault → Type 0
OwnEnd None = Unit {0}
OwnEnd (Some fault) = IsOwn fault

pub Own-then : {A B : Type 0} (r : Result A Fault) (next : A → Result B Fault) → Own r → ((a : A) → Own (next a)) → Own (r >>= next)
unfolding Own
Own-then (Ok a) next own goes = goes a
Own-then (Err fault) next own goes = own

Own-read : {A : Type 0} (name : List ℕ) (r : Result A FetchFault) → Own (or_read_fault name r)
unfolding Own IsOwn
Own-read name (Ok a) = tt
Own-read name (Err why) = tt

pub Own-content : (limit : ℕ) (name : List ℕ) (there : Option (List ℕ)) → Own (content_of limit name there)
Own-content limit name there = Own-read name (fetched_bytes limit there)

pub Own-table : {A : Type 0} (name : List ℕ) (r : Result A TableFault) → Own (or_table_fault name r)
unfolding Own IsOwn
Own-table name (Ok a) = tt
Own-table name (Err why) = tt

-- what a statement binds
Own-bind : {A : Type 0} (r : Result A BindFault) → Own (or_bind_fault r)
unfolding Own IsOwn
Own-bind (Ok a) = tt
Own-bind (Err (bind.At why at)) = tt
Own-bind (Err bind.Memory) = tt

Own-room : (name : Name) (r : Result (Unit {0}) RoomFault) → Own (or_room_fault name r)
unfolding Own IsOwn
Own-room name (Ok room) = tt
Own-room name (Err why) = tt

Own-with_room : {A : Type 0} (catalogue : CatalogDef) (what : What) (name : Name) (bound : Result A BindFault) → Own (with_room catalogue what name bound)
unfolding Own
Own-with_room catalogue what name bound =
    Own-then (or_bind_fault bound) (λ a. or_room_fault name (room_for what name.text catalogue) >>= (λ room. Ok a)) (Own-bind bound)
    (λ a. Own-then (or_room_fault name (room_for what name.text catalogue)) (λ room. Ok a) (Own-room name (room_for what name.text catalogue)) (λ room. tt))

-- making an index ends with its rows or with a bad score
abbrev pub OwnRanking : Result (List ScoredRow) IndexFault → Type 0
OwnRanking (Ok ranking) = Unit {0}
OwnRanking (Err (index.BadScore row got max)) = Unit {0}
OwnRanking (Err index.Probe) = ⊥
OwnRanking (Err index.Memory) = ⊥

pub OwnRanking-scored : (answer : List Value → ℤ) (max row : ℕ) (rows : List (List Value)) → OwnRanking (indexes.scored_from answer max row rows)
OwnRanking-scored answer max row [] = tt
OwnRanking-scored answer max row (values ∷ rest) =
    go (is_score max (answer values)) refl (indexes.scored_from answer max (row + 1) rest) refl (OwnRanking-scored answer max (row + 1) rest) where
      go : (b : Bool) → is_score max (answer values) ≡ b → (others : Result (List ScoredRow) IndexFault) → indexes.scored_from answer max (row + 1) rest ≡ others → OwnRanking others
          → OwnRanking (indexes.scored_from answer max row (values ∷ rest))
      go true score (Ok entries) e own = rw (score, e) tt
      go true score (Err fault) e own = rw (score, e) own
      go false score others e own = rw score tt

OwnRanking-stable : (scored : Result (List ScoredRow) IndexFault) → OwnRanking scored → OwnRanking (indexes.ranking_of scored)
OwnRanking-stable (Ok entries) own = tt
OwnRanking-stable (Err fault) own = own

pub Own-ranking : (predicate : List ℕ) (ranking : Result (List ScoredRow) IndexFault) → OwnRanking ranking → Own (or_index_fault predicate ranking)
unfolding Own IsOwn
Own-ranking predicate (Ok ranking) own = tt
Own-ranking predicate (Err (index.BadScore row got max)) own = tt
Own-ranking predicate (Err index.Probe) own = own
Own-ranking predicate (Err index.Memory) own = tt

Own-index_step : (answer : Answering) (catalogue : CatalogDef) (def : IndexDef) → Own (index_step answer catalogue def).outcome
unfolding Own
Own-index_step answer catalogue def =
    Own-then (or_index_fault (indexes.predicate_for catalogue def).name (indexes.making answer catalogue def).outcome) (λ ranking. Ok (with_index def ranking catalogue))
    (Own-ranking (indexes.predicate_for catalogue def).name (indexes.making answer catalogue def).outcome
    (OwnRanking-stable _ (OwnRanking-scored (λ row. answer (indexes.predicate_for catalogue def) (indexes.args_in def.args row)) (indexes.predicate_for catalogue def).max 1 (indexes.rows_for catalogue def))))
    (λ ranking. tt)

-- a query ends with its rows or with a bad score
abbrev OwnAnswer : Result (List Answer) PlainFault → Type 0
OwnAnswer (Ok rows) = Unit {0}
OwnAnswer (Err (plain.BadScore predicate ids got max)) = Unit {0}
OwnAnswer (Err (plain.Probe predicate)) = ⊥
OwnAnswer (Err plain.Memory) = ⊥

OwnAnswer-evaluation : (answer : Answering) (catalogue : CatalogDef) (query : Query) (view : View) → OwnAnswer (evaluation_of answer catalogue query view).outcome
OwnAnswer-evaluation answer catalogue query view = go (first_of (is_bad answer catalogue) (questions_of catalogue query view)) refl where
  go : (bad : Option Question) → first_of (is_bad answer catalogue) (questions_of catalogue query view) ≡ bad → OwnAnswer (evaluation_of answer catalogue query view).outcome
  go None e = rw e tt
  go (Some question) e = rw e tt

Own-query : (catalogue : CatalogDef) (outcome : Result (List Answer) PlainFault) → OwnAnswer outcome → Own (query_outcome catalogue outcome)
unfolding Own IsOwn
Own-query catalogue (Ok rows) own = tt
Own-query catalogue (Err (plain.BadScore predicate ids got max)) own = tt
Own-query catalogue (Err (plain.Probe predicate)) own = own
Own-query catalogue (Err plain.Memory) own = tt

-- so does a query by its plan: each of its asks ends with a row or none, or with a bad score
abbrev OwnGiven : Result (Option Answer) ExecFault → Type 0
OwnGiven (Ok given) = Unit {0}
OwnGiven (Err (exec.BadScore predicate ids got max)) = Unit {0}
OwnGiven (Err (exec.Probe predicate)) = ⊥
OwnGiven (Err exec.Memory) = ⊥
OwnGiven (Err exec.Broken) = ⊥

OwnGiven-ask : (w : plan.World) (tree : PlanTree) (n : ℕ) → OwnGiven (next_answer w tree n).outcome
OwnGiven-ask w tree n = go (first_of (is_bad w.answer w.catalogue) (questions_of_ask w 1 tree (suc n))) refl where
  go : (bad : Option Question) → first_of (is_bad w.answer w.catalogue) (questions_of_ask w 1 tree (suc n)) ≡ bad → OwnGiven (next_answer w tree n).outcome
  go None e = rw e tt
  go (Some question) e = rw e tt

Own-ask : (catalogue : CatalogDef) (outcome : Result (Option Answer) ExecFault) → OwnGiven outcome → Own (ask_outcome catalogue outcome)
unfolding Own IsOwn
Own-ask catalogue (Ok given) own = tt
Own-ask catalogue (Err (exec.BadScore predicate ids got max)) own = tt
Own-ask catalogue (Err (exec.Probe predicate)) own = own
Own-ask catalogue (Err exec.Memory) own = tt
Own-ask catalogue (Err exec.Broken) own = tt

Own-then_step : {S T : Type 0} (first : Step S) (next : Step T) → Own first.outcome → Own next.outcome → Own (then_step first next).outcome
unfolding Own
Own-then_step {S} first next own later = go first.outcome own where
  go : (outcome : Result S Fault) → Own outcome → Own (then_step (record first { outcome = outcome }) next).outcome
  go (Ok state) own = later
  go (Err fault) own = own

Own-asks : (w : plan.World) (tree : PlanTree) (n count : ℕ) → Own (asks_from w tree n count).outcome
unfolding Own
Own-asks w tree n zero = tt
Own-asks w tree n (suc count) =
    Own-then_step (ask_step w tree n) (asks_from w tree (suc n) count)
    (Own-ask w.catalogue (next_answer w tree n).outcome (OwnGiven-ask w tree n)) (Own-asks w tree (suc n) count)

Own-query_step : (evaluating : Evaluating) (answer : Answering) (catalogue : CatalogDef) (query : Query) → Own (query_step evaluating answer catalogue query).outcome
Own-query_step Plainly answer catalogue query =
    Own-query catalogue (evaluation_of answer catalogue query (all_rows catalogue query)).outcome (OwnAnswer-evaluation answer catalogue query (all_rows catalogue query))
Own-query_step (Planned sampling) answer catalogue query =
    let w = world_of catalogue answer query in
    let tree = plan_for answer catalogue sampling query in
    Own-asks w tree 0 (ask_count (limit_of query) (length (list_of_plan w tree)))

Own-explain : (catalogue : CatalogDef) (query : syntax.Query) → Own (explain_outcome catalogue query)
unfolding Own
Own-explain catalogue query = Own-then (or_bind_fault (bound_query catalogue query)) (λ bound. Ok catalogue) (Own-bind (bound_query catalogue query)) (λ bound. tt)

-- a statement
Own-refused : {A S : Type 0} (does : A → Step S) (r : Result A Fault) → Own r → ((a : A) → Own (does a).outcome) → Own (refused_or does r).outcome
unfolding Own
Own-refused does (Ok a) own goes = goes a
Own-refused does (Err fault) own goes = own

Own-explain_step : (evaluating : Evaluating) (answer : Answering) (catalogue : CatalogDef) (query : syntax.Query) → Own (explain_step evaluating answer catalogue query).outcome
unfolding Own IsOwn
Own-explain_step Plainly answer catalogue query = Own-explain catalogue query
Own-explain_step (Planned sampling) answer catalogue query = Own-refused (explained_step answer catalogue sampling) _ (Own-bind (bound_query catalogue query)) (λ query. tt)

Own-analyzed : (answer : Answering) (catalogue : CatalogDef) (sampling : Sampling) (query : Query) → Own (analyzed_step answer catalogue sampling query).outcome
unfolding Own
Own-analyzed answer catalogue sampling query =
    let w = world_of catalogue answer query in
    let tree = plan_for answer catalogue sampling query in
    Own-then_step (silent (planned_step w tree)) (analyzed_lines answer catalogue sampling query) (Own-asks w tree 0 (asks_in_all w tree)) tt

Own-analyze_step : (evaluating : Evaluating) (answer : Answering) (catalogue : CatalogDef) (query : syntax.Query) → Own (analyze_step evaluating answer catalogue query).outcome
unfolding Own IsOwn
Own-analyze_step Plainly answer catalogue query = Own-explain catalogue query
Own-analyze_step (Planned sampling) answer catalogue query =
    Own-refused (analyzed_step answer catalogue sampling) _ (Own-bind (bound_query catalogue query)) (Own-analyzed answer catalogue sampling)

Own-select : (evaluating : Evaluating) (answer : Answering) (catalogue : CatalogDef) (query : syntax.Query) → Own (select_step evaluating answer catalogue query).outcome
unfolding Own IsOwn
Own-select evaluating answer catalogue query =
    Own-refused (query_step evaluating answer catalogue) _ (Own-bind (bound_query catalogue query)) (Own-query_step evaluating answer catalogue)

Own-table_step : (catalogue : CatalogDef) (name : Name) (file : List ℕ) (columns : List Column) (there : Option (List ℕ)) → Own (table_step catalogue name file columns there).outcome
unfolding Own
Own-table_step catalogue name file columns there =
    Own-then (content_of table_limit file there) (λ bytes. or_table_fault file (table_of columns bytes) >>= (λ table. Ok (with_table name.text table catalogue)))
    (Own-content table_limit file there)
    (λ bytes. Own-then (or_table_fault file (table_of columns bytes)) (λ table. Ok (with_table name.text table catalogue)) (Own-table file (table_of columns bytes)) (λ table. tt))

Own-does_table : (finds : Finds) (catalogue : CatalogDef) (name : Name) (file : List ℕ) (columns : Result (List Column) Fault) (step : Step CatalogDef) → Own columns
    → DoesTable finds catalogue name file columns step → Own step.outcome
unfolding Own
Own-does_table finds catalogue name file (Err fault) step own does = subst (λ s. Own s.outcome) (sym does) own
Own-does_table finds catalogue name file (Ok columns) step own does = subst (λ s. Own s.outcome) (sym does.2) (Own-table_step catalogue name file columns does.0)

-- rows join, or a score is none
OwnGrowth : {A : Type 0} → Result A GrowFault → Type 0
OwnGrowth (Ok a) = Unit {0}
OwnGrowth (Err (grow.BadScore index row got max)) = Unit {0}
OwnGrowth (Err (grow.Probe index)) = ⊥
OwnGrowth (Err grow.Memory) = Unit {0}

OwnGrowth-then : {A B : Type 0} (first : Inquiry A GrowFault) (next : A → Inquiry B GrowFault) → OwnGrowth first.outcome → ((a : A) → OwnGrowth (next a).outcome)
    → OwnGrowth (and_then first next).outcome
unfolding OwnGrowth
OwnGrowth-then {A} {B} first next own more = go first.outcome own where
  go : (outcome : Result A GrowFault) → OwnGrowth outcome → OwnGrowth (and_then (record { requests = first.requests; outcome = outcome }) next).outcome
  go (Ok a) own = more a
  go (Err (grow.BadScore index row got max)) own = tt
  go (Err (grow.Probe index)) own = absurd own
  go (Err grow.Memory) own = tt

OwnGrowth-in_turn : {X A : Type 0} (ask : ℕ → X → Inquiry A GrowFault) → ((n : ℕ) (x : X) → OwnGrowth (ask n x).outcome) → (n : ℕ) (xs : List X) → OwnGrowth (in_turn ask n xs).outcome
unfolding OwnGrowth
OwnGrowth-in_turn ask each n [] = tt
OwnGrowth-in_turn ask each n (x ∷ xs) =
    OwnGrowth-then (ask n x) (λ a. and_then (in_turn ask (n + 1) xs) (λ others. comes_to (a ∷ others))) (each n x)
    (λ a. OwnGrowth-then (in_turn ask (n + 1) xs) (λ others. comes_to (a ∷ others)) (OwnGrowth-in_turn ask each (n + 1) xs) (λ others. tt))

OwnGrowth-scored : (answer : Answering) (number : ℕ) (predicate : PredicateDef) (args : List BoundArg) (row : ℕ) (values : List Value) → OwnGrowth (scoring_new answer number predicate args row values).outcome
unfolding OwnGrowth
OwnGrowth-scored answer number predicate args row values = go (is_score predicate.max (answer predicate (indexes.args_in args values))) where
  go : (b : Bool)
      → OwnGrowth {A = ScoredRow} (if b then Ok (record { score = as_score (answer predicate (indexes.args_in args values)); row = row }) else Err (grow.BadScore number row (answer predicate (indexes.args_in args values)) predicate.max))
  go true = tt
  go false = tt

OwnGrowth-index : (answer : Answering) (catalogue : CatalogDef) (table : ℕ) (rows : List (List Value)) (number : ℕ) (index : RankIndex) → OwnGrowth (growing_index answer catalogue table rows number index).outcome
unfolding OwnGrowth
OwnGrowth-index answer catalogue table rows number index = go (index.def.table == table) where
  go : (b : Bool)
      → OwnGrowth (if b then and_then (scorings_new answer number (indexes.predicate_for catalogue index.def) index.def.args (length (indexes.rows_for catalogue index.def) + 1) rows) (λ entries. comes_to (with_entries entries index)) else comes_to index).outcome
  go true = OwnGrowth-then (scorings_new answer number (indexes.predicate_for catalogue index.def) index.def.args (length (indexes.rows_for catalogue index.def) + 1) rows) (λ entries. comes_to (with_entries entries index))
      (OwnGrowth-in_turn (scoring_new answer number (indexes.predicate_for catalogue index.def) index.def.args) (OwnGrowth-scored answer number (indexes.predicate_for catalogue index.def) index.def.args) (length (indexes.rows_for catalogue index.def) + 1) rows)
      (λ entries. tt)
  go false = tt

Own-growth : (catalogue : CatalogDef) (table : ℕ) (rows : List (List Value)) (grown : Result (List RankIndex) GrowFault) → OwnGrowth grown → Own (grow_outcome catalogue table rows grown)
unfolding Own IsOwn OwnGrowth
Own-growth catalogue table rows (Ok made) own = tt
Own-growth catalogue table rows (Err (grow.BadScore index row got max)) own = tt
Own-growth catalogue table rows (Err (grow.Probe index)) own = absurd own
Own-growth catalogue table rows (Err grow.Memory) own = tt

Own-rows_step : (answer : Answering) (catalogue : CatalogDef) (joining : ℕ × List (List Value)) → Own (insert_step answer catalogue joining).outcome
unfolding Own
Own-rows_step answer catalogue joining = Own-growth catalogue joining.0 joining.1 (growing answer catalogue joining.0 joining.1).outcome
    (OwnGrowth-in_turn (growing_index answer catalogue joining.0 joining.1) (OwnGrowth-index answer catalogue joining.0 joining.1) 0 catalogue.indexes)

Own-step : (finds : Finds) (answer : Answering) (evaluating : Evaluating) (catalogue : CatalogDef) (command : Command) (step : Step CatalogDef) → Does finds answer evaluating catalogue command step → Own step.outcome
unfolding Own IsOwn
Own-step finds answer evaluating catalogue (CreateTable name columns file) step does =
    Own-does_table finds catalogue name file (with_room catalogue what.Table name (columns_of columns)) step (Own-with_room catalogue what.Table name (columns_of columns)) does
Own-step finds answer evaluating catalogue (CreatePredicate name params max cost formula) step does =
    subst (λ s. Own s.outcome) (sym does)
    (Own-then _ (λ predicate. Ok (with_predicate predicate catalogue))
    (Own-with_room catalogue what.Predicate name (predicate_of (CreatePredicate name params max cost formula))) (λ predicate. tt))
Own-step finds answer evaluating catalogue (CreateRankIndex name table predicate args at) step does =
    subst (λ s. Own s.outcome) (sym does)
    (Own-refused (index_step answer catalogue) _ (Own-with_room catalogue what.Index name (index_def_of catalogue (CreateRankIndex name table predicate args at)))
    (Own-index_step answer catalogue))
Own-step finds answer evaluating catalogue (syntax.Ask query) step does =
    subst (λ s. Own s.outcome) (sym does) (Own-select evaluating answer catalogue query)
Own-step finds answer evaluating catalogue (Explain query) step does = subst (λ s. Own s.outcome) (sym does) (Own-explain_step evaluating answer catalogue query)
Own-step finds answer evaluating catalogue (ExplainAnalyze query) step does = subst (λ s. Own s.outcome) (sym does) (Own-analyze_step evaluating answer catalogue query)
Own-step finds answer evaluating catalogue (syntax.Insert table rows) step does =
    subst (λ s. Own s.outcome) (sym does) (Own-refused (insert_step answer catalogue) _ (Own-bind (insert_of catalogue (syntax.Insert table rows))) (Own-rows_step answer catalogue))
Own-step finds answer evaluating catalogue (syntax.Declare name query) step does = absurd does
Own-step finds answer evaluating catalogue (syntax.Fetch count name) step does = absurd does
Own-step finds answer evaluating catalogue (syntax.Close name) step does = absurd does

-- a statement of a cursor
Own-room_for_cursor : (name : List ℕ) (room : Result (Unit {0}) RoomFault) → Own (or_session_fault name room)
unfolding Own IsOwn
Own-room_for_cursor name (Ok room) = tt
Own-room_for_cursor name (Err why) = tt

Own-named : (name : List ℕ) (cursors : List OpenCursor) → Own (cursor_named name cursors)
unfolding Own IsOwn
Own-named name [] = tt
Own-named name (cursor ∷ rest) = go (bytes_eq cursor.name name) (Own-named name rest) where
  go : (b : Bool) → Own (cursor_named name rest) → Own (if b then Ok cursor else cursor_named name rest)
  go true own = tt
  go false own = own

Own-declare : (evaluating : Evaluating) (answer : Answering) (state : State) (name : Name) (query : syntax.Query) → Own (declare_step evaluating answer state name query).outcome
unfolding Own IsOwn
Own-declare evaluating answer state name query =
    Own-refused (opened_step evaluating answer name.text state) (declared_query state name query)
    (Own-then (or_bind_fault (bound_query state.catalogue query)) (λ bound. room_for_cursor name.text state.cursors >>= (λ room. Ok bound)) (Own-bind (bound_query state.catalogue query))
    (λ bound. Own-then (room_for_cursor name.text state.cursors) (λ room. Ok bound) (Own-room_for_cursor name.text _) (λ room. tt))) (opens evaluating) where
      ready : (outcome : Result (List Answer) PlainFault) → OwnAnswer outcome → Own (ready_outcome name.text state outcome)
      ready (Ok rows) own = tt
      ready (Err (plain.BadScore predicate ids got max)) own = tt
      ready (Err (plain.Probe predicate)) own = own
      ready (Err plain.Memory) own = tt

      opens : (evaluating : Evaluating) (bound : Query) → Own (opened_step evaluating answer name.text state bound).outcome
      opens Plainly bound = ready (evaluation_of answer state.catalogue bound (all_rows state.catalogue bound)).outcome (OwnAnswer-evaluation answer state.catalogue bound (all_rows state.catalogue bound))
      opens (Planned sampling) bound = tt

Own-fetch : (answer : Answering) (state : State) (count : ℤ × Span) (name : Name) → Own (fetch_step answer state count name).outcome
unfolding Own
Own-fetch answer state count name =
    Own-refused (fetched_step answer state) (fetched_cursor state count name)
    (Own-then (or_bind_fault (count_of count)) (λ wanted. cursor_named name.text state.cursors >>= (λ cursor. Ok (cursor, wanted))) (Own-bind (count_of count))
    (λ wanted. Own-then (cursor_named name.text state.cursors) (λ cursor. Ok (cursor, wanted)) (Own-named name.text state.cursors) (λ cursor. tt)))
    (λ wanted. fetches wanted.0.name wanted.0.asked wanted.1 wanted.0.source) where
      fetches : (own : List ℕ) (asked wanted : ℕ) (source : Source) → Own (fetched_from answer state own asked wanted source).outcome
      fetches own asked wanted (ByPlan query tree sizes) =
          let w = world_of (snapshot sizes state.catalogue) answer query in
          Own-then_step (asks_from w tree asked (next_asks w tree asked wanted)) (still (Ok (with_asks own (next_asks w tree asked wanted) state)))
          (Own-asks w tree asked (next_asks w tree asked wanted)) tt
      fetches own asked wanted (Ready rows) = tt

Own-beside : (cursors : List OpenCursor) (step : Step CatalogDef) → Own step.outcome → Own (beside_cursors cursors step).outcome
unfolding Own
Own-beside cursors step own = Own-then step.outcome (λ catalogue. Ok (record { catalogue = catalogue; cursors = cursors })) own (λ catalogue. tt)

Own-in_session : (finds : Finds) (answer : Answering) (evaluating : Evaluating) (state : State) (command : Command) (step : Step State)
    → DoesInSession finds answer evaluating state command step → Own step.outcome
unfolding Own
Own-in_session finds answer evaluating state command step = go command where
  own : (command : Command) → (made : Step CatalogDef) × Does finds answer evaluating state.catalogue command made × (step ≡ beside_cursors state.cursors made) → Own step.outcome
  own command does =
      subst (λ (s : Step State). Own s.outcome) (sym does.2) (Own-beside state.cursors does.0 (Own-step finds answer evaluating state.catalogue command does.0 does.1))

  go : (command : Command) → DoesInSession finds answer evaluating state command step → Own step.outcome
  go (syntax.Declare name query) does = subst (λ (s : Step State). Own s.outcome) (sym does) (Own-declare evaluating answer state name query)
  go (syntax.Fetch count name) does = subst (λ (s : Step State). Own s.outcome) (sym does) (Own-fetch answer state count name)
  go (syntax.Close name) does = subst (λ (s : Step State). Own s.outcome) (sym does)
      (Own-then (cursor_named name.text state.cursors) (λ cursor. Ok (without_cursor name.text state)) (Own-named name.text state.cursors) (λ cursor. tt))
  go (CreateTable name columns file) does = own (CreateTable name columns file) does
  go (CreatePredicate name params max cost formula) does = own (CreatePredicate name params max cost formula) does
  go (CreateRankIndex name table predicate args at) does = own (CreateRankIndex name table predicate args at) does
  go (syntax.Ask query) does = own (syntax.Ask query) does
  go (Explain query) does = own (Explain query) does
  go (syntax.Insert table rows) does = own (syntax.Insert table rows) does
  go (ExplainAnalyze query) does = own (ExplainAnalyze query) does

-- the statements of a script
Own-behind : (rest : State → Run → Type 0) (events : List Event) (outcome : Result State Fault) (run : Run) → Own outcome
    → ((next : State) (more : Run) → rest next more → OwnEnd more.fault) → RunsOn rest events outcome run → OwnEnd run.fault
unfolding Own OwnEnd
Own-behind rest events (Err fault) run own goes on = subst (λ r. OwnEnd r.fault) (sym on) own
Own-behind rest events (Ok next) run own goes on = subst (λ r. OwnEnd r.fault) (sym on.2) (goes next on.0 on.1)

pub Own-statements : (finds : Finds) (answer : Answering) (evaluating : Evaluating) (state : State) (commands : List Command) (run : Run) → RunOf (DoesInSession finds answer evaluating) state commands run → OwnEnd run.fault
unfolding OwnEnd
Own-statements finds answer evaluating state [] run is = subst (λ r. OwnEnd r.fault) (sym is) tt
Own-statements finds answer evaluating state (command ∷ rest) run is =
    Own-behind (λ next more. RunOf (DoesInSession finds answer evaluating) next rest more) is.0.events is.0.outcome run
    (Own-in_session finds answer evaluating state command is.0 is.1) (λ next more. Own-statements finds answer evaluating next rest more) is.2
