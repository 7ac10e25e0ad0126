-- What is so of a catalogue and stays so behind what joins it is so from statement to statement: its rank indexes hold the scorer's answers, and the open cursors
-- stand for it.
use Rattle.std.proofs.Common.{ℕ, ◌≡◌, List, [], ◌∷◌, length, refl, sym, ap, subst, inl}
use Rattle.std.specs.Prelude.{Option, Result, Ok, Err, zero, suc}
use Rattle.rs_value.specs.Results.{◌>>=◌}
use Rattle.rs_value.specs.declared.value.Value.{Value}
use Rattle.rs_expr.specs.Scoring.{Answering}
use Rattle.rs_rank.specs.declared.answer.Answer.{Answer}
use Rattle.rs_rank.specs.declared.scored_row.ScoredRow.{ScoredRow}
use Rattle.rs_table.specs.Column.{Column}
use Rattle.rs_table.specs.FirstRows.{first_rows}
use Rattle.rs_table.specs.Reading.{table_of}
use Rattle.rs_table.specs.Relation.{Relation}
use Rattle.rs_expr.specs.Predicates.{PredicateDef}
use Rattle.rs_catalog.specs.After.{entries_within}
use Rattle.rs_catalog.specs.Catalog.{CatalogDef, RankIndex, room_for, with_index, with_predicate, with_table}
use Rattle.rs_catalog.specs.Growing.{CanJoin, grown, growing}
use Rattle.rs_catalog.specs.Indexes.{IsIndex, making, predicate_for}
use Rattle.rs_catalog.specs.declared.growth.GrowFault.{GrowFault}
use Rattle.rs_catalog.specs.declared.index.IndexDef.{IndexDef}
use Rattle.rs_catalog.specs.declared.index.IndexFault.{IndexFault}
use Rattle.rs_catalog.specs.declared.room.What.{What}
use Rattle.rs_catalog.specs.declared.room.What.TheVariants as what
use Rattle.rs_syntax.specs.Syntax.{Command, CreateTable, CreatePredicate, CreateRankIndex, Ask, Declare, Fetch, Close, Explain, ExplainAnalyze, Insert}
use Rattle.rs_syntax.specs.Syntax as syntax
use Rattle.rs_syntax.specs.Written.{IsWritten}
use Rattle.rs_syntax.specs.declared.name.Name.{Name}
use Rattle.rs_bind.specs.Indexes.{index_def_of}
use Rattle.rs_bind.specs.Inserts.{insert_of}
use Rattle.rs_bind.specs.Names.{columns_of}
use Rattle.rs_bind.specs.Predicates.{predicate_of}
use Rattle.rs_bind.specs.Queries.{bound_query}
use Rattle.rs_typing.specs.declared.fault.BindFault.{BindFault}
use Rattle.rs_bind.proofs.IndexFacts.{IsIndex-given}
use Rattle.rs_bind.proofs.InsertFacts.{CanJoin-given}
use Rattle.rs_query.specs.Answers.{limit_of}
use Rattle.rs_query.specs.Views.{all_rows}
use Rattle.rs_query.specs.declared.query.Query.{Query}
use Rattle.rs_plain.specs.Plain.{evaluation_of}
use Rattle.rs_plain.specs.declared.fault.PlainFault.{PlainFault}
use Rattle.rs_plan.specs.Lists as plan
use Rattle.rs_plan.specs.Lists.{list_of_plan}
use Rattle.rs_plan.specs.Trees.{PlanTree}
use Rattle.rs_exec.specs.Asking.{world_of}
use Rattle.rs_exec.specs.Cursors.{CursorState, StandsFor}
use Rattle.rs_catalog.specs.IndexesHold.{IndexesHold}
use Rattle.rs_catalog.specs.Snapshot.{HaveRows, size_at, snapshot}
use Rattle.rs_catalog.proofs.HeldFacts.{held-with_index, held-with_predicate, held-with_table}
use Rattle.rs_catalog.proofs.HeldRowsFacts.{held-grown}
use Rattle.rs_catalog.proofs.SnapshotFacts.{HaveRows-push, HaveRows-with_rows, snapshot-joined, snapshot-with_index, snapshot-with_table}
use Rattle.rs_statement.specs.declared.sampling.Sampling.{Sampling}
use Rattle.rs_statement.specs.declared.evaluating.Evaluating.{Evaluating}
use Rattle.rs_statement.specs.declared.evaluating.Evaluating.TheVariants.{Planned, Plainly}
use Rattle.rs_statement.specs.declared.fault.Fault.{Fault}
use Rattle.rs_statement.specs.Content.{content_of, or_table_fault, table_limit}
use Rattle.rs_statement.specs.Faults.{or_index_fault}
use Rattle.rs_statement.specs.Inserts.{grow_fault, grow_outcome, insert_step}
use Rattle.rs_statement.specs.declared.session.CursorRows.{CursorRows}
use Rattle.rs_statement.specs.declared.session.CursorRows.TheVariants as held
use Rattle.rs_statement.specs.Parts.Session.{CanAllBeAsked, CanBeAsked}
use Rattle.rs_statement.specs.Planned.{ask_count, ask_step, asks_from, plan_for, planned_step}
use Rattle.rs_outside.specs.Files.{Finds}
use Rattle.rs_statement.specs.Steps.{Step}
use Rattle.rs_events.specs.Sequence.{silent, then_step}
use Rattle.rs_statement.specs.Statements.{Does, DoesTable, analyze_step, analyzed_step, bind_fault, explain_outcome, explain_step, explained_step, index_step, or_bind_fault, or_room_fault, predicate_outcome, query_outcome, query_step, refused_or, select_step, table_step, with_room}
use Rattle.rs_statement.proofs.AnalyzeSteps.{analyzed_lines}

-- what a step that went well gave, and what went on from it
pub Ok-then : {A B E : Type 0} (first : Result A E) (next : A → Result B E) (b : B) → (first >>= next) ≡ Ok b → (a : A) × (first ≡ Ok a) × (next a ≡ Ok b)
Ok-then (Ok a) next b e = (a, refl, e)
Ok-then (Err fault) next b e = absurd cc

module _ (answer : Answering) (catalogue : CatalogDef) (P : CatalogDef → Type 0) (here : P catalogue)
    (tables : (name : List ℕ) (table : Relation) → P (with_table name table catalogue))
    (predicates : (predicate : PredicateDef) → P (with_predicate predicate catalogue))
    (indexes : (def : IndexDef) (ranking : List ScoredRow) → IsIndex catalogue def → (making answer catalogue def).outcome ≡ Ok ranking → P (with_index def ranking catalogue))
    (rows : (table : ℕ) (joining : List (List Value)) (made : List RankIndex) → CanJoin catalogue table joining → (growing answer catalogue table joining).outcome ≡ Ok made → P (grown table joining made catalogue)) where
  -- what a statement leaves
  abbrev Leaves : Result CatalogDef Fault → Type 0
  Leaves outcome = (next : CatalogDef) → outcome ≡ Ok next → P next

  leaves-same : Leaves (Ok catalogue)
  leaves-same next e = let same : catalogue ≡ next = cc in subst P same here

  leaves-none : (fault : Fault) → Leaves (Err fault)
  leaves-none fault next e = absurd cc

  leaves-table_step : (name : Name) (file : List ℕ) (columns : List Column) (there : Option (List ℕ)) → Leaves (table_step catalogue name file columns there).outcome
  leaves-table_step name file columns there next e =
      let read = Ok-then (content_of table_limit file there) _ next e in
      let made = Ok-then (or_table_fault file (table_of columns read.0)) _ next read.2 in
      let same : with_table name.text made.0 catalogue ≡ next = (let last = made.2 in cc) in
      subst P same (tables name.text made.0)

  leaves-table : (finds : Finds) (name : Name) (file : List ℕ) (bound : Result (List Column) Fault) (step : Step CatalogDef) → DoesTable finds catalogue name file bound step → Leaves step.outcome
  leaves-table finds name file (Err fault) step does = subst (λ (s : Step CatalogDef). Leaves s.outcome) (sym does) (leaves-none fault)
  leaves-table finds name file (Ok columns) step does = subst (λ (s : Step CatalogDef). Leaves s.outcome) (sym does.2) (leaves-table_step name file columns does.0)

  leaves-predicate : (name : Name) (command : Command) → Leaves (predicate_outcome catalogue name command)
  leaves-predicate name command next e =
      let made = Ok-then (with_room catalogue what.Predicate name (predicate_of command)) _ next e in
      let same : with_predicate made.0 catalogue ≡ next = (let last = made.2 in cc) in
      subst P same (predicates made.0)

  roomy : {A : Type 0} (w : What) (name : Name) (bound : Result A BindFault) (a : A) → with_room catalogue w name bound ≡ Ok a → bound ≡ Ok a
  roomy w name (Ok b) a e =
      let room = Ok-then (or_room_fault name (room_for w name.text catalogue)) _ a e in
      let last = room.2 in
      cc
  roomy w name (Err why) a e = absurd cc

  leaves-index : (name : Name) (command : Command) → IsWritten command → Leaves (refused_or (index_step answer catalogue) (with_room catalogue what.Index name (index_def_of catalogue command))).outcome
  leaves-index name command written = go (with_room catalogue what.Index name (index_def_of catalogue command)) refl where
    go : (bound : Result IndexDef Fault) → with_room catalogue what.Index name (index_def_of catalogue command) ≡ bound → Leaves (refused_or (index_step answer catalogue) bound).outcome
    go (Err fault) is = leaves-none fault
    go (Ok def) is = λ next e.
        let made = Ok-then (or_index_fault (predicate_for catalogue def).name (making answer catalogue def).outcome) _ next e in
        let same : with_index def made.0 catalogue ≡ next = (let last = made.2 in cc) in
        subst P same
        (indexes def made.0 (IsIndex-given catalogue command def written (inl (sym (roomy what.Index name (index_def_of catalogue command) def is))))
        (well (making answer catalogue def).outcome made.0 made.1)) where
          well : (outcome : Result (List ScoredRow) IndexFault) (ranking : List ScoredRow) → or_index_fault (predicate_for catalogue def).name outcome ≡ Ok ranking → outcome ≡ Ok ranking
          well (Ok entries) ranking e = let same : entries ≡ ranking = cc in ap Ok same
          well (Err why) ranking e = absurd cc

  leaves-joined : (table : ℕ) (joining : List (List Value)) (outcome : Result (List RankIndex) GrowFault) → CanJoin catalogue table joining
      → (growing answer catalogue table joining).outcome ≡ outcome → Leaves (grow_outcome catalogue table joining outcome)
  leaves-joined table joining (Ok made) join gives = λ next e. let same : grown table joining made catalogue ≡ next = cc in subst P same (rows table joining made join gives)
  leaves-joined table joining (Err fault) join gives = leaves-none (grow_fault catalogue fault)

  leaves-insert : (command : Command) → IsWritten command → Leaves (refused_or (insert_step answer catalogue) (or_bind_fault (insert_of catalogue command))).outcome
  leaves-insert command written = go (insert_of catalogue command) refl where
    go : (bound : Result (ℕ × List (List Value)) BindFault) → insert_of catalogue command ≡ bound → Leaves (refused_or (insert_step answer catalogue) (or_bind_fault bound)).outcome
    go (Ok joining) is =
        leaves-joined joining.0 joining.1 (growing answer catalogue joining.0 joining.1).outcome (CanJoin-given catalogue command joining written (inl (sym is))) refl
    go (Err fault) is = leaves-none (bind_fault fault)

  leaves-then : (first next : Step CatalogDef) → Leaves next.outcome → Leaves (then_step first next).outcome
  leaves-then first next later = go first.outcome where
    go : (outcome : Result CatalogDef Fault) → Leaves (then_step (record first { outcome = outcome }) next).outcome
    go (Ok state) = later
    go (Err fault) = leaves-none fault

  leaves-asks : (w : plan.World) (tree : PlanTree) (n count : ℕ) → w.catalogue ≡ catalogue → Leaves (asks_from w tree n count).outcome
  leaves-asks w tree n zero is = λ next e. let same : catalogue ≡ next = cc in subst P same here
  leaves-asks w tree n (suc count) is = leaves-then (ask_step w tree n) (asks_from w tree (suc n) count) (leaves-asks w tree (suc n) count is)

  leaves-query : (evaluating : Evaluating) (query : Query) → Leaves (query_step evaluating answer catalogue query).outcome
  leaves-query Plainly query = go (evaluation_of answer catalogue query (all_rows catalogue query)).outcome where
    go : (outcome : Result (List Answer) PlainFault) → Leaves (query_outcome catalogue outcome)
    go (Ok rows) = leaves-same
    go (Err fault) = λ next e. absurd cc
  leaves-query (Planned sampling) query =
      let w = world_of catalogue answer query in
      leaves-asks w (plan_for answer catalogue sampling query) 0 (ask_count (limit_of query) (length (list_of_plan w (plan_for answer catalogue sampling query)))) refl

  leaves-select : (evaluating : Evaluating) (query : syntax.Query) → Leaves (select_step evaluating answer catalogue query).outcome
  leaves-select evaluating query = go (or_bind_fault (bound_query catalogue query)) where
    go : (bound : Result Query Fault) → Leaves (refused_or (query_step evaluating answer catalogue) bound).outcome
    go (Ok bound) = leaves-query evaluating bound
    go (Err fault) = leaves-none fault

  leaves-bound : (query : syntax.Query) → Leaves (explain_outcome catalogue query)
  leaves-bound query = λ next e.
      let made = Ok-then (or_bind_fault (bound_query catalogue query)) _ next e in
      leaves-same next made.2

  leaves-explain : (evaluating : Evaluating) (query : syntax.Query) → Leaves (explain_step evaluating answer catalogue query).outcome
  leaves-explain Plainly query = leaves-bound query
  leaves-explain (Planned sampling) query = go (or_bind_fault (bound_query catalogue query)) where
    go : (bound : Result Query Fault) → Leaves (refused_or (explained_step answer catalogue sampling) bound).outcome
    go (Ok bound) = leaves-same
    go (Err fault) = leaves-none fault

  leaves-analyzed : (sampling : Sampling) (query : Query) → Leaves (analyzed_step answer catalogue sampling query).outcome
  leaves-analyzed sampling query =
      let w = world_of catalogue answer query in
      let tree = plan_for answer catalogue sampling query in
      leaves-then (silent (planned_step w tree)) (analyzed_lines answer catalogue sampling query) leaves-same

  leaves-analyze : (evaluating : Evaluating) (query : syntax.Query) → Leaves (analyze_step evaluating answer catalogue query).outcome
  leaves-analyze Plainly query = leaves-bound query
  leaves-analyze (Planned sampling) query = go (or_bind_fault (bound_query catalogue query)) where
    go : (bound : Result Query Fault) → Leaves (refused_or (analyzed_step answer catalogue sampling) bound).outcome
    go (Ok bound) = leaves-analyzed sampling bound
    go (Err fault) = leaves-none fault

  pub kept-step : (finds : Finds) (evaluating : Evaluating) (command : Command) (step : Step CatalogDef) (next : CatalogDef) → IsWritten command
      → Does finds answer evaluating catalogue command step → step.outcome ≡ Ok next → P next
  kept-step finds evaluating (CreateTable name columns file) step next written does =
      leaves-table finds name file (with_room catalogue what.Table name (columns_of columns)) step does next
  kept-step finds evaluating (CreatePredicate name params max cost formula) step next written does =
      subst (λ (s : Step CatalogDef). Leaves s.outcome) (sym does) (leaves-predicate name (CreatePredicate name params max cost formula)) next
  kept-step finds evaluating (CreateRankIndex name table predicate args at) step next written does =
      subst (λ (s : Step CatalogDef). Leaves s.outcome) (sym does) (leaves-index name (CreateRankIndex name table predicate args at) written) next
  kept-step finds evaluating (Ask query) step next written does = subst (λ (s : Step CatalogDef). Leaves s.outcome) (sym does) (leaves-select evaluating query) next
  kept-step finds evaluating (Declare name query) step next written does = absurd does
  kept-step finds evaluating (Fetch count name) step next written does = absurd does
  kept-step finds evaluating (Close name) step next written does = absurd does
  kept-step finds evaluating (Explain query) step next written does = subst (λ (s : Step CatalogDef). Leaves s.outcome) (sym does) (leaves-explain evaluating query) next
  kept-step finds evaluating (ExplainAnalyze query) step next written does = subst (λ (s : Step CatalogDef). Leaves s.outcome) (sym does) (leaves-analyze evaluating query) next
  kept-step finds evaluating (Insert table rows) step next written does = subst (λ (s : Step CatalogDef). Leaves s.outcome) (sym does) (leaves-insert (Insert table rows) written) next

-- the rank indexes hold the scorer's answers
pub held-step : (answer : Answering) (catalogue : CatalogDef) (finds : Finds) (evaluating : Evaluating) (command : Command) (step : Step CatalogDef) (next : CatalogDef)
    → IndexesHold answer catalogue → IsWritten command → Does finds answer evaluating catalogue command step → step.outcome ≡ Ok next → IndexesHold answer next
held-step answer catalogue finds evaluating command step next held =
    kept-step answer catalogue (IndexesHold answer) held (λ name table. held-with_table catalogue answer name table held) (λ predicate. held-with_predicate catalogue answer predicate held)
    (λ def ranking fits made. held-with_index catalogue answer def ranking fits made held) (λ table joining made join gives. held-grown answer catalogue table joining made join held gives)
    finds evaluating command step next

-- where cursors go on to stand for what they see, so do all that are open
asked-larger : (answer : Answering) (small large : CatalogDef) → ((sizes : List ℕ) → HaveRows sizes small.tables → HaveRows sizes large.tables)
    → ((sizes : List ℕ) (cursor : CursorState) → HaveRows sizes small.tables → StandsFor (snapshot sizes small) answer cursor → StandsFor (snapshot sizes large) answer cursor)
    → (entries : List (List ℕ × CursorRows)) → CanAllBeAsked answer small entries → CanAllBeAsked answer large entries
asked-larger answer small large have stands [] all = tt
asked-larger answer small large have stands ((name, kept) ∷ entries) all = (one kept all.0, asked-larger answer small large have stands entries all.1) where
  one : (kept : CursorRows) → CanBeAsked answer small kept → CanBeAsked answer large kept
  one (held.Asked cursor sizes) is = (have sizes.items is.0, stands sizes.items cursor is.0 is.1)
  one (held.Ready rows given) is = is

-- a cursor that stands for a catalogue stands for what it becomes
pub record StandOn (answer : Answering) : Type 0 where
  pub tables : (catalogue : CatalogDef) (cursor : CursorState) (name : List ℕ) (table : Relation) → StandsFor catalogue answer cursor → StandsFor (with_table name table catalogue) answer cursor
  pub predicates : (catalogue : CatalogDef) (cursor : CursorState) (predicate : PredicateDef) → StandsFor catalogue answer cursor → StandsFor (with_predicate predicate catalogue) answer cursor
  pub indexes : (catalogue : CatalogDef) (cursor : CursorState) (def : IndexDef) (ranking : List ScoredRow) → StandsFor catalogue answer cursor → StandsFor (with_index def ranking catalogue) answer cursor

pub asked-step : (answer : Answering) (catalogue : CatalogDef) (finds : Finds) (evaluating : Evaluating) (command : Command) (step : Step CatalogDef) (next : CatalogDef)
    (entries : List (List ℕ × CursorRows)) → StandOn answer → IndexesHold answer catalogue → CanAllBeAsked answer catalogue entries → IsWritten command
    → Does finds answer evaluating catalogue command step → step.outcome ≡ Ok next → CanAllBeAsked answer next entries
asked-step answer catalogue finds evaluating command step next entries on held all =
    kept-step answer catalogue (λ c. CanAllBeAsked answer c entries) all
    (λ name table. asked-larger answer catalogue (with_table name table catalogue) (λ sizes have. HaveRows-push sizes catalogue.tables (record { name = name; table = table }) have)
    (λ sizes cursor have stands. subst (λ (seen : CatalogDef). StandsFor seen answer cursor) (sym (snapshot-with_table sizes catalogue name table have))
    (on.tables (snapshot sizes catalogue) cursor name (first_rows 0 table) stands)) entries all)
    (λ predicate. asked-larger answer catalogue (with_predicate predicate catalogue) (λ sizes have. have)
    (λ sizes cursor have stands. on.predicates (snapshot sizes catalogue) cursor predicate stands) entries all)
    (λ def ranking fits made. asked-larger answer catalogue (with_index def ranking catalogue) (λ sizes have. have)
    (λ sizes cursor have stands. subst (λ (seen : CatalogDef). StandsFor seen answer cursor) (sym (snapshot-with_index sizes catalogue def ranking))
    (on.indexes (snapshot sizes catalogue) cursor def (entries_within (size_at sizes def.table) ranking) stands)) entries all)
    (λ table joining made join gives. asked-larger answer catalogue (grown table joining made catalogue) (λ sizes have. HaveRows-with_rows sizes table joining catalogue.tables have)
    (λ sizes cursor have stands. subst (λ (seen : CatalogDef). StandsFor seen answer cursor) (sym (snapshot-joined sizes answer catalogue table joining made have held gives)) stands) entries all)
    finds evaluating command step next
