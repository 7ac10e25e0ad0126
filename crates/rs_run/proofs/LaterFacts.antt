-- A FETCH does the same over each catalogue that statements make of the one that its cursor is of.
use Rattle.std.proofs.Common.{ℕ, ◌≡◌, ◌∙◌, List, [], ◌∷◌, length-append, append-nil, refl, sym, ap, subst, arith}
use Rattle.std.specs.Prelude.{Result, Ok, Err}
use Rattle.rs_value.specs.Results.{◌>>=◌}
use Rattle.rs_value.specs.declared.value.Value.{Value}
use Rattle.rs_rank.specs.declared.answer.Answer.{Answer}
use Rattle.rs_rank.specs.declared.scored_row.ScoredRow.{ScoredRow}
use Rattle.rs_table.specs.FirstRows.{first_rows}
use Rattle.rs_table.specs.Relation.{Relation}
use Rattle.rs_expr.specs.Predicates.{PredicateDef}
use Rattle.rs_expr.specs.Scoring.{Answering}
use Rattle.rs_catalog.specs.After.{entries_within}
use Rattle.rs_catalog.specs.Catalog.{CatalogDef, NamedTable, RankIndex, with_index, with_predicate, with_table}
use Rattle.rs_catalog.specs.Growing.{grown, growing}
use Rattle.rs_catalog.specs.IndexesHold.{IndexesHold}
use Rattle.rs_catalog.specs.Snapshot.{HaveRows, size_at, sizes_in, snapshot}
use Rattle.rs_catalog.specs.declared.index.IndexDef.{IndexDef}
use Rattle.rs_catalog.proofs.HeldFacts.{held-with_index, held-with_predicate, held-with_table}
use Rattle.rs_catalog.proofs.HeldRowsFacts.{held-grown}
use Rattle.rs_catalog.proofs.SnapshotFacts.{HaveRows-all, HaveRows-push, HaveRows-with_rows, snapshot-all, snapshot-joined, snapshot-with_index, snapshot-with_table}
use Rattle.rs_query.specs.Views.{all_rows}
use Rattle.rs_query.specs.declared.query.Query.{Query}
use Rattle.rs_plain.specs.Plain.{evaluation_of}
use Rattle.rs_plain.specs.declared.fault.PlainFault.{PlainFault}
use Rattle.rs_plan.specs.Trees.{PlanTree}
use Rattle.rs_exec.specs.Asking.{world_of}
use Rattle.rs_exec.specs.Covering.{Covers}
use Rattle.rs_exec.specs.Cursors.{SameAsks}
use Rattle.rs_exec.proofs.CoversFacts.{covers-larger}
use Rattle.rs_syntax.specs.Syntax.{Ask, Close, Command, CreatePredicate, CreateRankIndex, CreateTable, Declare, Explain, ExplainAnalyze, Fetch, Insert}
use Rattle.rs_syntax.specs.Written.{AreWritten, IsWritten}
use Rattle.rs_events.specs.Events.{Event}
use Rattle.rs_outside.specs.Files.{Finds}
use Rattle.rs_events.specs.Sequence.{still, then_step}
use Rattle.rs_statement.specs.Planned.{asks_from, next_asks, plan_for}
use Rattle.rs_statement.specs.Sampled.{sample_step}
use Rattle.rs_statement.specs.Session.{ByPlan, DoesInSession, IsCursorOf, OpenCursor, Ready, Source, State, beside_cursors, close_outcome, cursor_named, declare_step, declared_query, fetch_step, fetched_cursor, fetched_from, fetched_step, next_rows, opened_step, ready_outcome, with_asks, with_cursor, without_cursor}
use Rattle.rs_statement.specs.Statements.{Does, refused_or}
use Rattle.rs_statement.specs.Steps.{Step}
use Rattle.rs_statement.specs.declared.evaluating.Evaluating.{Evaluating}
use Rattle.rs_statement.specs.declared.evaluating.Evaluating.TheVariants.{Plainly, Planned}
use Rattle.rs_statement.specs.declared.fault.Fault.{Fault}
use Rattle.rs_statement.proofs.HeldSteps.{kept-step}
use Rattle.rs_statement.proofs.LargerRows.{IsCursorOf-plan, SameAsks-itself, alike-fetched}
use Rattle.rs_statement.proofs.SameFetches.{AskTheSame}
use Rattle.rs_run.specs.Later.{LeadsTo}

-- what holds of the catalogue, and of what a statement of no cursor makes of it, holds of what each statement makes of it
module _ (finds : Finds) (answer : Answering) (evaluating : Evaluating) (state : State) (P : CatalogDef → Type 0) (here : P state.catalogue) where
  -- what a step leaves
  abbrev Leaves : Result State Fault → Type 0
  Leaves outcome = (next : State) → outcome ≡ Ok next → P next.catalogue

  leaves-none : (fault : Fault) → Leaves (Err fault)
  leaves-none fault next e = absurd cc

  leaves-state : (left : State) → P left.catalogue → Leaves (Ok left)
  leaves-state left holds next e = let is : left ≡ next = cc in subst (λ (s : State). P s.catalogue) is holds

  leaves-same : (left : State) → left.catalogue ≡ state.catalogue → Leaves (Ok left)
  leaves-same left same = leaves-state left (subst P (sym same) here)

  leaves-then : {S : Type 0} (first : Step S) (left : State) → left.catalogue ≡ state.catalogue → Leaves (then_step first (still (Ok left))).outcome
  leaves-then {S} first left same = go first.outcome where
    go : (outcome : Result S Fault) → Leaves (then_step (record first { outcome = outcome }) (still (Ok left))).outcome
    go (Ok done) = leaves-same left same
    go (Err fault) = leaves-none fault

  leaves-opened : (name : List ℕ) (query : Query) → Leaves (opened_step evaluating answer name state query).outcome
  leaves-opened name query = opened evaluating where
    ready : (outcome : Result (List Answer) PlainFault) → Leaves (ready_outcome name state outcome)
    ready (Ok rows) = leaves-same (with_cursor name (Ready rows) state) refl
    ready (Err fault) = λ next e. absurd cc

    opened : (evaluating : Evaluating) → Leaves (opened_step evaluating answer name state query).outcome
    opened Plainly = ready (evaluation_of answer state.catalogue query (all_rows state.catalogue query)).outcome
    opened (Planned sampling) =
        leaves-then (sample_step state.catalogue sampling query)
        (with_cursor name (ByPlan query (plan_for answer state.catalogue sampling query) (sizes_in state.catalogue)) state) refl

  leaves-fetched : (name : List ℕ) (asked wanted : ℕ) (source : Source) → Leaves (fetched_from answer state name asked wanted source).outcome
  leaves-fetched name asked wanted (ByPlan query tree sizes) =
      let w = world_of (snapshot sizes state.catalogue) answer query in
      leaves-then (asks_from w tree asked (next_asks w tree asked wanted)) (with_asks name (next_asks w tree asked wanted) state) refl
  leaves-fetched name asked wanted (Ready rows) = leaves-same (with_asks name (next_rows rows asked wanted) state) refl

  leaves-refused : {A : Type 0} (does : A → Step State) (bound : Result A Fault) → ((a : A) → Leaves (does a).outcome) → Leaves (refused_or does bound).outcome
  leaves-refused does (Ok a) each = each a
  leaves-refused does (Err fault) each = leaves-none fault

  leaves-closed : (name : List ℕ) → Leaves (cursor_named name state.cursors >>= λ cursor. Ok (without_cursor name state))
  leaves-closed name = go (cursor_named name state.cursors) where
    go : (found : Result OpenCursor Fault) → Leaves (found >>= λ cursor. Ok (without_cursor name state))
    go (Ok cursor) = leaves-same (without_cursor name state) refl
    go (Err fault) = leaves-none fault

  leaves-step : (made step : Step State) → step ≡ made → Leaves made.outcome → Leaves step.outcome
  leaves-step made step is each = subst (λ (s : Step State). Leaves s.outcome) (sym is) each

  leaves-beside : (own : Step CatalogDef) (step : Step State) → ((next : CatalogDef) → own.outcome ≡ Ok next → P next) → step ≡ beside_cursors state.cursors own → Leaves step.outcome
  leaves-beside own step each is = leaves-step (beside_cursors state.cursors own) step is (go own.outcome each) where
    go : (outcome : Result CatalogDef Fault) → ((next : CatalogDef) → outcome ≡ Ok next → P next) → Leaves (beside_cursors state.cursors (record own { outcome = outcome })).outcome
    go (Ok left) each = leaves-state (record { catalogue = left; cursors = state.cursors }) (each left refl)
    go (Err fault) each = leaves-none fault

  session-step : (command : Command) (step : Step State) → ((own : Step CatalogDef) (next : CatalogDef) → Does finds answer evaluating state.catalogue command own → own.outcome ≡ Ok next → P next)
      → DoesInSession finds answer evaluating state command step → Leaves step.outcome
  session-step (Declare name query) step each does =
      leaves-step (declare_step evaluating answer state name query) step does
      (leaves-refused (opened_step evaluating answer name.text state) (declared_query state name query) (leaves-opened name.text))
  session-step (Fetch count name) step each does =
      leaves-step (fetch_step answer state count name) step does
      (leaves-refused (fetched_step answer state) (fetched_cursor state count name) (λ wanted. leaves-fetched wanted.0.name wanted.0.asked wanted.1 wanted.0.source))
  session-step (Close name) step each does = leaves-step (still (close_outcome state name)) step does (leaves-closed name.text)
  session-step (CreateTable name columns file) step each does = leaves-beside does.0 step (λ next. each does.0 next does.1) does.2
  session-step (CreatePredicate name params max cost formula) step each does = leaves-beside does.0 step (λ next. each does.0 next does.1) does.2
  session-step (CreateRankIndex name table predicate args at) step each does = leaves-beside does.0 step (λ next. each does.0 next does.1) does.2
  session-step (Ask query) step each does = leaves-beside does.0 step (λ next. each does.0 next does.1) does.2
  session-step (Explain query) step each does = leaves-beside does.0 step (λ next. each does.0 next does.1) does.2
  session-step (ExplainAnalyze query) step each does = leaves-beside does.0 step (λ next. each does.0 next does.1) does.2
  session-step (Insert table rows) step each does = leaves-beside does.0 step (λ next. each does.0 next does.1) does.2

module _ (asks : AskTheSame) (answer : Answering) (cursor : OpenCursor) (wanted : ℕ) where
  -- what a FETCH does over a catalogue
  abbrev over : CatalogDef → List Event
  over catalogue = (fetched_step answer (record { catalogue = catalogue; cursors = [] }) (cursor, wanted)).events

  events-over : (state : State) → (fetched_step answer state (cursor, wanted)).events ≡ over state.catalogue
  events-over state =
      alike-fetched answer (record { catalogue = state.catalogue; cursors = [] }) state cursor.name cursor.asked wanted cursor.source
      (λ query tree sizes e. SameAsks-itself (snapshot sizes state.catalogue) answer query tree)

  -- over the one it does what it does over the other
  pub record KeepsFetch (old new : CatalogDef) : Type 0 where
    pub is : IsCursorOf new cursor
    pub events : over new ≡ over old

  pub KeepsFetch-states : (state next : State) → KeepsFetch state.catalogue next.catalogue
      → (fetched_step answer next (cursor, wanted)).events ≡ (fetched_step answer state (cursor, wanted)).events
  KeepsFetch-states state next keeps = events-over next ∙ keeps.events ∙ sym (events-over state)

  KeepsFetch-next : (first second third : CatalogDef) → KeepsFetch first second → KeepsFetch second third → KeepsFetch first third
  KeepsFetch-next first second third one more = record { is = more.is; events = more.events ∙ one.events }

  module _ (catalogue : CatalogDef) (is : IsCursorOf catalogue cursor) where
    -- what the cursor sees of a larger catalogue covers its query, and is asked the same
    module _ (large : CatalogDef) (have : (sizes : List ℕ) → HaveRows sizes catalogue.tables → HaveRows sizes large.tables)
        (covered : (sizes : List ℕ) (query : Query) → HaveRows sizes catalogue.tables → Covers (snapshot sizes catalogue) query → Covers (snapshot sizes large) query)
        (same : (sizes : List ℕ) (query : Query) (tree : PlanTree) → HaveRows sizes catalogue.tables → Covers (snapshot sizes catalogue) query
        → SameAsks (world_of (snapshot sizes large) answer query) (world_of (snapshot sizes catalogue) answer query) tree) where
      cursor-larger : (source : Source) → IsCursorOf catalogue (record cursor { source = source }) → IsCursorOf large (record cursor { source = source })
      cursor-larger (ByPlan query tree sizes) is = (have sizes is.0, covered sizes query is.0 is.1)
      cursor-larger (Ready rows) is = is

      keeps-larger : KeepsFetch catalogue large
      keeps-larger = record {
        is = cursor-larger cursor.source is;
        events = alike-fetched answer (record { catalogue = catalogue; cursors = [] }) (record { catalogue = large; cursors = [] }) cursor.name cursor.asked wanted cursor.source
            (λ query tree sizes e. let sees = IsCursorOf-plan catalogue cursor query tree sizes is e in same sizes query tree sees.0 sees.1);
      }

    pub keeps-with_table : (name : List ℕ) (table : Relation) → KeepsFetch catalogue (with_table name table catalogue)
    keeps-with_table name table =
        keeps-larger (with_table name table catalogue) (λ sizes have. HaveRows-push sizes catalogue.tables (record { name = name; table = table }) have)
        (λ sizes query have covered.
        let seen = snapshot sizes catalogue in
        let last : NamedTable = record { name = name; table = first_rows 0 table } in
        let more = length-append seen.tables (last ∷ []) in
        subst (λ (larger : CatalogDef). Covers larger query) (sym (snapshot-with_table sizes catalogue name table have))
        (covers-larger seen (with_table name (first_rows 0 table) seen) (omega arith) (omega arith) query covered))
        (λ sizes query tree have covered.
        let seen = snapshot sizes catalogue in
        subst (λ (larger : CatalogDef). SameAsks (world_of larger answer query) (world_of seen answer query) tree) (sym (snapshot-with_table sizes catalogue name table have))
        (asks.tables seen answer query tree name (first_rows 0 table) covered))

    pub keeps-with_predicate : (predicate : PredicateDef) → KeepsFetch catalogue (with_predicate predicate catalogue)
    keeps-with_predicate predicate =
        let more = length-append catalogue.predicates (predicate ∷ []) in
        keeps-larger (with_predicate predicate catalogue) (λ sizes have. have)
        (λ sizes query have covered. covers-larger (snapshot sizes catalogue) (with_predicate predicate (snapshot sizes catalogue)) (omega arith) (omega arith) query covered)
        (λ sizes query tree have covered. asks.predicates (snapshot sizes catalogue) answer query tree predicate covered)

    pub keeps-with_index : (def : IndexDef) (ranking : List ScoredRow) → KeepsFetch catalogue (with_index def ranking catalogue)
    keeps-with_index def ranking =
        keeps-larger (with_index def ranking catalogue) (λ sizes have. have)
        (λ sizes query have covered.
        let seen = snapshot sizes catalogue in
        subst (λ (larger : CatalogDef). Covers larger query) (sym (snapshot-with_index sizes catalogue def ranking))
        (covers-larger seen (with_index def (entries_within (size_at sizes def.table) ranking) seen) (omega arith) (omega arith) query covered))
        (λ sizes query tree have covered.
        let seen = snapshot sizes catalogue in
        subst (λ (larger : CatalogDef). SameAsks (world_of larger answer query) (world_of seen answer query) tree) (sym (snapshot-with_index sizes catalogue def ranking))
        (asks.indexes seen answer query tree def (entries_within (size_at sizes def.table) ranking) covered))

    pub keeps-grown : (table : ℕ) (rows : List (List Value)) (indexes : List RankIndex) → IndexesHold answer catalogue → (growing answer catalogue table rows).outcome ≡ Ok indexes
        → KeepsFetch catalogue (grown table rows indexes catalogue)
    keeps-grown table rows indexes held gives =
        let stays = λ (sizes : List ℕ) (have : HaveRows sizes catalogue.tables). snapshot-joined sizes answer catalogue table rows indexes have held gives in
        keeps-larger (grown table rows indexes catalogue) (λ sizes have. HaveRows-with_rows sizes table rows catalogue.tables have)
        (λ sizes query have covered. subst (λ (seen : CatalogDef). Covers seen query) (sym (stays sizes have)) covered)
        (λ sizes query tree have covered.
        subst (λ (seen : CatalogDef). SameAsks (world_of seen answer query) (world_of (snapshot sizes catalogue) answer query) tree) (sym (stays sizes have))
        (SameAsks-itself (snapshot sizes catalogue) answer query tree))

  -- and so it does behind statements, while the indexes go on to hold the scorer's answers
  module _ (finds : Finds) (evaluating : Evaluating) where
    abbrev Goes : CatalogDef → CatalogDef → Type 0
    Goes old new = KeepsFetch old new × IndexesHold answer new

    goes-step : (catalogue : CatalogDef) (command : Command) (step : Step CatalogDef) (next : CatalogDef) → IsCursorOf catalogue cursor → IndexesHold answer catalogue → IsWritten command
        → Does finds answer evaluating catalogue command step → step.outcome ≡ Ok next → Goes catalogue next
    goes-step catalogue command step next is held =
        kept-step answer catalogue (Goes catalogue) (record { is = is; events = refl }, held)
        (λ name table. (keeps-with_table catalogue is name table, held-with_table catalogue answer name table held))
        (λ predicate. (keeps-with_predicate catalogue is predicate, held-with_predicate catalogue answer predicate held))
        (λ def ranking fits made. (keeps-with_index catalogue is def ranking, held-with_index catalogue answer def ranking fits made held))
        (λ table joining made join gives. (keeps-grown catalogue is table joining made held gives, held-grown answer catalogue table joining made join held gives))
        finds evaluating command step next

    pub goes-on : (commands : List Command) (state later : State) → AreWritten commands → IndexesHold answer state.catalogue → IsCursorOf state.catalogue cursor
        → LeadsTo finds answer evaluating state commands later → KeepsFetch state.catalogue later.catalogue
    goes-on [] state later written held is leads = subst (λ (s : State). KeepsFetch state.catalogue s.catalogue) (sym leads) (record { is = is; events = refl })
    goes-on (command ∷ rest) state later written held is leads =
        let next = leads.0 in
        let one = session-step finds answer evaluating state (Goes state.catalogue) (record { is = is; events = refl }, held) command leads.1
        (λ own next does ends. goes-step state.catalogue command own next is held written.0 does ends) leads.2 next leads.3 in
        KeepsFetch-next state.catalogue next.catalogue later.catalogue one.0 (goes-on rest next later written.1 one.1 one.0.is leads.4)

-- of a step behind which nothing happens
events-then : (first : Step CatalogDef) (state : State) → (then_step first (still (Ok state))).events ≡ first.events
events-then first state = go first.outcome where
  go : (outcome : Result CatalogDef Fault) → (then_step (record first { outcome = outcome }) (still (Ok state))).events ≡ first.events
  go (Ok next) = append-nil first.events
  go (Err fault) = refl

-- a cursor that sees all rows of a catalogue is of it, and a FETCH of it makes the asks of its plan over it
module _ (answer : Answering) (state : State) (held : IndexesHold answer state.catalogue) where
  pub declared-cursor : (query : Query) (tree : PlanTree) (name : List ℕ) (asked : ℕ) → Covers state.catalogue query
      → IsCursorOf state.catalogue (record { name = name; source = ByPlan query tree (sizes_in state.catalogue); asked = asked })
  declared-cursor query tree name asked covered =
      (HaveRows-all state.catalogue.tables, subst (λ (seen : CatalogDef). Covers seen query) (sym (snapshot-all answer state.catalogue held)) covered)

  pub declared-events : (query : Query) (tree : PlanTree) (name : List ℕ) (asked wanted : ℕ)
      → (fetched_from answer state name asked wanted (ByPlan query tree (sizes_in state.catalogue))).events
      ≡ (asks_from (world_of state.catalogue answer query) tree asked (next_asks (world_of state.catalogue answer query) tree asked wanted)).events
  declared-events query tree name asked wanted =
      let seen = snapshot (sizes_in state.catalogue) state.catalogue in
      let w = world_of seen answer query in
      events-then (asks_from w tree asked (next_asks w tree asked wanted)) (with_asks name (next_asks w tree asked wanted) state)
      ∙ ap (λ (c : CatalogDef). (asks_from (world_of c answer query) tree asked (next_asks (world_of c answer query) tree asked wanted)).events) (snapshot-all answer state.catalogue held)
