-- What statements did in a session, from what they did to the catalogue or to the cursors.
use Rattle.std.proofs.Common.{ℕ, ℤ, ◌≡◌, ◌∙◌, ◌+◌, List, [], ◌∷◌, ◌++◌, map, nat_eq, refl, sym, ap, subst, inl, inr}
use Rattle.std.specs.Prelude.{IfOk, Some, None, Result, Ok, Err, ◌⊎◌}
use Rattle.std.specs.Cmp.Lexicographic.{pointwise}
use Rattle.std.specs.List.{IsDistinct}
use Rattle.std.specs.Map.{keys_of, lookup, set_value}
use Rattle.rs_value.specs.Answer.{Gives}
use Rattle.rs_value.specs.Results.{◌>>=◌}
use Rattle.rs_lex.specs.declared.token.Span.{Span}
use Rattle.rs_expr.specs.Scoring.{Answering}
use Rattle.rs_catalog.specs.Catalog.{CatalogDef}
use Rattle.rs_catalog.specs.Snapshot.{sizes_in, snapshot}
use Rattle.rs_syntax.specs.Syntax as syntax
use Rattle.rs_syntax.specs.Syntax.{Command, CreateTable, CreatePredicate, CreateRankIndex, Ask, Declare, Fetch, Close, Explain, ExplainAnalyze, Insert, command_of, query_of}
use Rattle.rs_syntax.specs.declared.name.Name.{Name}
use Rattle.rs_syntax.specs.declared.select.Select.{Select}
use Rattle.rs_syntax.specs.declared.statement.Statement.{Statement}
use Rattle.rs_syntax.specs.declared.statement.Statement.TheVariants as statement
use Rattle.rs_statement.specs.declared.sampling.Sampling.{Sampling}
use Rattle.rs_statement.specs.declared.evaluating.Evaluating.{Evaluating}
use Rattle.rs_statement.specs.declared.fault.Fault.{Fault}
use Rattle.rs_bind.specs.Queries.{count_of}
use Rattle.rs_typing.specs.declared.fault.BindFault.{BindFault}
use Rattle.rs_plan.specs.Trees.{PlanTree}
use Rattle.rs_query.specs.declared.query.Query.{Query}
use Rattle.rs_statement.specs.declared.fault.Fault.TheVariants.{Memory, Session}
use Rattle.rs_statement.specs.declared.fault.SessionFault.TheVariants.{Unknown}
use Rattle.rs_statement.specs.declared.session.CursorRows.{CursorRows}
use Rattle.rs_statement.specs.declared.session.CursorRows.TheVariants as held
use Rattle.rs_statement.specs.Parts.Session.{IsOfNoCursor, asked_of, cursors_of, next_of, next_of_cursor, open_cursor, rows_step, seen_by, source_of, state_of, wanted_step}
use Rattle.rs_statement.specs.Named.{named_in, without}
use Rattle.rs_statement.specs.Parts.Steps.{Leaves, Ran, Stepped}
use Rattle.rs_events.specs.Sequence.{run_of, still, then_step}
use Rattle.rs_statement.specs.Planned.{plan_for}
use Rattle.rs_outside.specs.Files.{Finds}
use Rattle.rs_statement.specs.Sampled.{sample_step}
use Rattle.rs_statement.specs.Steps.{Step}
use Rattle.rs_statement.specs.Session.{ByPlan, DoesInSession, OpenCursor, State, asked_more, beside_cursors, close_outcome, cursor_named, declare_step, declared_query, fetch_step, fetched_cursor, fetched_from, next_rows, opened_step, with_asks, with_cursor, without_cursor}
use Rattle.rs_statement.specs.Statements.{Does, bind_fault, or_bind_fault, refused_or}
use Rattle.rs_statement.specs.declared.evaluating.Evaluating.TheVariants.{Planned}
use Rattle.rs_events.specs.Environment.{Environment}
use Rattle.rs_statement.proofs.SampleSteps.{Stepped-then}
use Rattle.rs_statement.proofs.EntryFacts.{Leaves-found, is_key, named-then}
use Rattle.rs_statement.proofs.SessionFacts.{cursor-named, cursors-append, cursors-set, cursors-without}
use Rattle.rs_events.proofs.SoFar.{Stepped-broken}
use Rattle.rs_statement.proofs.StepFacts.{Stepped-bound}
use Rattle.rs_events.proofs.SteppedFacts.{Stepped-lines, Stepped-no_memory, Stepped-still}

-- what holds whatever a call answers
pub if-ok : {A : Type 0} (result : Result A Fault) (P : Type 0) → P → IfOk result (λ _. P)
if-ok (Ok a) P is = is
if-ok (Err fault) P is = tt

pub if-ok-map : {A : Type 0} (result : Result A Fault) (P Q : Type 0) → (P → Q) → IfOk result (λ _. P) → IfOk result (λ _. Q)
if-ok-map (Ok a) P Q turn is = turn is
if-ok-map (Err fault) P Q turn is = tt

-- what follows from a step that ended without a fault
pub if-stepped : {S : Type 0} (of : Step S → Type 0) (left : S) (result : Result (Unit {0}) Fault) (old new : Environment) (P : Type 0) → Stepped of left result old new
    → ((step : Step S) → of step → step.outcome ≡ Ok left → P) → IfOk result (λ _. P)
if-stepped of left (Ok done) old new P made follows = follows made.step made.does made.leaves
if-stepped of left (Err fault) old new P made follows = tt

-- a statement that is none of three kinds is of no cursor
pub of_no_cursor : (s : Statement) → ((name : Name) (select : Select) → s ≡ statement.Declare name select → ⊥)
    → ((count : ℤ × Span) (name : Name) → s ≡ statement.Fetch count name → ⊥) → ((name : Name) → s ≡ statement.Close name → ⊥) → IsOfNoCursor (command_of s)
of_no_cursor (statement.CreateTable name columns file) a b c = tt
of_no_cursor (statement.CreatePredicate name params max cost formula) a b c = tt
of_no_cursor (statement.CreateRankIndex name table predicate args at) a b c = tt
of_no_cursor (statement.Query select) a b c = tt
of_no_cursor (statement.Declare name select) a b c = absurd (a name select refl)
of_no_cursor (statement.Fetch count name) a b c = absurd (b count name refl)
of_no_cursor (statement.Close name) a b c = absurd (c name refl)
of_no_cursor (statement.Explain select) a b c = tt
of_no_cursor (statement.ExplainAnalyze select) a b c = tt
of_no_cursor (statement.Insert table rows) a b c = tt

-- what the three kinds do
module _ (finds : Finds) (answer : Answering) (evaluating : Evaluating) (state : State) (s : Statement) where
  pub does-declare : (name : Name) (select : Select) → s ≡ statement.Declare name select
      → DoesInSession finds answer evaluating state (command_of s) (declare_step evaluating answer state name (query_of select))
  does-declare name select e =
      subst (λ s. DoesInSession finds answer evaluating state (command_of s) (declare_step evaluating answer state name (query_of select))) (sym e) refl

  pub does-fetch : (count : ℤ × Span) (name : Name) → s ≡ statement.Fetch count name
      → DoesInSession finds answer evaluating state (command_of s) (fetch_step answer state count name)
  does-fetch count name e = subst (λ s. DoesInSession finds answer evaluating state (command_of s) (fetch_step answer state count name)) (sym e) refl

  pub does-close : (name : Name) → s ≡ statement.Close name → DoesInSession finds answer evaluating state (command_of s) (still (close_outcome state name))
  does-close name e = subst (λ s. DoesInSession finds answer evaluating state (command_of s) (still (close_outcome state name))) (sym e) refl

-- the others leave the cursors
does-beside : (finds : Finds) (answer : Answering) (evaluating : Evaluating) (state : State) (command : Command) (own : Step CatalogDef) → IsOfNoCursor command
    → Does finds answer evaluating state.catalogue command own → DoesInSession finds answer evaluating state command (beside_cursors state.cursors own)
does-beside finds answer evaluating state (CreateTable name columns file) own of does = (own, does, refl)
does-beside finds answer evaluating state (CreatePredicate name params max cost formula) own of does = (own, does, refl)
does-beside finds answer evaluating state (CreateRankIndex name table predicate args at) own of does = (own, does, refl)
does-beside finds answer evaluating state (Ask query) own of does = (own, does, refl)
does-beside finds answer evaluating state (Declare name query) own of does = absurd of
does-beside finds answer evaluating state (Fetch count name) own of does = absurd of
does-beside finds answer evaluating state (Close name) own of does = absurd of
does-beside finds answer evaluating state (Explain query) own of does = (own, does, refl)
does-beside finds answer evaluating state (ExplainAnalyze query) own of does = (own, does, refl)
does-beside finds answer evaluating state (Insert table rows) own of does = (own, does, refl)

run_of-beside : (cursors : List OpenCursor) (step : Step CatalogDef) → run_of (beside_cursors cursors step) ≡ run_of step
run_of-beside cursors step = go step.outcome where
  go : (outcome : Result CatalogDef Fault) → run_of (beside_cursors cursors (record step { outcome = outcome })) ≡ run_of (record step { outcome = outcome })
  go (Ok catalogue) = refl
  go (Err fault) = refl

pub Stepped-beside : (finds : Finds) (answer : Answering) (evaluating : Evaluating) (state : State) (command : Command) (left : CatalogDef) (result : Result (Unit {0}) Fault) (old new : Environment)
    → IsOfNoCursor command → Stepped (Does finds answer evaluating state.catalogue command) left result old new
    → Stepped (DoesInSession finds answer evaluating state command) (record { catalogue = left; cursors = state.cursors }) result old new
Stepped-beside finds answer evaluating state command left result old new of made = record {
  step = beside_cursors state.cursors made.step;
  does = does-beside finds answer evaluating state command made.step of made.does;
  ran = subst (λ run. Ran run result old new) (sym (run_of-beside state.cursors made.step)) made.ran;
  leaves = go result made.leaves;
} where
  go : (result : Result (Unit {0}) Fault) → IfOk result (λ done. made.step.outcome ≡ Ok left)
      → IfOk result (λ done. (beside_cursors state.cursors made.step).outcome ≡ Ok (record { catalogue = left; cursors = state.cursors }))
  go (Ok done) leaves = ap (λ outcome. outcome >>= (λ (catalogue : CatalogDef). Ok (record { catalogue = catalogue; cursors = state.cursors }))) leaves
  go (Err fault) leaves = tt

-- the same step, and what it leaves where it ends well
pub Stepped-left : {S : Type 0} (of : Step S → Type 0) (left other : S) (result : Result (Unit {0}) Fault) (old new : Environment) → IfOk result (λ _. left ≡ other)
    → Stepped of left result old new → Stepped of other result old new
Stepped-left of left other (Ok done) old new same made = subst (λ s. Stepped of s (Ok done) old new) same made
Stepped-left of left other (Err fault) old new same made = record { step = made.step; does = made.does; ran = made.ran; leaves = tt }

-- a step, and then a state is left
Stepped-leaves : {S T : Type 0} (first : Step T) (left : T) (state : S) (result : Result (Unit {0}) Fault) (old new : Environment) → Stepped (λ step. step ≡ first) left result old new
    → Stepped (λ step. step ≡ then_step first (still (Ok state))) state result old new
Stepped-leaves first left state (Ok done) old new made =
    Stepped-then first (still (Ok state)) left state (Ok done) old new new made (Stepped-still (λ step. step ≡ still (Ok state)) (Ok state) state (Ok done) new refl refl)
Stepped-leaves first left state (Err fault) old new made = Stepped-broken first (still (Ok state)) fault left state old new made

-- the cursor of a FETCH, or why there is none
module _ (state : State) (count : ℤ × Span) (name : Name) where
  pub fetched-refused : (why : BindFault) → Err why ≡ count_of count → Gives Memory (fetched_cursor state count name) (Err (bind_fault why))
  fetched-refused why e = inl (ap (λ r. or_bind_fault r >>= (λ wanted. cursor_named name.text state.cursors >>= (λ cursor. Ok (cursor, wanted)))) e)

  fetched-by : (wanted : ℕ) → Ok wanted ≡ count_of count → fetched_cursor state count name ≡ (cursor_named name.text state.cursors >>= (λ cursor. Ok (cursor, wanted)))
  fetched-by wanted e = ap (λ r. or_bind_fault r >>= (λ wanted. cursor_named name.text state.cursors >>= (λ cursor. Ok (cursor, wanted)))) (sym e)

  pub fetched-unknown : (wanted : ℕ) (told : Fault) → Ok wanted ≡ count_of count → cursor_named name.text state.cursors ≡ Err (Session Unknown name.text)
      → (told ≡ Session Unknown name.text) ⊎ (told ≡ Memory) → Gives Memory (fetched_cursor state count name) (Err told)
  fetched-unknown wanted told e none (inl is) = inl (ap Err is ∙ sym (fetched-by wanted e ∙ ap (λ r. r >>= (λ cursor. Ok (cursor, wanted))) none))
  fetched-unknown wanted told e none (inr is) = inr (ap Err is)

  pub fetched-known : (wanted : ℕ) (cursor : OpenCursor) → Ok wanted ≡ count_of count → cursor_named name.text state.cursors ≡ Ok cursor
      → Gives Memory (fetched_cursor state count name) (Ok (cursor, wanted))
  fetched-known wanted cursor e some = inl (sym (fetched-by wanted e ∙ ap (λ r. r >>= (λ cursor. Ok (cursor, wanted))) some))

-- the cursors behind a FETCH
pub fetched-cursors : (name : List ℕ) (asks : ℕ) (entries written : List (List ℕ × CursorRows)) (before after : CursorRows) (result : Result (Unit {0}) Fault) → IsDistinct (pointwise nat_eq) (keys_of entries)
    → lookup (is_key name) entries ≡ Some before → written ≡ set_value (is_key name) entries after
    → IfOk result (λ _. source_of after ≡ source_of before) → IfOk result (λ _. asked_of after ≡ asked_of before + asks)
    → IfOk result (λ _. cursors_of written ≡ map (asked_more name asks) (cursors_of entries))
fetched-cursors name asks entries written before after (Ok done) distinct found set source count = ap cursors_of set ∙ cursors-set name asks entries before after distinct found source count
fetched-cursors name asks entries written before after (Err fault) distinct found set source count = tt

module _ (answer : Answering) (catalogue : CatalogDef) (entries written : List (List ℕ × CursorRows)) (name : List ℕ) (wanted : ℕ) (result : Result (Unit {0}) Fault) (old new : Environment) where
  abbrev from : State
  from = state_of catalogue entries

  asked-left : (asks : ℕ) → IfOk result (λ _. cursors_of written ≡ map (asked_more name asks) (cursors_of entries)) → IfOk result (λ _. with_asks name asks from ≡ state_of catalogue written)
  asked-left asks same =
      if-ok-map result (cursors_of written ≡ map (asked_more name asks) (cursors_of entries)) (with_asks name asks from ≡ state_of catalogue written) (λ e. λ i. record { catalogue = catalogue; cursors = sym e i }) same

  -- what was put of the rows of a cursor, as a FETCH
  pub Fetched-rows : (kept : CursorRows) → IfOk result (λ _. cursors_of written ≡ map (asked_more name (next_of catalogue answer kept wanted)) (cursors_of entries))
      → Stepped (λ step. step ≡ rows_step catalogue answer kept wanted) (seen_by kept catalogue) result old new
      → Stepped (λ step. step ≡ fetched_from answer from name (asked_of kept) wanted (source_of kept)) (state_of catalogue written) result old new
  Fetched-rows (held.Asked cursor sizes) same made =
      let seen = snapshot sizes.items catalogue in
      let asks = next_of_cursor seen answer cursor wanted in
      let first = wanted_step seen answer cursor wanted in
      Stepped-left (λ step. step ≡ then_step first (still (Ok (with_asks name asks from)))) (with_asks name asks from) (state_of catalogue written) result old new
      (asked-left asks same) (Stepped-leaves first seen (with_asks name asks from) result old new made)
  Fetched-rows (held.Ready rows given) same made =
      let asks = next_rows rows.items given wanted in
      Stepped-left (λ step. step ≡ fetched_from answer from name given wanted (source_of (held.Ready rows given))) (with_asks name asks from) (state_of catalogue written) result old new
      (asked-left asks same) (Stepped-lines _ (with_asks name asks from) result old new (subst (λ step. Ran (run_of step) result old new) made.does made.ran))

-- CLOSE of a name
pub Leaves-closed : (catalogue : CatalogDef) (entries left : List (List ℕ × CursorRows)) (name : Name) (result : Result (Unit {0}) Fault)
    → Gives Memory (named_in (λ (entry : List ℕ × CursorRows). entry.0) (λ (entry : List ℕ × CursorRows). tt) name.text entries) result
    → left ≡ without (λ (entry : List ℕ × CursorRows). entry.0) name.text entries → Leaves (close_outcome (state_of catalogue entries) name) (state_of catalogue left) result
Leaves-closed catalogue entries left name result gives same =
    let next = Ok (without_cursor name.text (state_of catalogue entries)) in
    Leaves-found (close_outcome (state_of catalogue entries) name) (state_of catalogue left) _ result
    (ap (λ found. found >>= (λ cursor. next)) (cursor-named name.text entries)
    ∙ named-then (λ (entry : List ℕ × CursorRows). entry.0) open_cursor (λ (entry : List ℕ × CursorRows). tt) next name.text entries
    ∙ (λ i. named_in (λ (entry : List ℕ × CursorRows). entry.0) (λ (entry : List ℕ × CursorRows). tt) name.text entries
    >>= (λ done. Ok (record { catalogue = catalogue; cursors = (cursors-without name.text entries ∙ ap cursors_of (sym same)) i })))) gives

-- a cursor that was opened is the last one
module _ (catalogue : CatalogDef) (entries after : List (List ℕ × CursorRows)) (name : List ℕ) where
  opened-last : (kept : CursorRows) (cursor : OpenCursor) → after ≡ entries ++ (name, kept) ∷ [] → open_cursor (name, kept) ≡ cursor
      → state_of catalogue after ≡ record { catalogue = catalogue; cursors = cursors_of entries ++ cursor ∷ [] }
  opened-last kept cursor is same = λ i. record {
    catalogue = catalogue;
    cursors = (ap cursors_of is ∙ cursors-append entries name kept ∙ ap (λ last. cursors_of entries ++ last ∷ []) same) i;
  }

  pub opened-planned : (kept : CursorRows) (query : Query) (tree : PlanTree) (sizes : List ℕ) → after ≡ entries ++ (name, kept) ∷ [] → source_of kept ≡ ByPlan query tree sizes → asked_of kept ≡ 0
      → with_cursor name (ByPlan query tree sizes) (state_of catalogue entries) ≡ state_of catalogue after
  opened-planned kept query tree sizes is source none =
      sym (opened-last kept (record { name = name; source = ByPlan query tree sizes; asked = 0 }) is (λ i. record { name = name; source = source i; asked = none i }))

  pub opened-ready : (kept : CursorRows) → after ≡ entries ++ (name, kept) ∷ [] → asked_of kept ≡ 0 → with_cursor name (source_of kept) (state_of catalogue entries) ≡ state_of catalogue after
  opened-ready kept is none = sym (opened-last kept (record { name = name; source = source_of kept; asked = 0 }) is (λ i. record { name = name; source = source_of kept; asked = none i }))

-- a DECLARE by a plan whose query is bound, and whose sample was taken
module _ (answer : Answering) (sampling : Sampling) (name : Name) (state : State) (query : syntax.Query) (bound : Query) (left : State) (old new : Environment)
    (gives : Gives Memory (declared_query state name query) (Ok bound)) (sampled : Stepped (λ step. step ≡ sample_step state.catalogue sampling bound) state.catalogue (Ok tt) old new) where
  abbrev opened : State
  opened = with_cursor name.text (ByPlan bound (plan_for answer state.catalogue sampling bound) (sizes_in state.catalogue)) state

  abbrev Opens : Result (Unit {0}) Fault → Type 0
  Opens result = Stepped (λ step. step ≡ refused_or (opened_step (Planned sampling) answer name.text state) (declared_query state name query)) left result old new

  opened-then : (result : Result (Unit {0}) Fault) → Stepped (λ step. step ≡ still (Ok opened)) left result new new → Opens result
  opened-then result made =
      Stepped-bound (opened_step (Planned sampling) answer name.text state) (declared_query state name query) bound left result old new gives
      (Stepped-then (sample_step state.catalogue sampling bound) (still (Ok opened)) state.catalogue left result old new new sampled made)

  -- there was no memory to open its cursor
  pub Opened-cut : Opens (Err Memory)
  Opened-cut = opened-then (Err Memory) (Stepped-no_memory (λ step. step ≡ still (Ok opened)) (still (Ok opened)) left new refl)

  -- it was opened
  pub Opened-planned : opened ≡ left → Opens (Ok tt)
  Opened-planned same = opened-then (Ok tt) (Stepped-still (λ step. step ≡ still (Ok opened)) (Ok opened) left (Ok tt) new refl (ap Ok same))
