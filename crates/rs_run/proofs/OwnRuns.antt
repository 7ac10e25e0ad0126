-- The faults that the definition of a run can end with: never that a put failed or a call of the scorer, and Usage only where the words are of no form.
use Rattle.std.proofs.Common.{ℕ, ℤ, ◌≡◌, Bool, true, false, List, [], ◌∷◌, map, take, Some, None, refl, sym, subst}
use Rattle.std.specs.Prelude.{Option, option_map, Result, Ok, Err, unwrap_or, if◌then◌else◌}
use Rattle.std.specs.List.{flat_map}
use Rattle.std.specs.Str.{bytes_eq}
use Rattle.rs_lex.specs.declared.token.Span.{Span}
use Rattle.rs_syntax.specs.declared.name.Name.{Name}
use Rattle.rs_catalog.specs.Catalog.{room_in}
use Rattle.rs_catalog.specs.declared.room.RoomFault.{RoomFault}
use Rattle.rs_query.specs.Questions.{Question, asking, bad_score, first_of, is_bad, outcome_for}
use Rattle.rs_query.specs.Views.{all_rows}
use Rattle.rs_query.specs.declared.query.Query.TheVariants.{One, Set}
use Rattle.rs_plain.specs.Plain.{plain_faults, questions_of}
use Rattle.rs_plain.specs.declared.fault.PlainFault.{PlainFault}
use Rattle.rs_view.specs.Fresh.{whole_view}
use Rattle.rs_view.specs.Views.{rows_in}
use Rattle.rs_value.specs.Text.{text_of}
use Rattle.rs_value.specs.declared.text.TextFault.{TextFault}
use Rattle.rs_value.specs.declared.text.TextFault.TheVariants as text
use Rattle.rs_gen.specs.Files.{script_name}
use Rattle.rs_table.specs.Column.{place_of}
use Rattle.rs_statement.specs.declared.fault.Fault.{Fault}
use Rattle.rs_run.specs.declared.fault.RunFault.{RunFault}
use Rattle.rs_words.specs.declared.fault.WordFault.{WordFault}
use Rattle.rs_words.specs.declared.fault.WordFault.TheVariants as word
use Rattle.rs_words.proofs.FaultFacts.{EndsByNoPut, cert-no_put, check-no_put, feed-no_put}
use Rattle.rs_run.specs.FeedTold.{word_fault}
use Rattle.rs_run.specs.declared.fault.RunFault.TheVariants.{CertForm, CertTooLong, NotEligible, Order, Statement, Usage}
use Rattle.rs_run.specs.Faults.{WordsRun}
use Rattle.rs_run.specs.Words.{Certify, Check, Feed, Form, RunGenerated, RunScript, Threshold, Top, TopWords, Views}
use Rattle.rs_statement.specs.Content.{content_of, or_table_fault, table_limit}
use Rattle.rs_run.specs.Top.{best_rows, named_table, number_at, ranked_lines, scored_rows, top_lines, top_table}
use Rattle.rs_run.specs.Plain.{ScriptRuns, TextRuns, as_it_is, unlexed, unparsed, runs, unread, read, or_text_fault, script_limit, source_of, without_mark}
use Rattle.rs_expr.specs.Scoring.{Answering}
use Rattle.rs_outside.specs.Files.{Finds}
use Rattle.rs_statement.specs.Steps.{Run}
use Rattle.rs_events.specs.Run.{fetch_then, with_fault}
use Rattle.rs_run.specs.Generated.{finds_generated}
use Rattle.rs_run.specs.Running.{IsFormRun, IsRunOf, OfForm}
use Rattle.rs_run.specs.Numbered.{DoesNext, Numbered, first_statement, numbered_step}
use Rattle.rs_run.specs.Threshold.{DoesByScan, ScansRun, scan_for, scan_of, scan_step, scanned_or, scanned_step}
use Rattle.rs_run.specs.Told.{told_result, told_step}
use Rattle.rs_run.specs.Parts.Holding.{IsKept}
use Rattle.rs_run.specs.Viewing as viewing
use Rattle.rs_run.specs.Viewing.{DoesByViews, DoesKept, HeldView, Kept, ViewsRun, beside_views, declared_step, fetched_rows, first_view_statement, grown_outcome, grown_view, growth_questions, joined_step, made_outcome, made_step, named_step, room_for_view, view_named, viewed_or, viewed_step, without_view}
use Rattle.rs_run.specs.declared.fault.ScriptWord.TheVariants.{Ta, View}
use Rattle.rs_value.specs.Results.{◌>>=◌}
use Rattle.rs_syntax.specs.Syntax.{Ask, Close, Command, CreatePredicate, CreateRankIndex, CreateTable, Declare, Explain, ExplainAnalyze, Insert}
use Rattle.rs_syntax.specs.Syntax as syntax
use Rattle.rs_catalog.specs.Catalog.{CatalogDef, empty}
use Rattle.rs_bind.specs.Queries.{bound_query, count_of}
use Rattle.rs_typing.specs.declared.fault.BindFault.{BindFault}
use Rattle.rs_typing.specs.declared.fault.BindFault.TheVariants as bind
use Rattle.rs_query.specs.declared.query.Query.{Query}
use Rattle.rs_ta.specs.Depths.{ScanInput}
use Rattle.rs_events.specs.Events.{Event}
use Rattle.rs_events.specs.Sequence.{RunOf, RunsOn, Step, lines_step, still}
use Rattle.rs_statement.specs.Parts.Session.{IsOfNoCursor}
use Rattle.rs_statement.specs.Statements.{Does, or_bind_fault, query_fault, refused_or}
use Rattle.rs_statement.specs.Steps as statement
use Rattle.rs_statement.specs.Faults.{or_index_fault}
use Rattle.rs_statement.specs.Lines.{rank_lines}
use Rattle.rs_statement.specs.declared.evaluating.Evaluating.{Evaluating}
use Rattle.rs_statement.specs.declared.evaluating.Evaluating.TheVariants.{Plainly, Planned}
use Rattle.rs_statement.specs.declared.sampling.Sampling.TheVariants.{ByScores}
use Rattle.rs_statement.specs.Named.{most_named, or_session_fault}
use Rattle.rs_statement.specs.Session.{DoesInSession, State, StatementsRun, beside_cursors, nothing}
use Rattle.rs_statement.proofs.OwnFaults.{IsOwn, Own, OwnEnd, Own-content, Own-ranking, Own-statements, Own-table, Own-then, OwnRanking-scored}

-- the text of a script
Own-text : (r : Result (List ℕ) TextFault) → Own (or_text_fault r)
unfolding Own IsOwn
Own-text (Ok script) = tt
Own-text (Err (text.NotUtf8 at)) = tt
Own-text (Err text.Memory) = tt

Own-source : (name : List ℕ) (there : Option (List ℕ)) → Own (source_of name there)
Own-source name there = Own-then (content_of script_limit name there) (λ bytes. or_text_fault (text_of (without_mark bytes)))
    (Own-content script_limit name there) (λ bytes. Own-text (text_of (without_mark bytes)))

-- `top`
Own-top : (top : TopWords) (there : Option (List ℕ)) → Own (top_lines top there)
unfolding Own IsOwn
Own-top top there =
    Own-then (top_table top.file top.column there) (ranked_lines top)
    (Own-then (content_of table_limit top.file there) (λ bytes. or_table_fault top.file (named_table top.column bytes))
    (Own-content table_limit top.file there) (λ bytes. Own-table top.file (named_table top.column bytes)))
    (λ table. Own-then (best_rows top.column top.max top.count table) (λ rows. Ok (rank_lines 1 rows))
    (Own-then (or_index_fault top.column (scored_rows top.column top.max table)) _
    (Own-ranking top.column (scored_rows top.column top.max table) (OwnRanking-scored (number_at (unwrap_or (place_of top.column table.schema) 0)) top.max 1 table.rows)) (λ scored. tt))
    (λ rows. tt))

-- the statements of a script
Own-runs : (finds : Finds) (answer : Answering) (evaluating : Evaluating) (script : List ℕ) (run : Run) → TextRuns as_it_is (StatementsRun finds answer evaluating) script run → OwnEnd run.fault
unfolding OwnEnd IsOwn
Own-runs finds answer evaluating script _ (unlexed fault refuses) = tt
Own-runs finds answer evaluating script _ (unparsed tokens fault lexed refuses) = tt
Own-runs finds answer evaluating script run (runs commands _ made is) = Own-statements finds answer evaluating nothing commands run is

Own-script : (finds : Finds) (answer : Answering) (evaluating : Evaluating) (name : List ℕ) (run : Run) → ScriptRuns as_it_is finds (StatementsRun finds answer evaluating) name run → OwnEnd run.fault
unfolding Own OwnEnd
Own-script finds answer evaluating name _ (unread there fault found e) = subst Own e (Own-source name there)
Own-script finds answer evaluating name _ (read there script run found e is) = Own-runs finds answer evaluating script run is

-- the faults that the definition of a run of this form ends with
unfoldable pub OwnFault : Option Form → Option RunFault → Type 0
OwnFault form None = Unit {0}
OwnFault form (Some Usage) = form ≡ None
OwnFault form (Some (NotEligible word statement)) = Unit {0}
OwnFault form (Some (Order name row before got)) = Unit {0}
OwnFault form (Some (CertTooLong name)) = Unit {0}
OwnFault form (Some (CertForm name place)) = Unit {0}
OwnFault form (Some (Statement fault)) = IsOwn fault

OwnFault-end : (form : Option Form) (fault : Option Fault) → OwnEnd fault → OwnFault form (option_map Statement fault)
unfolding OwnFault OwnEnd
OwnFault-end form None own = tt
OwnFault-end form (Some fault) own = own

OwnEnd-lines : (name : List ℕ) (lines : Result (List (List ℕ)) Fault) → Own lines → OwnEnd (fetch_then name lines).fault
unfolding Own OwnEnd
OwnEnd-lines name (Ok lines) own = tt
OwnEnd-lines name (Err fault) own = own

OwnEnd-form : (finds : Finds) (answer : Answering) (form : Form) (run : Run) → IsRunOf finds answer form run → OwnEnd run.fault
unfolding OwnEnd IsOwn
OwnEnd-form finds answer (Top top) run is = subst (λ (r : Run). OwnEnd r.fault) (sym is.2) (OwnEnd-lines top.file (top_lines top is.0) (Own-top top is.0))
OwnEnd-form finds answer (RunScript name evaluating) run is = Own-script finds answer evaluating name run is
OwnEnd-form finds answer (RunGenerated number rows) run is =
    subst (λ (r : Run). OwnEnd r.fault) (sym is.2) (Own-script (finds_generated number rows) answer (Planned (ByScores number)) script_name is.0 is.1)
OwnEnd-form finds answer (Threshold name) run is = absurd is
OwnEnd-form finds answer (Feed words) run is = absurd is
OwnEnd-form finds answer (Certify words) run is = absurd is
OwnEnd-form finds answer (Check file) run is = absurd is
OwnEnd-form finds answer (Views name) run is = absurd is

-- the faults of words that have some of their own: never Usage, and of those of statements the same ones
unfoldable OwnTold : RunFault → Type 0
OwnTold Usage = ⊥
OwnTold (NotEligible word statement) = Unit {0}
OwnTold (Order name row before got) = Unit {0}
OwnTold (CertTooLong name) = Unit {0}
OwnTold (CertForm name place) = Unit {0}
OwnTold (Statement fault) = IsOwn fault

unfoldable OwnOutcome : {A : Type 0} → Result A RunFault → Type 0
OwnOutcome (Ok a) = Unit {0}
OwnOutcome (Err why) = OwnTold why

unfoldable OwnRun : Option RunFault → Type 0
OwnRun None = Unit {0}
OwnRun (Some why) = OwnTold why

-- a run whose steps have such faults alone
OwnRun-on : {S : Type 0} (rest : S → WordsRun → Type 0) (events : List Event) (outcome : Result S RunFault) (run : WordsRun) → OwnOutcome outcome
    → ((next : S) (more : WordsRun) → rest next more → OwnRun more.fault) → RunsOn rest events outcome run → OwnRun run.fault
unfolding OwnRun OwnOutcome
OwnRun-on rest events (Err why) run own each on = subst (λ (r : WordsRun). OwnRun r.fault) (sym on) own
OwnRun-on rest events (Ok next) run own each on = subst (λ (r : WordsRun). OwnRun r.fault) (sym on.2) (each next on.0 on.1)

OwnRun-of : {S C : Type 0} (does : S → C → Step RunFault S → Type 0) → ((state : S) (command : C) (step : Step RunFault S) → does state command step → OwnOutcome step.outcome)
    → (state : S) (commands : List C) (run : WordsRun) → RunOf does state commands run → OwnRun run.fault
unfolding OwnRun
OwnRun-of does own state [] run is = subst (λ (r : WordsRun). OwnRun r.fault) (sym is) tt
OwnRun-of does own state (command ∷ rest) run is =
    OwnRun-on (λ next more. RunOf does next rest more) is.0.events is.0.outcome run (own state command is.0 is.1) (λ next more. OwnRun-of does own next rest more) is.2

-- and a script of such statements
OwnRun-text : (statements : List Command → WordsRun → Type 0) → ((commands : List Command) (run : WordsRun) → statements commands run → OwnRun run.fault)
    → (script : List ℕ) (run : WordsRun) → TextRuns Statement statements script run → OwnRun run.fault
unfolding OwnRun OwnTold IsOwn
OwnRun-text statements own script _ (unlexed fault refuses) = tt
OwnRun-text statements own script _ (unparsed tokens fault lexed refuses) = tt
OwnRun-text statements own script run (runs commands _ made is) = own commands run is

OwnRun-script : (finds : Finds) (statements : List Command → WordsRun → Type 0) → ((commands : List Command) (run : WordsRun) → statements commands run → OwnRun run.fault)
    → (name : List ℕ) (run : WordsRun) → ScriptRuns Statement finds statements name run → OwnRun run.fault
unfolding OwnRun OwnTold Own
OwnRun-script finds statements own name _ (unread there fault found e) = subst Own e (Own-source name there)
OwnRun-script finds statements own name _ (read there script run found e is) = OwnRun-text statements own script run is

-- a statement that is of no cursor, told as one of words: its run alone in a script has a fault of statements
Own-alone : (finds : Finds) (answer : Answering) (catalogue : CatalogDef) (command : Command) (own : statement.Step CatalogDef) → IsOfNoCursor command → Does finds answer Plainly catalogue command own
    → OwnOutcome (told_step Statement own).outcome
unfolding OwnOutcome OwnTold OwnEnd
Own-alone finds answer catalogue command own of does = go own.outcome refl where
  state : State
  state = record { catalogue = catalogue; cursors = [] }

  in_session : (command : Command) → IsOfNoCursor command → Does finds answer Plainly catalogue command own → DoesInSession finds answer Plainly state command (beside_cursors [] own)
  in_session (Declare name query) of does = absurd of
  in_session (syntax.Fetch count name) of does = absurd of
  in_session (Close name) of does = absurd of
  in_session (CreateTable name columns file) of does = (own, does, refl)
  in_session (CreatePredicate name params max cost formula) of does = (own, does, refl)
  in_session (CreateRankIndex name table predicate args at) of does = (own, does, refl)
  in_session (Ask query) of does = (own, does, refl)
  in_session (Explain query) of does = (own, does, refl)
  in_session (ExplainAnalyze query) of does = (own, does, refl)
  in_session (Insert table rows) of does = (own, does, refl)

  ends : (fault : Fault) → own.outcome ≡ Err fault → OwnEnd (Some fault)
  ends fault e = Own-statements finds answer Plainly state (command ∷ []) (record { events = own.events; fault = Some fault }) (
    beside_cursors [] own,
    in_session command of does,
    subst (λ (outcome : Result CatalogDef Fault). RunsOn (λ next more. RunOf (DoesInSession finds answer Plainly) next [] more) own.events
        (outcome >>= λ catalogue. Ok (record { catalogue = catalogue; cursors = [] })) (record { events = own.events; fault = Some fault })) (sym e) refl,
  )

  go : (outcome : Result CatalogDef Fault) → own.outcome ≡ outcome → OwnOutcome (told_result Statement outcome)
  go (Ok next) e = tt
  go (Err fault) e = ends fault e

-- the statements of a script whose queries are answered by scans
OwnOutcome-query : (answer : Answering) (number : ℕ) (catalogue : CatalogDef) (query : Query) → OwnOutcome (scan_step answer number catalogue query).outcome
unfolding OwnOutcome OwnTold
OwnOutcome-query answer number catalogue query = go (scan_for catalogue query) where
  go : (scan : Option ScanInput) → OwnOutcome (scan_of answer number catalogue query scan).outcome
  go None = tt
  go (Some scan) = tt

OwnOutcome-bound : (answer : Answering) (number : ℕ) (catalogue : CatalogDef) (query : syntax.Query) → OwnOutcome (scanned_step answer number catalogue query).outcome
unfolding OwnOutcome OwnTold IsOwn
OwnOutcome-bound answer number catalogue query = go (bound_query catalogue query) where
  go : (bound : Result Query BindFault) → OwnOutcome (scanned_or answer number catalogue (or_bind_fault bound)).outcome
  go (Ok bound) = OwnOutcome-query answer number catalogue bound
  go (Err (bind.At why at)) = tt
  go (Err bind.Memory) = tt

OwnOutcome-by_scan : (finds : Finds) (answer : Answering) (number : ℕ) (catalogue : CatalogDef) (command : Command) (step : Step RunFault CatalogDef) → DoesByScan finds answer number catalogue command step
    → OwnOutcome step.outcome
unfolding OwnOutcome OwnTold
OwnOutcome-by_scan finds answer number catalogue command step = go command where
  same : (own : Step RunFault CatalogDef) → OwnOutcome own.outcome → step ≡ own → OwnOutcome step.outcome
  same own is e = subst (λ (s : Step RunFault CatalogDef). OwnOutcome s.outcome) (sym e) is

  told : (command : Command) → IsOfNoCursor command → (own : statement.Step CatalogDef) × Does finds answer Plainly catalogue command own × (step ≡ told_step Statement own) → OwnOutcome step.outcome
  told command of does = same (told_step Statement does.0) (Own-alone finds answer catalogue command does.0 of does.1) does.2

  go : (command : Command) → DoesByScan finds answer number catalogue command step → OwnOutcome step.outcome
  go (Ask query) does = same (scanned_step answer number catalogue query) (OwnOutcome-bound answer number catalogue query) does
  go (Declare name query) does = same (still (Err (NotEligible Ta number))) tt does
  go (syntax.Fetch count name) does = same (still (Err (NotEligible Ta number))) tt does
  go (Close name) does = same (still (Err (NotEligible Ta number))) tt does
  go (Explain query) does = same (still (Err (NotEligible Ta number))) tt does
  go (ExplainAnalyze query) does = same (still (Err (NotEligible Ta number))) tt does
  go (CreateTable name columns file) does = told (CreateTable name columns file) tt does
  go (CreatePredicate name params max cost formula) does = told (CreatePredicate name params max cost formula) tt does
  go (CreateRankIndex name table predicate args at) does = told (CreateRankIndex name table predicate args at) tt does
  go (Insert table rows) does = told (Insert table rows) tt does

-- and so does the step of a number
OwnOutcome-next : {K : Type 0} (does : ℕ → K → Command → Step RunFault K → Type 0) → ((number : ℕ) (kept : K) (command : Command) (step : Step RunFault K) → does number kept command step → OwnOutcome step.outcome)
    → (state : Numbered K) (command : Command) (step : Step RunFault (Numbered K)) → DoesNext does state command step → OwnOutcome step.outcome
unfolding OwnOutcome
OwnOutcome-next {K} does own state command step next =
    subst (λ (s : Step RunFault (Numbered K)). OwnOutcome s.outcome) (sym next.2)
    (go next.0.outcome (own state.number state.kept command next.0 next.1)) where
      go : (outcome : Result K RunFault) → OwnOutcome outcome → OwnOutcome (numbered_step state.number (record { events = next.0.events; outcome = outcome })).outcome
      go (Ok kept) own = tt
      go (Err why) own = own

-- the statements of a script whose queries are kept as views: what each step ends with
Own-told : {A : Type 0} (outcome : Result A Fault) → Own outcome → OwnOutcome (told_result Statement outcome)
unfolding Own OwnOutcome OwnTold
Own-told (Ok a) own = tt
Own-told (Err fault) own = own

Own-untold : {A : Type 0} (outcome : Result A Fault) → OwnOutcome (told_result Statement outcome) → Own outcome
unfolding Own OwnOutcome OwnTold
Own-untold (Ok a) own = tt
Own-untold (Err fault) own = own

Own-bind : {A : Type 0} (bound : Result A BindFault) → Own (or_bind_fault bound)
unfolding Own IsOwn
Own-bind (Ok a) = tt
Own-bind (Err (bind.At why at)) = tt
Own-bind (Err bind.Memory) = tt

Own-refused : {A S : Type 0} (does : A → statement.Step S) (bound : Result A Fault) → Own bound → ((a : A) → Own (does a).outcome) → Own (refused_or does bound).outcome
unfolding Own
Own-refused does (Ok a) own each = each a
Own-refused does (Err fault) own each = own

-- questions in order end with a bad score, or well
module _ {A B : Type 0} (catalogue : CatalogDef) (outcome : Result A PlainFault → Result B Fault) (good : (a : A) → Own (outcome (Ok a)))
    (bad : (fault : PlainFault) → outcome (Err fault) ≡ Err (query_fault catalogue fault)) where
  Own-asking : (answer : Answering) (questions : List Question) (value : A) → Own (outcome (asking plain_faults answer catalogue questions value).outcome)
  unfolding Own IsOwn
  Own-asking answer questions value = go (first_of (is_bad answer catalogue) questions) where
    go : (first : Option Question) → Own (outcome (outcome_for plain_faults answer catalogue first value))
    go None = good value
    go (Some q) = subst Own (sym (bad (bad_score plain_faults answer catalogue q))) tt

Own-made : (answer : Answering) (name : List ℕ) (kept : Kept) (query : Query) → Own (made_step answer name kept query).outcome
unfolding Own
Own-made answer name kept query =
    Own-asking kept.catalogue (made_outcome name kept) (λ view. tt) (λ fault. refl) answer (questions_of kept.catalogue query (all_rows kept.catalogue query)) (whole_view answer kept.catalogue query)

Own-room : (name : List ℕ) (room : Result (Unit {0}) RoomFault) → Own (or_session_fault name room)
unfolding Own IsOwn
Own-room name (Ok room) = tt
Own-room name (Err why) = tt

Own-named : (answer : Answering) (name : List ℕ) (kept : Kept) (query : Query) → Own (named_step answer name kept query).outcome
Own-named answer name kept query =
    Own-refused (λ room. made_step answer name kept query) (room_for_view name kept.views)
    (Own-room name (room_in name most_named (map (λ (held : HeldView). held.0) kept.views))) (λ room. Own-made answer name kept query)

OwnOutcome-viewed : (answer : Answering) (number : ℕ) (name : List ℕ) (kept : Kept) (query : Query) → OwnOutcome (viewed_step answer number name kept query).outcome
unfolding OwnOutcome OwnTold
OwnOutcome-viewed answer number name kept (One block limit) = go block.distinct where
  go : (b : Bool) → OwnOutcome (if b then still (Err (NotEligible View number)) else told_step Statement (named_step answer name kept (One block limit))).outcome
  go true = tt
  go false = Own-told (named_step answer name kept (One block limit)).outcome (Own-named answer name kept (One block limit))
OwnOutcome-viewed answer number name kept (Set op left right limit) = tt

OwnOutcome-declared : (answer : Answering) (number : ℕ) (kept : Kept) (name : Name) (query : syntax.Query) → OwnOutcome (declared_step answer number kept name query).outcome
unfolding OwnOutcome OwnTold IsOwn
OwnOutcome-declared answer number kept name query = go (bound_query kept.catalogue query) where
  go : (bound : Result Query BindFault) → OwnOutcome (viewed_or answer number name.text kept (or_bind_fault bound)).outcome
  go (Ok bound) = OwnOutcome-viewed answer number name.text kept bound
  go (Err (bind.At why at)) = tt
  go (Err bind.Memory) = tt

Own-view_named : (name : List ℕ) (views : List HeldView) → Own (view_named name views)
unfolding Own IsOwn
Own-view_named name [] = tt
Own-view_named name (held ∷ views) = go (bytes_eq held.0 name) (Own-view_named name views) where
  go : (b : Bool) → Own (view_named name views) → Own (if b then Ok held.1 else view_named name views)
  go true own = tt
  go false own = own

Own-fetched : (kept : Kept) (count : ℤ × Span) (name : Name) → Own (fetched_rows kept count name)
unfolding Own
Own-fetched kept count name =
    Own-then (or_bind_fault (count_of count)) (λ wanted. view_named name.text kept.views >>= (λ view. Ok (take wanted (rows_in kept.catalogue view)))) (Own-bind (count_of count))
    (λ wanted. Own-then (view_named name.text kept.views) (λ view. Ok (take wanted (rows_in kept.catalogue view))) (Own-view_named name.text kept.views) (λ view. tt))

Own-joined : (answer : Answering) (views : List HeldView) (own : statement.Step CatalogDef) → Own own.outcome → Own (joined_step answer views own).outcome
unfolding Own
Own-joined answer views own is = go own.outcome is where
  go : (outcome : Result CatalogDef Fault) → Own outcome → Own (joined_step answer views (record { events = own.events; outcome = outcome })).outcome
  go (Ok catalogue) is =
      Own-asking catalogue (grown_outcome catalogue) (λ views. tt) (λ fault. refl) answer (flat_map (growth_questions catalogue) views) (map (grown_view answer catalogue) views)
  go (Err fault) is = is

Own-kept : (finds : Finds) (answer : Answering) (kept : Kept) (command : Command) (step : statement.Step Kept) → IsKept command → DoesKept finds answer kept command step → Own step.outcome
unfolding Own
Own-kept finds answer kept command step is does = go command is does where
  alone : (command : Command) → IsOfNoCursor command → (own : statement.Step CatalogDef) → Does finds answer Plainly kept.catalogue command own → Own own.outcome
  alone command of own does = Own-untold own.outcome (Own-alone finds answer kept.catalogue command own of does)

  same : (own : statement.Step Kept) → Own own.outcome → step ≡ own → Own step.outcome
  same own is e = subst (λ (s : statement.Step Kept). Own s.outcome) (sym e) is

  beside : (command : Command) → IsOfNoCursor command → (own : statement.Step CatalogDef) × Does finds answer Plainly kept.catalogue command own × (step ≡ beside_views kept.views own) → Own step.outcome
  beside command of does =
      same (beside_views kept.views does.0) (Own-then does.0.outcome (λ catalogue. Ok (record { catalogue = catalogue; views = kept.views })) (alone command of does.0 does.1) (λ catalogue. tt)) does.2

  go : (command : Command) → IsKept command → DoesKept finds answer kept command step → Own step.outcome
  go (CreateTable name columns file) is does = beside (CreateTable name columns file) tt does
  go (CreatePredicate name params max cost formula) is does = beside (CreatePredicate name params max cost formula) tt does
  go (CreateRankIndex name table predicate args at) is does = beside (CreateRankIndex name table predicate args at) tt does
  go (Insert table rows) is does =
      same (joined_step answer kept.views does.0) (Own-joined answer kept.views does.0 (alone (Insert table rows) tt does.0 does.1)) does.2
  go (syntax.Fetch count name) is does =
      same (viewing.fetch_step kept count name) (Own-refused (λ rows. lines_step (rank_lines 1 rows) kept) (fetched_rows kept count name) (Own-fetched kept count name) (λ rows. tt)) does
  go (Close name) is does =
      same (still (viewing.close_outcome kept name))
      (Own-then (view_named name.text kept.views) (λ view. Ok (without_view name.text kept)) (Own-view_named name.text kept.views) (λ view. tt)) does
  go (Declare name query) is does = absurd is
  go (Ask query) is does = absurd is
  go (Explain query) is does = absurd is
  go (ExplainAnalyze query) is does = absurd is

OwnOutcome-by_views : (finds : Finds) (answer : Answering) (number : ℕ) (kept : Kept) (command : Command) (step : Step RunFault Kept) → DoesByViews finds answer number kept command step
    → OwnOutcome step.outcome
unfolding OwnOutcome OwnTold
OwnOutcome-by_views finds answer number kept command step = go command where
  same : (own : Step RunFault Kept) → OwnOutcome own.outcome → step ≡ own → OwnOutcome step.outcome
  same own is e = subst (λ (s : Step RunFault Kept). OwnOutcome s.outcome) (sym e) is

  told : (command : Command) → IsKept command → (own : statement.Step Kept) × DoesKept finds answer kept command own × (step ≡ told_step Statement own) → OwnOutcome step.outcome
  told command is does = same (told_step Statement does.0) (Own-told does.0.outcome (Own-kept finds answer kept command does.0 is does.1)) does.2

  go : (command : Command) → DoesByViews finds answer number kept command step → OwnOutcome step.outcome
  go (Declare name query) does = same (declared_step answer number kept name query) (OwnOutcome-declared answer number kept name query) does
  go (Ask query) does = same (still (Err (NotEligible View number))) tt does
  go (Explain query) does = same (still (Err (NotEligible View number))) tt does
  go (ExplainAnalyze query) does = same (still (Err (NotEligible View number))) tt does
  go (syntax.Fetch count name) does = told (syntax.Fetch count name) tt does
  go (Close name) does = told (Close name) tt does
  go (CreateTable name columns file) does = told (CreateTable name columns file) tt does
  go (CreatePredicate name params max cost formula) does = told (CreatePredicate name params max cost formula) tt does
  go (CreateRankIndex name table predicate args at) does = told (CreateRankIndex name table predicate args at) tt does
  go (Insert table rows) does = told (Insert table rows) tt does

-- the faults of a run with a form
OwnFault-told : (form : Form) (fault : Option RunFault) → OwnRun fault → OwnFault (Some form) fault
unfolding OwnFault OwnRun OwnTold
OwnFault-told form None own = tt
OwnFault-told form (Some Usage) own = absurd own
OwnFault-told form (Some (NotEligible word statement)) own = tt
OwnFault-told form (Some (Order name row before got)) own = tt
OwnFault-told form (Some (CertTooLong name)) own = tt
OwnFault-told form (Some (CertForm name place)) own = tt
OwnFault-told form (Some (Statement fault)) own = own

-- the faults of the words over feeds and certificates
OwnRun-feed : (left right : List ℕ) (fault : Option WordFault) → EndsByNoPut fault → OwnRun (option_map (word_fault left right) fault)
unfolding OwnRun OwnTold IsOwn
OwnRun-feed left right None own = tt
OwnRun-feed left right (Some (word.Read file why)) own = tt
OwnRun-feed left right (Some word.Write) own = own
OwnRun-feed left right (Some (word.Table file why)) own = tt
OwnRun-feed left right (Some (word.Range file why)) own = tt
OwnRun-feed left right (Some (word.Order side row before got)) own = tt
OwnRun-feed left right (Some (word.CertTooLong file)) own = tt
OwnRun-feed left right (Some (word.CertForm place)) own = tt
OwnRun-feed left right (Some word.Memory) own = tt

form_fault : (finds : Finds) (answer : Answering) (form : Form) (run : WordsRun) → IsFormRun finds answer form run → OwnFault (Some form) run.fault
form_fault finds answer form run is = go form is where
  statements : (form : Form) → (own : Run) × IsRunOf finds answer form own × (run ≡ with_fault Statement own) → OwnFault (Some form) run.fault
  statements form is = subst (λ (r : WordsRun). OwnFault (Some form) r.fault) (sym is.2) (OwnFault-end (Some form) is.0.fault (OwnEnd-form finds answer form is.0 is.1))

  go : (form : Form) → IsFormRun finds answer form run → OwnFault (Some form) run.fault
  go (Top top) is = statements (Top top) is
  go (RunScript name evaluating) is = statements (RunScript name evaluating) is
  go (RunGenerated number rows) is = statements (RunGenerated number rows) is
  go (Threshold name) is = OwnFault-told (Threshold name) run.fault
      (OwnRun-script finds (ScansRun finds answer) (λ commands run is. OwnRun-of (DoesNext (DoesByScan finds answer)) (OwnOutcome-next (DoesByScan finds answer) (OwnOutcome-by_scan finds answer)) (first_statement empty) commands run is) name run is)
  go (Views name) is = OwnFault-told (Views name) run.fault
      (OwnRun-script finds (ViewsRun finds answer) (λ commands run is. OwnRun-of (DoesNext (DoesByViews finds answer)) (OwnOutcome-next (DoesByViews finds answer) (OwnOutcome-by_views finds answer)) first_view_statement commands run is) name run is)
  go (Feed words) is = OwnFault-told (Feed words) run.fault
      (subst (λ (r : WordsRun). OwnRun r.fault) (sym is.2) (OwnRun-feed words.left words.right is.0.fault (feed-no_put finds words is.0 is.1)))
  go (Certify words) is = OwnFault-told (Certify words) run.fault
      (subst (λ (r : WordsRun). OwnRun r.fault) (sym is.2) (OwnRun-feed words.left words.right is.0.fault (cert-no_put finds words is.0 is.1)))
  go (Check file) is = OwnFault-told (Check file) run.fault
      (subst (λ (r : WordsRun). OwnRun r.fault) (sym is.2) (OwnRun-feed file file is.0.fault (check-no_put finds file is.0 is.1)))

pub own_fault : (finds : Finds) (answer : Answering) (form : Option Form) (run : WordsRun) → OfForm finds answer form run → OwnFault form run.fault
unfolding OwnFault
own_fault finds answer None run is = subst (λ (r : WordsRun). OwnFault None r.fault) (sym is) refl
own_fault finds answer (Some form) run is = form_fault finds answer form run is
