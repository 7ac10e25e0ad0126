-- All words have a run, whatever the files hold and the scorer answers.
use Rattle.std.proofs.Common.{ℕ, ◌≡◌, ◌∷◌, List, [], refl, inl, inr, ◌⊎◌}
use Rattle.std.specs.Prelude.{None, Option, Some, Result, Ok, Err, length, ◌≤◌}
use Rattle.rs_outside.specs.Files.{Contents, Finds, all_known, file_named, finds_in}
use Rattle.rs_outside.proofs.ContentsFacts.{finds-some}
use Rattle.rs_gen.specs.Files.{generated_folder, script_name}
use Rattle.rs_table.specs.Column.{Column}
use Rattle.rs_lex.specs.Spelling.{RefusesBytes, Spells, most_tokens}
use Rattle.rs_lex.specs.declared.fault.LexFault.{LexFault}
use Rattle.rs_lex.specs.declared.token.Token.{Token}
use Rattle.rs_lex.proofs.EachFacts.{script-is_lexed}
use Rattle.rs_syntax.specs.Syntax.{Ask, Close, Command, CreatePredicate, CreateRankIndex, CreateTable, Declare, Explain, ExplainAnalyze, Insert}
use Rattle.rs_syntax.specs.Syntax as syntax
use Rattle.rs_syntax.specs.declared.name.Name.{Name}
use Rattle.rs_syntax.proofs.EachFacts.{IsParsed, each_is_parsed}
use Rattle.rs_expr.specs.Scoring.{Answering}
use Rattle.rs_catalog.specs.Catalog.{CatalogDef, empty}
use Rattle.rs_catalog.specs.declared.room.What.TheVariants as what
use Rattle.rs_bind.specs.Indexes.{index_def_of}
use Rattle.rs_bind.specs.Inserts.{insert_of}
use Rattle.rs_bind.specs.Names.{columns_of}
use Rattle.rs_events.specs.Events.{Event, Fetch}
use Rattle.rs_events.specs.Run as events
use Rattle.rs_events.specs.Run.{behind, fails, fetch_then, with_fault}
use Rattle.rs_events.specs.Sequence as events_in
use Rattle.rs_events.specs.Sequence.{RunOf, RunsOn, still}
use Rattle.rs_events.proofs.LoopFacts.{some-run}
use Rattle.rs_statement.specs.Inserts.{insert_step}
use Rattle.rs_statement.specs.Session.{DoesInSession, State, StatementsRun, beside_cursors, close_outcome, declare_step, fetch_step, nothing}
use Rattle.rs_statement.specs.Statements.{Does, DoesTable, analyze_step, explain_step, index_step, or_bind_fault, predicate_outcome, refused_or, select_step, table_step, with_room}
use Rattle.rs_statement.specs.Steps.{Run, Step}
use Rattle.rs_statement.specs.declared.evaluating.Evaluating.{Evaluating}
use Rattle.rs_statement.specs.declared.evaluating.Evaluating.TheVariants.{Plainly, Planned}
use Rattle.rs_statement.specs.declared.sampling.Sampling.TheVariants.{ByScores}
use Rattle.rs_statement.specs.declared.fault.Fault.{Fault}
use Rattle.rs_statement.specs.declared.fault.Fault.TheVariants.{Script}
use Rattle.rs_statement.specs.declared.script_fault.ScriptFault.TheVariants.{Lex, Parse}
use Rattle.rs_run.specs.Faults.{WordsRun}
use Rattle.rs_run.specs.Generated.{finds_generated, unfetched}
use Rattle.rs_run.specs.Plain.{HasTokens, ScriptRuns, TextRuns, as_it_is, read, runs, source_of, unlexed, unparsed, unread}
use Rattle.rs_run.specs.Running.{IsFormRun, IsRun, IsRunOf, OfForm}
use Rattle.rs_run.specs.Numbered.{DoesNext, first_statement}
use Rattle.rs_run.specs.Threshold.{DoesByScan, ScansRun, scanned_step}
use Rattle.rs_run.specs.Told.{told_step}
use Rattle.rs_run.specs.Top.{top_lines}
use Rattle.rs_run.specs.Viewing as viewing
use Rattle.rs_run.specs.Viewing.{DoesByViews, DoesKept, Kept, ViewsRun, beside_views, declared_step, first_view_statement, joined_step}
use Rattle.rs_words.specs.Certifying.{joined_cert_run}
use Rattle.rs_words.specs.Feeding.{pairs_run}
use Rattle.rs_words.proofs.CheckedFacts.{some-check_run}
use Rattle.rs_words.proofs.RunFacts.{some-words_run}
use Rattle.rs_run.specs.FeedTold.{word_fault}
use Rattle.rs_run.specs.Words.{Certify, Check, Feed, Form, RunGenerated, RunScript, Threshold, Top, Views, form_of}
use Rattle.rs_run.specs.declared.fault.RunFault.{RunFault}
use Rattle.rs_run.specs.declared.fault.RunFault.TheVariants.{NotEligible, Statement, Usage}
use Rattle.rs_run.specs.declared.fault.ScriptWord.TheVariants.{Ta, View}
use Rattle.rs_run.proofs.NumberedFacts.{some-next}

-- a fetch finds something under each name, a file or none
abbrev pub HasFiles : Finds → Type 0
HasFiles finds = (name : List ℕ) → (there : Option (List ℕ)) × finds name there

pub finds_in-has : (contents : Contents) → HasFiles (finds_in contents)
finds_in-has contents = finds-some contents

module _ (finds : Finds) (has : HasFiles finds) (answer : Answering) (evaluating : Evaluating) where
  -- each statement does something
  table : (catalogue : CatalogDef) (name : Name) (file : List ℕ) (columns : Result (List Column) Fault) → (step : Step CatalogDef) × DoesTable finds catalogue name file columns step
  table catalogue name file (Err fault) = (still (Err fault), refl)
  table catalogue name file (Ok columns) = let there = has file in (table_step catalogue name file columns there.0, (there.0, there.1, refl))

  statement : (state : State) (command : Command) → (step : Step State) × DoesInSession finds answer evaluating state command step
  statement state (CreateTable name columns file) =
      let own = table state.catalogue name file (with_room state.catalogue what.Table name (columns_of columns)) in
      (beside_cursors state.cursors own.0, (own.0, own.1, refl))
  statement state (CreatePredicate name params max cost formula) =
      let own = still (predicate_outcome state.catalogue name (CreatePredicate name params max cost formula)) in
      (beside_cursors state.cursors own, (own, refl, refl))
  statement state (CreateRankIndex name table predicate args at) =
      let own = refused_or (index_step answer state.catalogue) (with_room state.catalogue what.Index name (index_def_of state.catalogue (CreateRankIndex name table predicate args at))) in
      (beside_cursors state.cursors own, (own, refl, refl))
  statement state (Ask query) = let own = select_step evaluating answer state.catalogue query in (beside_cursors state.cursors own, (own, refl, refl))
  statement state (Explain query) = let own = explain_step evaluating answer state.catalogue query in (beside_cursors state.cursors own, (own, refl, refl))
  statement state (ExplainAnalyze query) = let own = analyze_step evaluating answer state.catalogue query in (beside_cursors state.cursors own, (own, refl, refl))
  statement state (Insert name rows) =
      let own = refused_or (insert_step answer state.catalogue) (or_bind_fault (insert_of state.catalogue (Insert name rows))) in
      (beside_cursors state.cursors own, (own, refl, refl))
  statement state (Declare name query) = (declare_step evaluating answer state name query, refl)
  statement state (syntax.Fetch count name) = (fetch_step answer state count name, refl)
  statement state (Close name) = (still (close_outcome state name), refl)

  goes_on : (rest : State → Run → Type 0) (events : List Event) (outcome : Result State Fault) → ((next : State) → (run : Run) × rest next run)
      → (run : Run) × RunsOn rest events outcome run
  goes_on rest events (Err fault) each = (record { events = events; fault = Some fault }, refl)
  goes_on rest events (Ok next) each = let more = each next in (behind events more.0, (more.0, more.1, refl))

  statements : (commands : List Command) (state : State) → (run : Run) × RunOf (DoesInSession finds answer evaluating) state commands run
  statements [] state = (record { events = []; fault = None }, refl)
  statements (command ∷ rest) state =
      let step = statement state command in
      let on = goes_on (λ next more. RunOf (DoesInSession finds answer evaluating) next rest more) step.0.events step.0.outcome (λ next. statements rest next) in
      (on.0, (step.0, step.1, on.1))

  pub each_statements : (commands : List Command) → (run : Run) × StatementsRun finds answer evaluating commands run
  each_statements commands = statements commands nothing

-- where any statements have a run, whatever the type of faults
module _ {F : Type 0} (told : Fault → F) (of : List Command → events.Run F → Type 0) (each : (commands : List Command) → (run : events.Run F) × of commands run) where
  -- each text of a script has a run
  pub text-has_run : (script : List ℕ) → (run : events.Run F) × TextRuns told of script run
  text-has_run script = lexed (script-is_lexed script)
    where
      parsed : (tokens : List Token) → HasTokens script tokens → IsParsed script tokens → (run : events.Run F) × TextRuns told of script run
      parsed tokens spelled (inl made) =
          let run = each made.0 in
          (run.0, runs made.0 run.0 (record { tokens = tokens; lexed = spelled; parsed = made.1; sound = made.2 }) run.1)
      parsed tokens spelled (inr none) = (fails (told (Script (Parse none.0))), unparsed tokens none.0 spelled none.1)

      lexed : ((tokens : List Token) × (length tokens ≤ most_tokens) × Spells 0 script tokens) ⊎ ((fault : LexFault) × RefusesBytes 0 0 script fault)
          → (run : events.Run F) × TextRuns told of script run
      lexed (inl made) = parsed made.0 (record { spells = made.2; few = made.1 }) (each_is_parsed script made.0)
      lexed (inr none) = (fails (told (Script (Lex none.0))), unlexed none.0 none.1)

  -- each script has one, which begins with its fetch
  pub script-has_run : (finds : Finds) (name : List ℕ) (there : Option (List ℕ)) → finds name there
      → (run : events.Run F) × (more : List Event) × ScriptRuns told finds of name run × (run.events ≡ Fetch name ∷ more)
  script-has_run finds name there found = go (source_of name there) refl
    where
      go : (source : Result (List ℕ) Fault) → source_of name there ≡ source
          → (run : events.Run F) × (more : List Event) × ScriptRuns told finds of name run × (run.events ≡ Fetch name ∷ more)
      go (Err fault) e = (behind (Fetch name ∷ []) (fails (told fault)), [], unread there fault found e, refl)
      go (Ok script) e = let text = text-has_run script in (behind (Fetch name ∷ []) text.0, text.0.events, read there script text.0 found e text.1, refl)

module _ (finds : Finds) (has : HasFiles finds) (answer : Answering) (evaluating : Evaluating) where
  pub each_script : (name : List ℕ) (there : Option (List ℕ)) → finds name there
      → (run : Run) × (more : List Event) × ScriptRuns as_it_is finds (StatementsRun finds answer evaluating) name run × (run.events ≡ Fetch name ∷ more)
  each_script = script-has_run as_it_is (StatementsRun finds answer evaluating) (each_statements finds has answer evaluating) finds

-- the statements of a script whose queries are answered by scans
module _ (finds : Finds) (has : HasFiles finds) (answer : Answering) where
  -- one that is none of the word's own does what it does under the other words
  does-told : (catalogue : CatalogDef) (command : Command) → (own : Step CatalogDef) × Does finds answer Plainly catalogue command own
      → (step : events_in.Step RunFault CatalogDef) × ((made : Step CatalogDef) × Does finds answer Plainly catalogue command made × (step ≡ told_step Statement made))
  does-told catalogue command own = (told_step Statement own.0, (own.0, own.1, refl))

  pub each_by_scan : (number : ℕ) (catalogue : CatalogDef) (command : Command) → (step : events_in.Step RunFault CatalogDef) × DoesByScan finds answer number catalogue command step
  each_by_scan number catalogue (CreateTable name columns file) =
      does-told catalogue (CreateTable name columns file) (table finds has answer Plainly catalogue name file (with_room catalogue what.Table name (columns_of columns)))
  each_by_scan number catalogue (CreatePredicate name params max cost formula) =
      does-told catalogue (CreatePredicate name params max cost formula) (still (predicate_outcome catalogue name (CreatePredicate name params max cost formula)), refl)
  each_by_scan number catalogue (CreateRankIndex name table predicate args at) =
      does-told catalogue (CreateRankIndex name table predicate args at)
      (refused_or (index_step answer catalogue) (with_room catalogue what.Index name (index_def_of catalogue (CreateRankIndex name table predicate args at))), refl)
  each_by_scan number catalogue (Insert name rows) =
      does-told catalogue (Insert name rows) (refused_or (insert_step answer catalogue) (or_bind_fault (insert_of catalogue (Insert name rows))), refl)
  each_by_scan number catalogue (Ask query) = (scanned_step answer number catalogue query, refl)
  each_by_scan number catalogue (Explain query) = (still (Err (NotEligible Ta number)), refl)
  each_by_scan number catalogue (ExplainAnalyze query) = (still (Err (NotEligible Ta number)), refl)
  each_by_scan number catalogue (Declare name query) = (still (Err (NotEligible Ta number)), refl)
  each_by_scan number catalogue (syntax.Fetch count name) = (still (Err (NotEligible Ta number)), refl)
  each_by_scan number catalogue (Close name) = (still (Err (NotEligible Ta number)), refl)

  pub each_scans : (commands : List Command) → (run : WordsRun) × ScansRun finds answer commands run
  each_scans commands = some-run (DoesNext (DoesByScan finds answer)) (some-next (DoesByScan finds answer) each_by_scan) (first_statement empty) commands

-- the statements of a script whose queries are kept as views
module _ (finds : Finds) (has : HasFiles finds) (answer : Answering) where
  -- one that is none of the word's own is told as one of words
  kept-told : (kept : Kept) (command : Command) → (own : Step Kept) × DoesKept finds answer kept command own
      → (step : events_in.Step RunFault Kept) × ((made : Step Kept) × DoesKept finds answer kept command made × (step ≡ told_step Statement made))
  kept-told kept command own = (told_step Statement own.0, (own.0, own.1, refl))

  pub each_by_views : (number : ℕ) (kept : Kept) (command : Command) → (step : events_in.Step RunFault Kept) × DoesByViews finds answer number kept command step
  each_by_views number kept (CreateTable name columns file) =
      let own = table finds has answer Plainly kept.catalogue name file (with_room kept.catalogue what.Table name (columns_of columns)) in
      kept-told kept (CreateTable name columns file) (beside_views kept.views own.0, (own.0, own.1, refl))
  each_by_views number kept (CreatePredicate name params max cost formula) =
      let own = still (predicate_outcome kept.catalogue name (CreatePredicate name params max cost formula)) in
      kept-told kept (CreatePredicate name params max cost formula) (beside_views kept.views own, (own, refl, refl))
  each_by_views number kept (CreateRankIndex name table predicate args at) =
      let own = refused_or (index_step answer kept.catalogue) (with_room kept.catalogue what.Index name (index_def_of kept.catalogue (CreateRankIndex name table predicate args at))) in
      kept-told kept (CreateRankIndex name table predicate args at) (beside_views kept.views own, (own, refl, refl))
  each_by_views number kept (Insert name rows) =
      let own = refused_or (insert_step answer kept.catalogue) (or_bind_fault (insert_of kept.catalogue (Insert name rows))) in
      kept-told kept (Insert name rows) (joined_step answer kept.views own, (own, refl, refl))
  each_by_views number kept (syntax.Fetch count name) = kept-told kept (syntax.Fetch count name) (viewing.fetch_step kept count name, refl)
  each_by_views number kept (Close name) = kept-told kept (Close name) (still (viewing.close_outcome kept name), refl)
  each_by_views number kept (Declare name query) = (declared_step answer number kept name query, refl)
  each_by_views number kept (Ask query) = (still (Err (NotEligible View number)), refl)
  each_by_views number kept (Explain query) = (still (Err (NotEligible View number)), refl)
  each_by_views number kept (ExplainAnalyze query) = (still (Err (NotEligible View number)), refl)

  pub each_views : (commands : List Command) → (run : WordsRun) × ViewsRun finds answer commands run
  each_views commands = some-run (DoesNext (DoesByViews finds answer)) (some-next (DoesByViews finds answer) each_by_views) first_view_statement commands

-- and so have the generated scripts
pub each_generated : (finds : Finds) (answer : Answering) (number rows : ℕ) → (run : Run) × IsRunOf finds answer (RunGenerated number rows) run
each_generated finds answer number rows =
    let there : List ℕ → Option (List ℕ) = λ name. file_named name (generated_folder number rows) in
    let whole = each_script (finds_generated number rows) (finds_in-has (all_known there)) answer (Planned (ByScores number)) script_name (there script_name) refl in
    (unfetched whole.0, (whole.0, whole.2, refl))

-- words: of a form whose faults are those of statements
each_told : (finds : Finds) (answer : Answering) (form : Form) → (run : Run) × IsRunOf finds answer form run
    → (run : WordsRun) × ((own : Run) × IsRunOf finds answer form own × (run ≡ with_fault Statement own))
each_told finds answer form own = (with_fault Statement own.0, (own.0, own.1, refl))

each_form : (finds : Finds) → HasFiles finds → (answer : Answering) (form : Form) → (run : WordsRun) × IsFormRun finds answer form run
each_form finds has answer (Top top) = let there = has top.file in each_told finds answer (Top top) (fetch_then top.file (top_lines top there.0), (there.0, there.1, refl))
each_form finds has answer (RunScript name evaluating) =
    let there = has name in
    let run = each_script finds has answer evaluating name there.0 there.1 in
    each_told finds answer (RunScript name evaluating) (run.0, run.2)
each_form finds has answer (RunGenerated number rows) = each_told finds answer (RunGenerated number rows) (each_generated finds answer number rows)
each_form finds has answer (Threshold name) =
    let there = has name in
    let run = script-has_run Statement (ScansRun finds answer) (each_scans finds has answer) finds name there.0 there.1 in
    (run.0, run.2)
each_form finds has answer (Feed words) = let run = some-words_run pairs_run finds has words in (with_fault (word_fault words.left words.right) run.0, (run.0, run.1, refl))
each_form finds has answer (Certify words) = let run = some-words_run joined_cert_run finds has words in (with_fault (word_fault words.left words.right) run.0, (run.0, run.1, refl))
each_form finds has answer (Check file) = let run = some-check_run finds has file in (with_fault (word_fault file file) run.0, (run.0, run.1, refl))
each_form finds has answer (Views name) =
    let there = has name in
    let run = script-has_run Statement (ViewsRun finds answer) (each_views finds has answer) finds name there.0 there.1 in
    (run.0, run.2)

pub words-have_run : (finds : Finds) → HasFiles finds → (answer : Answering) (words : List (List ℕ)) → (run : WordsRun) × IsRun finds answer words run
words-have_run finds has answer words = go (form_of words)
  where
    go : (form : Option Form) → (run : WordsRun) × OfForm finds answer form run
    go None = (fails Usage, refl)
    go (Some form) = each_form finds has answer form
