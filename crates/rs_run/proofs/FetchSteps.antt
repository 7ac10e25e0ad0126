-- A FETCH of a view that has its answer puts what its query puts under `plain`, and `plain` comes to the same place.
use Rattle.std.proofs.Common.{ℕ, ◌≡◌, ◌∙◌, Bool, true, false, List, [], ◌∷◌, ◌++◌, map, min, take, refl, sym, ap, subst}
use Rattle.std.specs.Prelude.{ℤ, Result, Ok, if◌then◌else◌}
use Rattle.std.specs.Str.{bytes_eq}
use Rattle.rs_value.specs.Results.{◌>>=◌}
use Rattle.rs_lex.specs.declared.token.Span.{Span}
use Rattle.rs_rank.specs.declared.answer.Answer.{Answer}
use Rattle.rs_syntax.specs.Syntax.{Ask, Close, Command, CreatePredicate, CreateRankIndex, CreateTable, Declare, Explain, ExplainAnalyze, Fetch, Insert}
use Rattle.rs_syntax.specs.declared.name.Name.{Name}
use Rattle.rs_expr.specs.InOrder.{calls_of}
use Rattle.rs_expr.specs.Scoring.{Answering}
use Rattle.rs_catalog.specs.Catalog.{CatalogDef}
use Rattle.rs_bind.specs.Queries.{count_of}
use Rattle.rs_query.specs.Views.{all_rows}
use Rattle.rs_query.specs.declared.query.Query.{Query}
use Rattle.rs_plain.specs.Plain.{evaluation_of}
use Rattle.rs_typing.specs.declared.fault.BindFault.{BindFault}
use Rattle.rs_view.specs.Holding.{HasItsAnswer, limited}
use Rattle.rs_view.specs.Views.{ViewDef, most_kept, rows_in}
use Rattle.rs_view.proofs.HoldingFacts.{limited-has, limited-query}
use Rattle.rs_events.specs.Events.{Put, Score, puts}
use Rattle.rs_outside.specs.Files.{Finds}
use Rattle.rs_events.specs.Sequence.{Step, lines_step}
use Rattle.rs_events.proofs.RanFacts.{puts-append, puts-scores}
use Rattle.rs_statement.specs.declared.evaluating.Evaluating.TheVariants.{Plainly}
use Rattle.rs_statement.specs.declared.fault.Fault.{Fault}
use Rattle.rs_statement.specs.Lines.{rank_lines}
use Rattle.rs_statement.specs.Session.{State, beside_cursors}
use Rattle.rs_statement.specs.Statements.{Does, answer_lines, or_bind_fault, query_outcome, query_step, refused_or}
use Rattle.rs_statement.specs.Steps as statement
use Rattle.rs_statement.proofs.EntryFacts.{each-named}
use Rattle.rs_run.specs.declared.fault.RunFault.{RunFault}
use Rattle.rs_run.specs.Later.{LeadsTo}
use Rattle.rs_run.specs.Reached.{LeadsByViews, PutsAsPlain, bare, without_views}
use Rattle.rs_run.specs.Viewing.{DoesByViews, HeldView, Kept, ViewState, fetch_step, fetched_rows, view_named}
use Rattle.rs_run.proofs.HoldSteps.{AllHave}
use Rattle.rs_run.proofs.NumberedFacts.{numbered-ok}
use Rattle.rs_run.proofs.ViewLeft.{IsMaking, view-step}

-- lines that are put
puts-lines : (lines : List (List ℕ)) → puts (map Put lines) ≡ lines
puts-lines [] = refl
puts-lines (line ∷ lines) = ap (λ rest. line ∷ rest) (puts-lines lines)

-- a step beside no cursors leaves the catalogue alone
left : (outcome : Result CatalogDef Fault) {catalogue : CatalogDef} → outcome ≡ Ok catalogue → (outcome >>= λ c. Ok (bare c)) ≡ Ok (bare catalogue)
left outcome e = ap (λ (o : Result CatalogDef Fault). o >>= λ c. Ok (bare c)) e

module _ (answer : Answering) where
  -- a view that is held by a name is one that has its answer
  pub named-has : (catalogue : CatalogDef) (name : List ℕ) (views : List HeldView) (view : ViewDef) → AllHave answer catalogue views → view_named name views ≡ Ok view → HasItsAnswer answer catalogue view
  named-has catalogue name views view = each-named (HasItsAnswer answer catalogue) (λ (held : HeldView). held.0) (λ (held : HeldView). held.1) name views view

  -- a plain query that gives these rows puts their lines
  pub plain-puts : (catalogue : CatalogDef) (query : Query) (rows : List Answer) → (evaluation_of answer catalogue query (all_rows catalogue query)).outcome ≡ Ok rows
      → puts (query_step Plainly answer catalogue query).events ≡ rank_lines 1 rows
  plain-puts catalogue query rows gives =
      let evaluated = evaluation_of answer catalogue query (all_rows catalogue query) in
      let calls = calls_of evaluated.requests in
      puts-append (map Score calls) (map Put (answer_lines evaluated.outcome))
      ∙ ap (λ first. first ++ puts (map Put (answer_lines evaluated.outcome))) (puts-scores calls)
      ∙ puts-lines (answer_lines evaluated.outcome) ∙ ap answer_lines gives

  pub fetch-plain : (kept : Kept) (count : ℤ × Span) (name : Name) (wanted : ℕ) (view : ViewDef) → HasItsAnswer answer kept.catalogue view → count_of count ≡ Ok wanted
      → view_named name.text kept.views ≡ Ok view → PutsAsPlain answer kept count name (limited (min wanted (most_kept view.query)) view.query)
  fetch-plain kept count name wanted view has number found =
      let query = limited (min wanted (most_kept view.query)) view.query in
      let rows = take wanted (rows_in kept.catalogue view) in
      let gives = limited-has answer kept.catalogue view wanted has in
      let fetched : fetched_rows kept count name ≡ Ok rows =
      ap (λ (c : Result ℕ BindFault). or_bind_fault c >>= λ wanted. view_named name.text kept.views >>= λ v. Ok (take wanted (rows_in kept.catalogue v))) number
      ∙ ap (λ (v : Result ViewDef Fault). v >>= λ v. Ok (take wanted (rows_in kept.catalogue v))) found in
      let step : fetch_step kept count name ≡ lines_step (rank_lines 1 rows) kept = ap (refused_or (λ rows. lines_step (rank_lines 1 rows) kept)) fetched in
      record {
        formed = limited-query answer kept.catalogue view wanted has;
        fetched = ap (λ (s : statement.Step Kept). s.outcome) step;
        asked = ap (query_outcome kept.catalogue) gives;
        same = ap (λ (s : statement.Step Kept). puts s.events) step ∙ puts-lines (rank_lines 1 rows) ∙ sym (plain-puts kept.catalogue query rows gives);
      }

  -- the statements that are of no view do the same under `plain`
  module _ (finds : Finds) (kept : Kept) where
    -- behind one statement, all others go on from there
    abbrev GoesOn : Command → Kept → Type 0
    GoesOn command next = (rest : List Command) (later : State) → LeadsTo finds answer Plainly (bare next.catalogue) (without_views rest) later
        → LeadsTo finds answer Plainly (bare kept.catalogue) (without_views (command ∷ rest)) later

    goes-made : (command : Command) (own : statement.Step CatalogDef) (catalogue : CatalogDef) → IsMaking command → Does finds answer Plainly kept.catalogue command own → own.outcome ≡ Ok catalogue
        → GoesOn command (record { catalogue = catalogue; views = kept.views })
    goes-made (CreateTable name columns file) own catalogue is does ends rest later leads = (bare catalogue, beside_cursors [] own, (own, does, refl), left own.outcome ends, leads)
    goes-made (CreatePredicate name params max cost formula) own catalogue is does ends rest later leads = (bare catalogue, beside_cursors [] own, (own, does, refl), left own.outcome ends, leads)
    goes-made (CreateRankIndex name table predicate args at) own catalogue is does ends rest later leads = (bare catalogue, beside_cursors [] own, (own, does, refl), left own.outcome ends, leads)
    goes-made (Insert table rows) own catalogue is does ends rest later leads = absurd is
    goes-made (Ask query) own catalogue is does ends rest later leads = absurd is
    goes-made (Declare name query) own catalogue is does ends rest later leads = absurd is
    goes-made (Fetch count name) own catalogue is does ends rest later leads = absurd is
    goes-made (Close name) own catalogue is does ends rest later leads = absurd is
    goes-made (Explain query) own catalogue is does ends rest later leads = absurd is
    goes-made (ExplainAnalyze query) own catalogue is does ends rest later leads = absurd is

    goes-on : (number : ℕ) (command : Command) (step : Step RunFault Kept) (next : Kept) → DoesByViews finds answer number kept command step → step.outcome ≡ Ok next → GoesOn command next
    goes-on =
        view-step finds answer kept GoesOn
        (λ count name rest later leads. leads)
        (λ name rest later leads. leads)
        (λ name query bound view is keepable room gives rest later leads. leads)
        goes-made
        (λ table rows own catalogue views does ends gives rest later leads. (bare catalogue, beside_cursors [] own, (own, does, refl), left own.outcome ends, leads))

  pub lead-place : (finds : Finds) (commands : List Command) (state later : ViewState) → LeadsByViews finds answer state commands later
      → LeadsTo finds answer Plainly (bare state.kept.catalogue) (without_views commands) (bare later.kept.catalogue)
  lead-place finds [] state later leads = ap (λ (s : ViewState). bare s.kept.catalogue) leads
  lead-place finds (command ∷ rest) state later leads =
      let does = leads.2 in
      let ends = numbered-ok state.number does.0 leads.0 (subst (λ (s : Step RunFault ViewState). s.outcome ≡ Ok leads.0) does.2 leads.3) in
      goes-on finds state.kept state.number command does.0 leads.0.kept does.1 ends rest (bare later.kept.catalogue) (lead-place finds rest leads.0 later leads.4)
