-- A FETCH of a view puts what the SELECT of its DECLARE puts under `plain` at a later place.
use Rattle.std.proofs.Common.{ℕ, ◌≡◌, ◌∙◌, ◌++◌, List, [], ◌∷◌, min, take, sym, ap, subst}
use Rattle.std.specs.Prelude.{ℤ, Result, Ok}
use Rattle.rs_lex.specs.declared.token.Span.{Span}
use Rattle.rs_syntax.specs.Syntax.{Command, Declare, Insert}
use Rattle.rs_syntax.specs.Syntax as syntax
use Rattle.rs_syntax.specs.Written.{AreWritten, IsWritten}
use Rattle.rs_syntax.specs.declared.name.Name.{Name}
use Rattle.rs_order.proofs.EachFacts.{each-behind}
use Rattle.rs_expr.specs.Scoring.{Answering}
use Rattle.rs_catalog.specs.Catalog.{CatalogDef}
use Rattle.rs_bind.specs.Queries.{bound_query, count_of}
use Rattle.rs_query.specs.declared.query.Query.{Query}
use Rattle.rs_typing.specs.declared.fault.BindFault.{BindFault}
use Rattle.rs_view.specs.Holding.{HasItsAnswer, limited}
use Rattle.rs_view.specs.Views.{ViewDef, most_kept, rows_in}
use Rattle.rs_view.proofs.HoldingFacts.{limited-has}
use Rattle.rs_view.proofs.TopFacts.{keepable-limited, same-gives}
use Rattle.rs_events.specs.Events.{puts}
use Rattle.rs_outside.specs.Files.{Finds}
use Rattle.rs_events.specs.Sequence.{Step}
use Rattle.rs_statement.specs.declared.evaluating.Evaluating.TheVariants.{Plainly}
use Rattle.rs_statement.specs.Statements.{or_bind_fault, query_outcome, query_step, refused_or, select_step}
use Rattle.rs_statement.specs.Steps as statement
use Rattle.rs_run.specs.declared.fault.RunFault.{RunFault}
use Rattle.rs_run.specs.Reached.{AllHaveTheirAnswers, AreNotClosed, LeadsByViews, PutsAsSelect, most_written, with_limit}
use Rattle.rs_run.specs.Viewing.{Kept, ViewState, view_named}
use Rattle.rs_run.proofs.FetchSteps.{fetch-plain, named-has, plain-puts}
use Rattle.rs_run.proofs.DeclaredFacts.{HoldsQuery, declare-holds, lead-holds, lead-parts}
use Rattle.rs_run.proofs.HoldSteps.{lead-have}
use Rattle.rs_run.proofs.NumberedFacts.{numbered-ok}
use Rattle.rs_run.proofs.LaterBinding.{IsLater, bound-later, bound-most, later-same, later-step, later-steps}
use Rattle.rs_run.proofs.ViewLeft.{view-step}

module _ (answer : Answering) where
  -- a later place
  pub lead-later : (finds : Finds) (commands : List Command) (state later : ViewState) → AreWritten commands → LeadsByViews finds answer state commands later
      → IsLater state.kept.catalogue later.kept.catalogue
  lead-later finds [] state later written leads = subst (λ (s : ViewState). IsLater state.kept.catalogue s.kept.catalogue) (sym leads) (later-same state.kept.catalogue)
  lead-later finds (command ∷ rest) state later written leads =
      let kept = state.kept in
      let does = leads.2 in
      let next = leads.0.kept in
      let ends = numbered-ok state.number does.0 leads.0 (subst (λ (s : Step RunFault ViewState). s.outcome ≡ Ok leads.0) does.2 leads.3) in
      let one = view-step finds answer kept (λ (command : Command) (next : Kept). IsWritten command → IsLater kept.catalogue next.catalogue)
      (λ count name is. later-same kept.catalogue) (λ name is. later-same kept.catalogue) (λ name query bound view binds keepable room gives is. later-same kept.catalogue)
      (λ made own catalogue making does ends is. later-step answer kept.catalogue finds made own catalogue is does ends)
      (λ table rows own catalogue views does ends gives is. later-step answer kept.catalogue finds (Insert table rows) own catalogue is does ends)
      state.number command does.0 next does.1 ends written.0 in
      later-steps kept.catalogue next.catalogue later.kept.catalogue one (lead-later finds rest leads.0 later written.1 leads.4)

  pub select-plain : (here : CatalogDef) (kept : Kept) (query : syntax.Query) (limit count : ℤ × Span) (name : Name) (wanted : ℕ) (view : ViewDef) → IsLater here kept.catalogue
      → HasItsAnswer answer kept.catalogue view → bound_query here query ≡ Ok view.query → count_of limit ≡ Ok (min wanted (most_kept view.query)) → count_of count ≡ Ok wanted
      → view_named name.text kept.views ≡ Ok view → PutsAsSelect answer kept count name (with_limit limit query)
  select-plain here kept query limit count name wanted view later has is most number found =
      let m = min wanted (most_kept view.query) in
      let fewer = limited m view.query in
      let rows = take wanted (rows_in kept.catalogue view) in
      let text = with_limit limit query in
      let bound = bound-later here kept.catalogue later limit m most query view.query has.keepable is in
      let gives = same-gives answer kept.catalogue fewer bound.other rows (keepable-limited view.query m has.keepable) bound.same (limited-has answer kept.catalogue view wanted has) in
      let step : select_step Plainly answer kept.catalogue text ≡ query_step Plainly answer kept.catalogue bound.other =
      ap (λ (b : Result Query BindFault). refused_or (query_step Plainly answer kept.catalogue) (or_bind_fault b)) bound.is in
      let plain = fetch-plain answer kept count name wanted view has number found in
      record {
        fetched = plain.fetched;
        asked = ap (λ (s : statement.Step CatalogDef). s.outcome) step ∙ ap (query_outcome kept.catalogue) gives;
        same = plain.same ∙ plain-puts answer kept.catalogue fewer rows (limited-has answer kept.catalogue view wanted has)
            ∙ sym (plain-puts answer kept.catalogue bound.other rows gives) ∙ ap (λ (s : statement.Step CatalogDef). puts s.events) (sym step);
      }

  -- behind the DECLARE, and statements that don't close it
  pub fetch-select : (finds : Finds) (before after : List Command) (state later : ViewState) (declared name : Name) (query : syntax.Query) (limit count : ℤ × Span) (most wanted : ℕ)
      → AreWritten (before ++ Declare declared query ∷ after) → AllHaveTheirAnswers answer state.kept
      → LeadsByViews finds answer state (before ++ Declare declared query ∷ after) later → declared.text ≡ name.text → AreNotClosed name.text after
      → most_written query ≡ Ok most → count_of count ≡ Ok wanted → count_of limit ≡ Ok (min wanted most) → PutsAsSelect answer later.kept count name (with_limit limit query)
  fetch-select finds before after state later declared name query limit count most wanted written all leads same apart is_most number is_limit =
      let parts = lead-parts answer finds before (Declare declared query ∷ after) state later leads in
      let here = parts.here.kept in
      let does = parts.second.2 in
      let next = parts.second.0 in
      let ends = numbered-ok parts.here.number does.0 next (subst (λ (s : Step RunFault ViewState). s.outcome ≡ Ok next) does.2 parts.second.3) in
      let made = declare-holds answer finds parts.here.number here next.kept declared query does.0 does.1 ends in
      let named = subst (λ (text : List ℕ). HoldsQuery text made.bound next.kept.views) same made.holds in
      let held = lead-holds answer finds name.text made.bound after next later apart named parts.second.4 in
      let has = named-has answer later.kept.catalogue name.text later.kept.views held.view (lead-have answer finds (before ++ Declare declared query ∷ after) state later written all leads) held.found in
      let written_behind = each-behind IsWritten before (Declare declared query ∷ after) written in
      let most_is : most ≡ most_kept held.view.query = (let own = bound-most here.catalogue query made.bound made.binds in let same_most : most ≡ most_kept made.bound = cc in same_most ∙ ap most_kept (sym held.same)) in
      select-plain here.catalogue later.kept query limit count name wanted held.view
      (lead-later finds (Declare declared query ∷ after) parts.here later written_behind parts.second) has
      (made.binds ∙ ap Ok (sym held.same)) (is_limit ∙ ap (λ (m : ℕ). Ok (min wanted m)) most_is) number held.found
