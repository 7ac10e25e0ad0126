-- The view of a DECLARE is held under its name, with its query, until a CLOSE of the name.
use Rattle.std.proofs.Common.{ℕ, ◌≡◌, ◌∙◌, ◌++◌, Bool, true, false, cond, List, [], ◌∷◌, map, refl, sym, ap, subst}
use Rattle.std.specs.Prelude.{not, Result, Ok, Err, if◌then◌else◌}
use Rattle.std.specs.List.{flat_map}
use Rattle.std.specs.Str.{bytes_eq}
use Rattle.std.proofs.lemmas.Bool.{or_parts}
use Rattle.std.proofs.lemmas.Cmp.{nat_list_eq_equiv}
use Rattle.rs_syntax.specs.Syntax.{Close, Command, Declare}
use Rattle.rs_syntax.specs.Syntax as syntax
use Rattle.rs_syntax.specs.declared.name.Name.{Name}
use Rattle.rs_expr.specs.Scoring.{Answering}
use Rattle.rs_catalog.specs.Catalog.{CatalogDef, has_name}
use Rattle.rs_bind.specs.Queries.{bound_query}
use Rattle.rs_query.specs.declared.query.Query.{Query}
use Rattle.rs_view.specs.Fresh.{whole_view}
use Rattle.rs_view.specs.Views.{IsKeepable, ViewDef}
use Rattle.rs_view.proofs.HoldingFacts.{asked-well, made-query}
use Rattle.rs_outside.specs.Files.{Finds}
use Rattle.rs_events.specs.Sequence.{Step}
use Rattle.rs_statement.specs.declared.fault.Fault.{Fault}
use Rattle.rs_statement.specs.declared.evaluating.Evaluating.TheVariants.{Plainly}
use Rattle.rs_statement.specs.Named as named
use Rattle.rs_statement.proofs.EntryFacts.{room-free}
use Rattle.rs_statement.specs.Statements.{Does}
use Rattle.rs_statement.specs.Steps as statement
use Rattle.rs_run.specs.declared.fault.RunFault.{RunFault}
use Rattle.rs_run.specs.Reached.{AreNotClosed, IsNotClosed, LeadsByViews}
use Rattle.rs_run.specs.Viewing.{DoesByViews, HeldView, Kept, ViewState, grown_view, growth_questions, view_named}
use Rattle.rs_run.proofs.NumberedFacts.{numbered-ok}
use Rattle.rs_run.proofs.ViewLeft.{IsMaking, view-step}

abbrev named_by : Bool → HeldView → Result ViewDef Fault → Result ViewDef Fault
named_by here held rest = if here then Ok held.1 else rest

abbrev names_in : List HeldView → List (List ℕ)
names_in views = map (λ (held : HeldView). held.0) views

-- a new view is found by its name
named-last : (name : List ℕ) (views : List HeldView) (view : ViewDef) → has_name name (names_in views) ≡ false → view_named name (views ++ (name, view) ∷ []) ≡ Ok view
named-last name [] view free = ap (λ b. named_by b (name, view) (view_named name [])) (nat_list_eq_equiv.refl name)
named-last name (held ∷ views) view free =
    let parts = or_parts (bytes_eq held.0 name) (has_name name (names_in views)) free in
    ap (λ b. named_by b held (view_named name (views ++ (name, view) ∷ []))) parts.0 ∙ named-last name views view parts.1

-- a view of this query is found by a name
pub record HoldsQuery (name : List ℕ) (query : Query) (views : List HeldView) : Type 0 where
  pub view : ViewDef
  pub found : view_named name views ≡ Ok view
  pub same : view.query ≡ query

module _ (name : List ℕ) where
  -- and so it is behind other views, without others, and behind a growth
  found-more : (views more : List HeldView) (view : ViewDef) → view_named name views ≡ Ok view → view_named name (views ++ more) ≡ Ok view
  found-more [] more view e = absurd cc
  found-more (held ∷ views) more view e = go (found-more views more view) (bytes_eq held.0 name) e where
    go : (view_named name views ≡ Ok view → view_named name (views ++ more) ≡ Ok view) → (b : Bool) → named_by b held (view_named name views) ≡ Ok view
        → named_by b held (view_named name (views ++ more)) ≡ Ok view
    go rest true e = e
    go rest false e = rest e

  abbrev without : List ℕ → List HeldView → List HeldView
  without own views = named.without (λ (held : HeldView). held.0) own views

  found-without : (own : List ℕ) (views : List HeldView) (view : ViewDef) → bytes_eq name own ≡ false → view_named name views ≡ Ok view → view_named name (without own views) ≡ Ok view
  found-without own [] view other e = absurd cc
  found-without own (held ∷ views) view other e = go (found-without own views view other) (bytes_eq held.0 name) refl e where
    kept : (b : Bool) → bytes_eq held.0 name ≡ false → view_named name (without own views) ≡ Ok view
        → view_named name (cond (not b) (held ∷ without own views) (without own views)) ≡ Ok view
    kept true apart rest = rest
    kept false apart rest = ap (λ b. named_by b held (view_named name (without own views))) apart ∙ rest

    go : (view_named name views ≡ Ok view → view_named name (without own views) ≡ Ok view) → (b : Bool) → bytes_eq held.0 name ≡ b → named_by b held (view_named name views) ≡ Ok view
        → view_named name (without own (held ∷ views)) ≡ Ok view
    go rest true here e =
        let others : bytes_eq held.0 own ≡ false = nat_list_eq_equiv.congr held.0 name own here ∙ other in
        ap (λ b. view_named name (cond (not b) (held ∷ without own views) (without own views))) others
        ∙ ap (λ b. named_by b held (view_named name (without own views))) here ∙ e
    go rest false apart e = kept (bytes_eq held.0 own) apart (rest e)

  found-grown : (answer : Answering) (catalogue : CatalogDef) (views : List HeldView) (view : ViewDef) → view_named name views ≡ Ok view
      → view_named name (map (grown_view answer catalogue) views) ≡ Ok (whole_view answer catalogue view.query)
  found-grown answer catalogue [] view e = absurd cc
  found-grown answer catalogue (held ∷ views) view e = go (found-grown answer catalogue views view) (bytes_eq held.0 name) e where
    go : (view_named name views ≡ Ok view → view_named name (map (grown_view answer catalogue) views) ≡ Ok (whole_view answer catalogue view.query))
        → (b : Bool) → named_by b held (view_named name views) ≡ Ok view
        → named_by b (grown_view answer catalogue held) (view_named name (map (grown_view answer catalogue) views)) ≡ Ok (whole_view answer catalogue view.query)
    go rest true e = let is : held.1 ≡ view = cc in ap (λ (v : ViewDef). Ok (whole_view answer catalogue v.query)) is
    go rest false e = rest e

module _ (answer : Answering) (finds : Finds) where
  -- a statement that doesn't close it
  statement-holds : (name : List ℕ) (query : Query) (number : ℕ) (kept next : Kept) (command : Command) (step : Step RunFault Kept) → HoldsQuery name query kept.views
      → DoesByViews finds answer number kept command step → step.outcome ≡ Ok next → IsNotClosed name command → HoldsQuery name query next.views
  statement-holds name query number kept next command step held =
      view-step finds answer kept (λ (command : Command) (next : Kept). IsNotClosed name command → HoldsQuery name query next.views)
      (λ count own apart. held)
      (λ own apart. record { view = held.view; found = found-without name own.text kept.views held.view apart held.found; same = held.same })
      (λ own declared bound view is keepable room gives apart. record {
        view = held.view;
        found = found-more name kept.views ((own.text, view) ∷ []) held.view held.found;
        same = held.same;
      })
      (λ made own catalogue is does ends apart. held)
      (λ table rows own catalogue views does ends gives apart.
      let leads = asked-well answer catalogue (flat_map (growth_questions catalogue) kept.views) (map (grown_view answer catalogue) kept.views) views gives in
      record {
        view = whole_view answer catalogue held.view.query;
        found = ap (view_named name) (sym leads.same) ∙ found-grown name answer catalogue kept.views held.view held.found;
        same = held.same;
      })
      number command step next

  pub lead-holds : (name : List ℕ) (query : Query) (commands : List Command) (state later : ViewState) → AreNotClosed name commands → HoldsQuery name query state.kept.views
      → LeadsByViews finds answer state commands later → HoldsQuery name query later.kept.views
  lead-holds name query [] state later apart held leads = subst (λ (s : ViewState). HoldsQuery name query s.kept.views) (sym leads) held
  lead-holds name query (command ∷ rest) state later apart held leads =
      let does = leads.2 in
      let ends = numbered-ok state.number does.0 leads.0 (subst (λ (s : Step RunFault ViewState). s.outcome ≡ Ok leads.0) does.2 leads.3) in
      lead-holds name query rest leads.0 later apart.1
      (statement-holds name query state.number state.kept leads.0.kept command does.0 held does.1 ends apart.0) leads.4

  -- the DECLARE itself
  pub record IsDeclared (kept next : Kept) (name : Name) (query : syntax.Query) : Type 0 where
    pub bound : Query
    pub binds : bound_query kept.catalogue query ≡ Ok bound
    pub keepable : IsKeepable bound
    pub holds : HoldsQuery name.text bound next.views

  abbrev Declared : Kept → Command → Kept → Type 0
  Declared kept (Declare name query) next = IsDeclared kept next name query
  Declared kept _ next = Unit {0}

  pub declare-holds : (number : ℕ) (kept next : Kept) (name : Name) (query : syntax.Query) (step : Step RunFault Kept) → DoesByViews finds answer number kept (Declare name query) step
      → step.outcome ≡ Ok next → IsDeclared kept next name query
  declare-holds number kept next name query step =
      view-step finds answer kept (Declared kept) (λ count own. tt) (λ own. tt)
      (λ own declared bound view is keepable room gives. record {
        bound = bound;
        binds = is;
        keepable = keepable;
        holds = record {
          view = view;
          found = named-last own.text kept.views view (room-free own.text (names_in kept.views) room);
          same = made-query answer kept.catalogue bound view gives;
        };
      })
      none (λ table rows own catalogue views does ends gives. tt) number (Declare name query) step next where
        none : (command : Command) (own : statement.Step CatalogDef) (catalogue : CatalogDef) → IsMaking command → Does finds answer Plainly kept.catalogue command own → own.outcome ≡ Ok catalogue
            → Declared kept command (record { catalogue = catalogue; views = kept.views })
        none (Declare name query) own catalogue is does ends = absurd is
        none (syntax.CreateTable name columns file) own catalogue is does ends = tt
        none (syntax.CreatePredicate name params max cost formula) own catalogue is does ends = tt
        none (syntax.CreateRankIndex name table predicate args at) own catalogue is does ends = tt
        none (syntax.Ask query) own catalogue is does ends = tt
        none (syntax.Fetch count name) own catalogue is does ends = tt
        none (Close name) own catalogue is does ends = tt
        none (syntax.Explain query) own catalogue is does ends = tt
        none (syntax.ExplainAnalyze query) own catalogue is does ends = tt
        none (syntax.Insert table rows) own catalogue is does ends = tt

  -- statements that lead somewhere lead there in two parts
  pub record LeadsInParts (before after : List Command) (state later : ViewState) : Type 0 where
    pub here : ViewState
    pub first : LeadsByViews finds answer state before here
    pub second : LeadsByViews finds answer here after later

  pub lead-parts : (before after : List Command) (state later : ViewState) → LeadsByViews finds answer state (before ++ after) later → LeadsInParts before after state later
  lead-parts [] after state later leads = record { here = state; first = refl; second = leads }
  lead-parts (command ∷ before) after state later leads =
      let rest = lead-parts before after leads.0 later leads.4 in
      record { here = rest.here; first = (leads.0, leads.1, leads.2, leads.3, rest.first); second = rest.second }
