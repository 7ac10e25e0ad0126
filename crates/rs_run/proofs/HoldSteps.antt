-- Between any two statements under the word `view` each held view has its answer.
use Rattle.std.proofs.Common.{ℕ, ◌≡◌, false, List, [], ◌∷◌, map, sym, subst}
use Rattle.std.specs.Prelude.{not, Ok}
use Rattle.std.specs.List.{AllByRecursion, flat_map}
use Rattle.std.specs.Str.{bytes_eq}
use Rattle.rs_order.proofs.EachFacts.{each-behind, each-filter, each-front, each-push, each-weaker}
use Rattle.rs_syntax.specs.Syntax.{Command, Insert}
use Rattle.rs_syntax.specs.Written.{AreWritten, IsWritten}
use Rattle.rs_expr.specs.Scoring.{Answering}
use Rattle.rs_catalog.specs.Catalog.{CatalogDef}
use Rattle.rs_query.specs.Blocks.{block_in}
use Rattle.rs_query.specs.Growth.{CatalogueGrows}
use Rattle.rs_query.specs.Questions.{Question, is_bad}
use Rattle.rs_query.proofs.BlockFacts.{block-formed}
use Rattle.rs_view.specs.Holding.{HasItsAnswer}
use Rattle.rs_view.proofs.HoldingFacts.{asked-well, grown-has, made-has, still-has}
use Rattle.rs_view.proofs.LifeFacts.{IsGood}
use Rattle.rs_outside.specs.Files.{Finds}
use Rattle.rs_events.specs.Sequence.{Step}
use Rattle.rs_run.specs.declared.fault.RunFault.{RunFault}
use Rattle.rs_run.specs.Reached.{AllHaveTheirAnswers, LeadsByViews}
use Rattle.rs_run.specs.Viewing.{DoesByViews, HeldView, Kept, ViewState, grown_view, growth_questions}
use Rattle.rs_run.proofs.HeldFacts.{grows-step}
use Rattle.rs_run.proofs.NarrowFacts.{bound-well}
use Rattle.rs_run.proofs.NumberedFacts.{numbered-ok}
use Rattle.rs_run.proofs.SizeFacts.{SameSizes, keeps-step, sizes-same}
use Rattle.rs_run.proofs.ViewLeft.{view-step}

module _ (answer : Answering) where
  abbrev Has : CatalogDef → HeldView → Type 0
  Has catalogue held = HasItsAnswer answer catalogue held.1

  abbrev pub AllHave : CatalogDef → List HeldView → Type 0
  AllHave catalogue views = AllByRecursion (Has catalogue) views

  -- as tables, predicates and indexes join
  all-still : (old new : CatalogDef) (views : List HeldView) → CatalogueGrows old new → SameSizes old new → AllHave old views → AllHave new views
  all-still old new views grows same all =
      each-weaker (Has old) (Has new)
      (λ (held : HeldView) has. still-has answer old new grows held.1 has (same (block_in held.1.query 1) (block-formed old held.1.query 1 has.query))) views all

  -- behind a growth
  all-grown : (old new : CatalogDef) (views : List HeldView) → CatalogueGrows old new → AllHave old views → IsGood answer new (flat_map (growth_questions new) views)
      → AllHave new (map (grown_view answer new) views)
  all-grown old new [] grows all good = tt
  all-grown old new (held ∷ views) grows all good =
      let own = growth_questions new held in
      let rest = flat_map (growth_questions new) views in
      let is_good = λ (q : Question). is_bad answer new q ≡ false in
      (grown-has answer old new grows held.1 all.0 (each-front is_good own rest good), all-grown old new views grows all.1 (each-behind is_good own rest good))

  -- a statement
  abbrev LeavesAll : Command → Kept → Type 0
  LeavesAll command next = IsWritten command → AllHaveTheirAnswers answer next

  statement-have : (finds : Finds) (number : ℕ) (kept next : Kept) (command : Command) (step : Step RunFault Kept) → AllHaveTheirAnswers answer kept
      → DoesByViews finds answer number kept command step → step.outcome ≡ Ok next → LeavesAll command next
  statement-have finds number kept next command step all =
      view-step finds answer kept LeavesAll
      (λ count name written. all)
      (λ name written. each-filter (Has kept.catalogue) (λ (held : HeldView). not (bytes_eq held.0 name.text)) kept.views all)
      (λ name query bound view is keepable room gives written.
      each-push (Has kept.catalogue) kept.views (name.text, view) all
      (made-has answer kept.catalogue bound view (bound-well kept.catalogue query bound written is) keepable gives))
      (λ made own catalogue is does ends written.
      all-still kept.catalogue catalogue kept.views (grows-step answer kept.catalogue finds made own catalogue written does ends)
      (sizes-same kept.catalogue catalogue (keeps-step answer kept.catalogue finds made own is does catalogue ends)) all)
      (λ table rows own catalogue views does ends gives written.
      let grows = grows-step answer kept.catalogue finds (Insert table rows) own catalogue written does ends in
      let leads = asked-well answer catalogue (flat_map (growth_questions catalogue) kept.views) (map (grown_view answer catalogue) kept.views) views gives in
      subst (AllHave catalogue) leads.same (all-grown kept.catalogue catalogue kept.views grows all leads.good))
      number command step next

  -- and so it goes on
  pub lead-have : (finds : Finds) (commands : List Command) (state later : ViewState) → AreWritten commands → AllHaveTheirAnswers answer state.kept
      → LeadsByViews finds answer state commands later → AllHaveTheirAnswers answer later.kept
  lead-have finds [] state later written all leads = subst (λ (s : ViewState). AllHaveTheirAnswers answer s.kept) (sym leads) all
  lead-have finds (command ∷ rest) state later written all leads =
      let does = leads.2 in
      let ends = numbered-ok state.number does.0 leads.0 (subst (λ (s : Step RunFault ViewState). s.outcome ≡ Ok leads.0) does.2 leads.3) in
      lead-have finds rest leads.0 later written.1
      (statement-have finds state.number state.kept leads.0.kept command does.0 all does.1 ends written.0) leads.4
