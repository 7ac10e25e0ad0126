-- Held views that grow one after another, and what an INSERT did with them.
use Rattle.std.proofs.Common.{ℕ, ◌≡◌, ◌∙◌, ◌<◌, ◌≤◌, ◌++◌, arith, get_or, List, [], ◌∷◌, zero, suc, length, map, take, drop, Some, append-nil, refl, sym, ap, subst}
use Rattle.std.specs.Prelude.{Result, Ok, Err, slice_get}
use Rattle.std.proofs.lemmas.List.{drop_all, take_all}
use Rattle.indexmap.specs.IndexMap.{set_value_at}
use Rattle.rs_expr.specs.Scoring.{Answering}
use Rattle.rs_catalog.specs.Catalog.{CatalogDef}
use Rattle.rs_view.specs.Fresh.{whole_view}
use Rattle.rs_view.specs.Views.{Stands, ViewDef}
use Rattle.rs_events.specs.Environment.{Environment}
use Rattle.rs_events.specs.Running.{Ran, Stepped}
use Rattle.rs_events.specs.Sequence.{run_of, then_step}
use Rattle.rs_events.proofs.SoFar.{Stepped-broken}
use Rattle.rs_events.proofs.SteppedFacts.{Stepped-is, step_of}
use Rattle.rs_statement.proofs.SampleSteps.{Stepped-then}
use Rattle.rs_statement.specs.declared.fault.Fault.{Fault}
use Rattle.rs_statement.specs.Steps as statement
use Rattle.rs_statement.specs.Steps.{statement_faults}
use Rattle.rs_run.specs.Parts.Holding.{AllStand}
use Rattle.rs_run.specs.Viewing.{HeldView, Kept, grown_step, grown_view, joined_step}

-- the views, of which so many grew
abbrev pub grown_up_to : Answering → CatalogDef → ℕ → List HeldView → List HeldView
grown_up_to answer catalogue i views = map (grown_view answer catalogue) (take i views) ++ drop i views

module _ (answer : Answering) (catalogue : CatalogDef) where
  -- once the next one grew, one more did
  pub set-up_to : (views : List HeldView) (i : ℕ) (held : HeldView) → slice_get views i ≡ Some held
      → set_value_at (grown_up_to answer catalogue i views) i (whole_view answer catalogue held.1.query) ≡ grown_up_to answer catalogue (suc i) views
  set-up_to [] i held e = absurd cc
  set-up_to (first ∷ views) zero held e =
      let same : first ≡ held = cc in ap (λ (h : HeldView). (first.0, whole_view answer catalogue h.1.query) ∷ views) (sym same)
  set-up_to (first ∷ views) (suc i) held e = ap (λ rest. grown_view answer catalogue first ∷ rest) (set-up_to views i held e)

  -- none goes away
  pub length-up_to : (views : List HeldView) (i : ℕ) → length (grown_up_to answer catalogue i views) ≡ length views
  length-up_to views zero = refl
  length-up_to [] (suc i) = refl
  length-up_to (first ∷ views) (suc i) = ap suc (length-up_to views i)

  -- all of them grew
  pub all-up_to : (views : List HeldView) (i : ℕ) → length views ≤ i → grown_up_to answer catalogue i views ≡ map (grown_view answer catalogue) views
  all-up_to views i all =
      ap (λ first. map (grown_view answer catalogue) first ++ drop i views) (take_all i views all)
      ∙ ap (λ rest. map (grown_view answer catalogue) views ++ rest) (drop_all i views all) ∙ append-nil (map (grown_view answer catalogue) views)

  -- a view at a place stands
  pub stand-at : (views : List HeldView) (i : ℕ) (view : ViewDef) → slice_get (map (λ (h : HeldView). h.1) views) i ≡ Some view → AllStand answer catalogue views → Stands answer catalogue view
  stand-at [] i view e all = absurd cc
  stand-at (held ∷ views) zero view e all = let same : held.1 ≡ view = cc in subst (Stands answer catalogue) same all.0
  stand-at (held ∷ views) (suc i) view e all = stand-at views i view e all.1

-- an INSERT whose rows joined goes on with the growth of the views
joined-ok : (answer : Answering) (views : List HeldView) (own : statement.Step CatalogDef) (catalogue : CatalogDef) → own.outcome ≡ Ok catalogue
    → joined_step answer views own ≡ then_step own (grown_step answer catalogue views)
joined-ok answer views own catalogue e =
    ap (λ (outcome : Result CatalogDef Fault). joined_step answer views (step_of own.events outcome)) e
    ∙ sym (ap (λ (outcome : Result CatalogDef Fault). then_step (step_of own.events outcome) (grown_step answer catalogue views)) e)

module _ (answer : Answering) (views : List HeldView) (own : statement.Step CatalogDef → Type 0) (of : statement.Step Kept → Type 0) (catalogue : CatalogDef) (left : Kept)
    (does : (step : statement.Step CatalogDef) → own step → of (joined_step answer views step)) where
  -- its rows joined, and then the views grew, all or up to a fault
  pub Stepped-joined : (result : Result (Unit {0}) Fault) (old middle new : Environment) → Stepped statement_faults own catalogue (Ok tt) old middle
      → Stepped statement_faults (λ step. step ≡ grown_step answer catalogue views) left result middle new → Stepped statement_faults of left result old new
  Stepped-joined result old middle new joined grown =
      Stepped-is of (then_step joined.step (grown_step answer catalogue views)) left result old new
      (subst of (joined-ok answer views joined.step catalogue joined.leaves) (does joined.step joined.does))
      (Stepped-then joined.step (grown_step answer catalogue views) catalogue left result old middle new
      (record { step = joined.step; does = refl; ran = joined.ran; leaves = joined.leaves }) grown)

  -- they didn't join
  pub Stepped-unjoined : (fault : Fault) (old new : Environment) → Stepped statement_faults own catalogue (Err fault) old new → Stepped statement_faults of left (Err fault) old new
  Stepped-unjoined fault old new joined = go joined.step.outcome refl where
    broken : Stepped statement_faults (λ step. step ≡ joined.step) catalogue (Err fault) old new
    broken = record { step = joined.step; does = refl; ran = joined.ran; leaves = tt }

    go : (outcome : Result CatalogDef Fault) → joined.step.outcome ≡ outcome → Stepped statement_faults of left (Err fault) old new
    go (Ok next) e =
        Stepped-is of (then_step joined.step (grown_step answer next views)) left (Err fault) old new (subst of (joined-ok answer views joined.step next e) (does joined.step joined.does))
        (Stepped-broken joined.step (grown_step answer next views) fault catalogue left old new broken)
    go (Err why) e = record {
      step = joined_step answer views joined.step;
      does = does joined.step joined.does;
      ran = subst (λ (outcome : Result CatalogDef Fault). Ran statement_faults (run_of (joined_step answer views (step_of joined.step.events outcome))) (Err fault) old new) (sym e)
          (subst (λ (outcome : Result CatalogDef Fault). Ran statement_faults (run_of (step_of joined.step.events outcome)) (Err fault) old new) e joined.ran);
      leaves = tt;
    }

-- the held view at a place of the loop, of which only the view is known there
pub record At (views : List HeldView) (i : ℕ) (view : ViewDef) : Type 0 where
  pub held : HeldView
  pub there : slice_get views i ≡ Some held
  pub within : i < length views
  pub own : held ≡ get_or views i held
  pub same : view ≡ held.1

at-place : (answer : Answering) (catalogue : CatalogDef) (views : List HeldView) (i : ℕ) (view : ViewDef)
    → slice_get (map (λ (h : HeldView). h.1) (grown_up_to answer catalogue i views)) i ≡ Some view → At views i view
at-place answer catalogue [] i view e = absurd (none-there i e) where
  none-there : (i : ℕ) → slice_get (map (λ (h : HeldView). h.1) (grown_up_to answer catalogue i [])) i ≡ Some view → ⊥
  none-there zero e = cc
  none-there (suc i) e = cc
at-place answer catalogue (held ∷ views) zero view e =
    record { held = held; there = refl; within = omega arith; own = refl; same = let same : held.1 ≡ view = cc in sym same }
at-place answer catalogue (held ∷ views) (suc i) view e =
    let rest = at-place answer catalogue views i view e in
    record { held = rest.held; there = rest.there; within = omega (arith, rest.within); own = rest.own; same = rest.same }

pub held-at : (answer : Answering) (catalogue : CatalogDef) (views : List HeldView) (i : ℕ) (now : List HeldView) (view : ViewDef) → now ≡ grown_up_to answer catalogue i views
    → slice_get (map (λ (h : HeldView). h.1) now) i ≡ Some view → At views i view
held-at answer catalogue views i now view grown e =
    at-place answer catalogue views i view (subst (λ (entries : List HeldView). slice_get (map (λ (h : HeldView). h.1) entries) i ≡ Some view) grown e)
