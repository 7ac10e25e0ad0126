use Rattle.std.proofs.Common.{ℕ, List, ◌≡◌, ◌∙◌, ◌+◌, ◌<◌, ◌≤◌, drop, length, map, suc, take, arith, refl, sym, ap, subst}
use Rattle.std.specs.List.{flat_map}
use Rattle.std.proofs.lemmas.Bool.{false≢true}
use Rattle.std.proofs.lemmas.List.{take_all}
use Rattle.rs_value.proofs.ResultFacts.{given-err}
use Rattle.rs_expr.specs.Scoring.{Answering}
use Rattle.rs_plain.specs.Plain.{plain_faults}
use Rattle.rs_plain.specs.declared.fault.PlainFault.TheVariants.{Memory}
use Rattle.rs_plain.proofs.RowFacts.{flat_map-at, flat_map-split}
use Rattle.rs_query.proofs.QuestionFacts.{AllAsked, AllAsked-more, AllAsked-none, Ended-behind, Failed-behind, Gave-behind}
use Rattle.indexmap.specs.IndexMap.{set_value_at}
use Rattle.rs_view.specs.Fresh.{whole_view}
use Rattle.rs_view.specs.Views.{Stands, ViewDef}
use Rattle.rs_run.specs.Parts.Holding.{as_all_grown}
use Rattle.rs_run.specs.Viewing.{HeldView, grown_view, growth_questions}
use Rattle.rs_run.proofs.GrowthSteps.{all-up_to, grown_up_to, held-at, length-up_to, set-up_to, stand-at}
use Rattle.rs_run.proofs.HeldFacts.{stand-set}
use Rattle.rs_run.proofs.views.grow_all.Goals as goal
use Rattle.rs_run.proofs.views.grow_all.Goals.{in-Some+in_ok-grow, in_default}

pub loop-index-init : goal.loop-index-init
loop-index-init g c = record { asked = AllAsked-none (g.S.Scorer.state c.args.scorer.now).answer c.args.catalog.now (g.S.Scorer.state c.args.scorer.now); grown = refl; stand = c.requires }

pub grow-requires : goal.grow-requires
grow-requires g c =
    subst (λ answer. Stands answer c.args.catalog.now c.in-Some.view.now) (sym c.loop-index.invariant.asked.keeps.answer)
    (stand-at (g.S.Scorer.state c.args.scorer.now).answer c.args.catalog.now c.loop-index.views.held.entries c.loop-index.index c.in-Some.view.now (sym c.in-Some.ensures.value) c.loop-index.invariant.stand)

pub returns-in_err-grow : goal.returns-in_err-grow
returns-in_err-grow g c =
    let old = g.S.Scorer.state c.args.scorer.now in
    let middle = g.S.Scorer.state c.loop-index.scorer in
    let new = g.S.Scorer.state c.grow.new.scorer in
    let catalogue = c.args.catalog.now in
    let views = c.args.views.now.held.entries in
    let i = c.loop-index.index in
    let at = held-at old.answer catalogue views i c.loop-index.views.held.entries c.in-Some.view.now c.loop-index.invariant.grown (sym c.in-Some.ensures.value) in
    let fault = c.in_err-grow.field-0.0 in record {
      grows = Failed-behind plain_faults Memory catalogue {A = ViewDef} {B = List HeldView} (flat_map (growth_questions catalogue) (take i views)) (growth_questions catalogue at.held)
          (flat_map (growth_questions catalogue) (drop (i + 1) views)) (flat_map (growth_questions catalogue) views) (λ (a : Answering). whole_view a catalogue at.held.1.query)
          (map (grown_view old.answer catalogue) views) fault _ old middle new (flat_map-split (growth_questions catalogue) views i at.held at.within at.own)
          (ap (as_all_grown _) (given-err c.from_residual.result fault c.from_residual.ensures)) c.loop-index.invariant.asked
          (rw at.same at c.in_err-grow.ensures.grows);
      stand = rw (given-err c.from_residual.result fault c.from_residual.ensures) tt;
      names = rw (given-err c.from_residual.result fault c.from_residual.ensures) (at.held.1.query, rw at.same at c.in_err-grow.ensures.names);
    }

pub loop-index-preserved : goal.loop-index-preserved
loop-index-preserved g c =
    let old = g.S.Scorer.state c.args.scorer.now in
    let middle = g.S.Scorer.state c.loop-index.scorer in
    let catalogue = c.args.catalog.now in
    let views = c.args.views.now.held.entries in
    let i = c.loop-index.index in
    let first = flat_map (growth_questions catalogue) (take i views) in
    elim c.match-at_mut.branch [
      | in-Some+in_ok-grow w ↦
          let new = g.S.Scorer.state w.grow.new.scorer in
          let at = held-at old.answer catalogue views i c.loop-index.views.held.entries w.in-Some.view.now c.loop-index.invariant.grown (sym w.in-Some.ensures.value) in
          let gave = Gave-behind plain_faults Memory catalogue {A = ViewDef} first (growth_questions catalogue at.held) (λ (a : Answering). whole_view a catalogue at.held.1.query) w.grow.new.self
          old middle new c.loop-index.invariant.asked (rw at.same at w.in_ok-grow.ensures.grows) in
          let next : suc i ≡ i + 1 = omega arith in
          rw w.views-is (rw w.scorer-is (record {
            asked = subst (λ questions. AllAsked old.answer catalogue questions old new) (sym (flat_map-at (growth_questions catalogue) views i at.held at.within at.own))
                (AllAsked-more old.answer catalogue first (growth_questions catalogue at.held) old middle new c.loop-index.invariant.asked gave.asked);
            grown = ap (λ (entries : List HeldView). set_value_at entries i w.grow.new.self) c.loop-index.invariant.grown
                ∙ ap (set_value_at (grown_up_to old.answer catalogue i views) i) gave.is_value ∙ set-up_to old.answer catalogue views i at.held at.there
                ∙ ap (λ (n : ℕ). grown_up_to old.answer catalogue n views) next;
            stand = stand-set old.answer catalogue c.loop-index.views.held.entries i w.grow.new.self c.loop-index.invariant.stand
                (subst (λ answer. Stands answer catalogue w.grow.new.self) (gave.asked.keeps.answer ∙ c.loop-index.invariant.asked.keeps.answer) w.in_ok-grow.ensures.stands);
          }))
      | in_default w ↦
          let within : i < length c.loop-index.views.held.entries =
          omega (arith, c.loop-index-test.true, c.len-index-end.ensures.len, ap length c.loop-index.invariant.grown, length-up_to old.answer catalogue views i) in
          absurd (false≢true (w.in_default.ensures.found.1 within))
    ]

pub returns : goal.returns
returns g c =
    let old = g.S.Scorer.state c.args.scorer.now in
    let catalogue = c.args.catalog.now in
    let views = c.args.views.now.held.entries in
    let i = c.loop-index.index in
    let all : length views ≤ i = omega (arith, c.loop-index-test.false, c.len-index-end.ensures.len) in record {
      grows = Ended-behind plain_faults Memory catalogue {A = List HeldView} (flat_map (growth_questions catalogue) (take i views)) (flat_map (growth_questions catalogue) views)
          (map (grown_view old.answer catalogue) views) c.loop-index.views.held.entries old (g.S.Scorer.state c.loop-index.scorer)
          (ap (flat_map (growth_questions catalogue)) (sym (take_all i views all)))
          (c.loop-index.invariant.grown ∙ all-up_to old.answer catalogue views i all) c.loop-index.invariant.asked;
      stand = c.loop-index.invariant.stand;
      names = tt;
    }
