use Rattle.std.proofs.Common.{◌≡◌, ◌∙◌, ap, length, refl, subst, sym}
use Rattle.std.specs.Prelude.{Ok, Err, Some}
use Rattle.rs_value.proofs.ResultFacts.{given-err}
use Rattle.rs_catalog.specs.Catalog.{CatalogDef}
use Rattle.rs_query.specs.WellFormed.{IsQuery}
use Rattle.rs_plan.specs.Plans.{IsPlan}
use Rattle.rs_plan.specs.Shapes.{tree_of}
use Rattle.rs_sample.specs.Kept.{cards_of}
use Rattle.rs_enum.specs.QueryCards.{AreCards}
use Rattle.rs_enum.specs.Texts.{text_of}
use Rattle.rs_exec.specs.Asking.{world_of}
use Rattle.rs_exec.proofs.HeldFacts.{held-plan}
use Rattle.rs_statement.specs.declared.fault.Fault.TheVariants.{Memory}
use Rattle.rs_statement.specs.Planned.{asks_in_all, planned_step}
use Rattle.rs_events.specs.Sequence.{silent}
use Rattle.rs_statement.proofs.AnalyzeSteps.{Stepped-late, counts-started, silent-then}
use Rattle.rs_statement.proofs.CountSteps.{length-counts}
use Rattle.rs_statement.proofs.LeftSteps.{Left-new}
use Rattle.rs_events.proofs.SteppedFacts.{Stepped-no_memory}
use Rattle.rs_statement.proofs.analyzed.asked_text.Goals as goal

pub start-requires : goal.start-requires
start-requires g c = record {
  query = subst (λ (seen : CatalogDef). IsQuery seen c.args.planned.query) (sym c.current-current.ensures) c.requires.whole.query;
  plan = subst (λ (seen : CatalogDef). IsPlan seen c.args.planned.query (tree_of c.args.planned.plan)) (sym c.current-current.ensures) c.requires.whole.plan;
}

-- there was no memory for the cursor
pub returns-in-Err : goal.returns-in-Err
returns-in-Err g c =
    let step = silent (planned_step (world_of c.args.catalog.now (g.S.Scorer.state c.args.scorer.now).answer c.args.planned.query) (tree_of c.args.planned.plan)) in
    record { asks = λ beside. Stepped-no_memory (λ s. s ≡ step) step c.args.catalog.now (record beside { scorer = g.S.Scorer.state c.args.scorer.now }) refl; text = tt }

pub asked_counts-requires : goal.asked_counts-requires
asked_counts-requires g c =
    let answer = (g.S.Scorer.state c.args.scorer.now).answer in
    rw c.current-current.ensures (rw c.current-current.ensures at c.in-Ok.ensures.stands answer (held-plan answer c.args.catalog.now c.requires.held (tree_of c.args.planned.plan))
    (c.worths_are_within_tops.ensures.worths answer c.args.catalog.now c.args.planned.query c.requires.held c.requires.tops))

pub returns-in-Err-asked_counts : goal.returns-in-Err-asked_counts
returns-in-Err-asked_counts g c =
    let answer = (g.S.Scorer.state c.args.scorer.now).answer in
    let new = c.in-Ok.ensures.new in record {
      asks = λ beside. Left-new silent silent-then c.args.catalog.now answer c.args.planned.query (tree_of c.args.planned.plan) c.in-Ok.cursor (Err c.in-Err-asked_counts.fault)
          (record beside { scorer = g.S.Scorer.state c.args.scorer.now }) (record beside { scorer = g.S.Scorer.state c.asked_counts.new.scorer })
          (record { query_is = new.query_is; plan_is = new.plan_is; asks_are = new.unasked }) refl (rw c.current-current.ensures at c.in-Err-asked_counts.ensures.asks beside);
      text = tt;
    }

pub explain-told-requires : goal.explain-told-requires
explain-told-requires g c =
    let catalogue = c.args.catalog.now in
    let answer = (g.S.Scorer.state c.args.scorer.now).answer in
    let planned = c.args.planned in
    let tree = tree_of planned.plan in
    let w = world_of catalogue answer planned.query in
    let same = sym (c.query.ensures ∙ c.in-Ok-asked_counts.ensures.query ∙ c.in-Ok.ensures.new.query_is) in record {
      query = subst (IsQuery catalogue) same c.requires.whole.query;
      cards = subst (λ q. AreCards q (cards_of planned.cards)) same c.requires.whole.cards;
      plan = subst (λ q. IsPlan catalogue q tree) same c.requires.whole.plan;
      counts = ap length (c.deref.ensures.value ∙ (rw c.current-current.ensures at c.in-Ok-asked_counts.ensures.counts)
          ∙ counts-started catalogue answer planned.query tree c.in-Ok.cursor c.in-Ok.ensures.new) ∙ length-counts w 1 tree (asks_in_all w tree);
    }

pub returns-in_err-told : goal.returns-in_err-told
returns-in_err-told g c =
    let catalogue = c.args.catalog.now in
    let answer = (g.S.Scorer.state c.args.scorer.now).answer in
    let query = c.args.planned.query in
    let tree = tree_of c.args.planned.plan in
    let new = c.in-Ok.ensures.new in
    rw (given-err c.from_residual.result Memory c.from_residual.ensures) (record {
      asks = λ beside.
          let before = record beside { scorer = g.S.Scorer.state c.args.scorer.now } in
          let after = record beside { scorer = g.S.Scorer.state c.asked_counts.new.scorer } in
          Stepped-late (λ step. step ≡ silent (planned_step (world_of catalogue answer query) tree)) catalogue before after
          (Left-new silent silent-then catalogue answer query tree c.in-Ok.cursor (Ok tt) before after
          (record { query_is = new.query_is; plan_is = new.plan_is; asks_are = new.unasked }) refl (rw c.current-current.ensures at c.in-Ok-asked_counts.ensures.asks beside));
      text = tt;
    })

pub returns : goal.returns
returns g c =
    let catalogue = c.args.catalog.now in
    let answer = (g.S.Scorer.state c.args.scorer.now).answer in
    let planned = c.args.planned in
    let tree = tree_of planned.plan in
    let new = c.in-Ok.ensures.new in record {
      asks = λ beside. Left-new silent silent-then catalogue answer planned.query tree c.in-Ok.cursor (Ok tt)
          (record beside { scorer = g.S.Scorer.state c.args.scorer.now }) (record beside { scorer = g.S.Scorer.state c.asked_counts.new.scorer })
          (record { query_is = new.query_is; plan_is = new.plan_is; asks_are = new.unasked }) refl (rw c.current-current.ensures at c.in-Ok-asked_counts.ensures.asks beside);
      text = c.in_ok-told.ensures
          ∙ ap (λ q. text_of catalogue q (cards_of planned.cards) tree (Some c.deref.result.now)) (c.query.ensures ∙ c.in-Ok-asked_counts.ensures.query ∙ new.query_is)
          ∙ ap (λ counts. text_of catalogue planned.query (cards_of planned.cards) tree (Some counts)) (c.deref.ensures.value
          ∙ (rw c.current-current.ensures at c.in-Ok-asked_counts.ensures.counts) ∙ counts-started catalogue answer planned.query tree c.in-Ok.cursor new);
    }
