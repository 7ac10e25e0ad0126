-- The catalogue as it is shows all that is in it.
use Rattle.std.proofs.Common.{rules, subst, sym}
use Rattle.rs_catalog.specs.Catalog.{CatalogDef}
use Rattle.rs_catalog.specs.IndexesHold.{IndexesHold}
use Rattle.rs_expr.specs.MemScorer.{answered_score}
use Rattle.rs_query.specs.Tops.{IsBounded}
use Rattle.rs_query.specs.WellFormed.{IsQuery}
use Rattle.rs_plan.specs.Plans.{IsPlan}
use Rattle.rs_plan.specs.Shapes.{tree_of}
use Rattle.rs_exec.proofs.HeldFacts.{held-plan}
use Rattle.cases_plans.proofs.asks.tell_rows.Goals as goal

pub start-requires-clause-query : goal.start-requires-clause-query
start-requires-clause-query c = subst (λ (seen : CatalogDef). IsQuery seen c.args.query) (sym c.current-seen.ensures) c.requires.formed

pub start-requires-clause-plan : goal.start-requires-clause-plan
start-requires-clause-plan c =
    let plan : IsPlan c.args.catalog.now c.args.query (tree_of c.args.plan.now) = search rules in
    subst (λ (seen : CatalogDef). IsPlan seen c.args.query (tree_of c.args.plan.now)) (sym c.current-seen.ensures) plan

pub tell_cursor-told-requires-clause-goes : goal.tell_cursor-told-requires-clause-goes
tell_cursor-told-requires-clause-goes c =
    let answer = answered_score c.args.scorer.now in
    let held = subst (λ (seen : CatalogDef). IndexesHold answer seen) (sym c.current-seen.ensures) c.requires.held in
    let bounded = subst (λ (seen : CatalogDef). IsBounded answer seen c.args.query) (sym c.current-seen.ensures)
    (c.worths_are_within_tops.ensures.worths answer c.args.catalog.now c.args.query c.requires.held c.requires.tops) in
    λ sound. c.in_ok-cursor.ensures.stands answer (held-plan answer c.current-seen.result held (tree_of c.args.plan.now)) bounded
