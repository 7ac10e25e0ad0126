use Rattle.rs_expr.specs.FormulaScorer.{formula_state}
use Rattle.rs_query.specs.Views.{all_rows}
use Rattle.rs_sample.specs.Kept.{cards_of}
use Rattle.cases_plans.proofs.ShapeFacts.{HasShape-taken}
use Rattle.cases_plans.proofs.time.take.Goals as goal

pub returns-in-Ok : goal.returns-in-Ok
returns-in-Ok c =
    HasShape-taken (formula_state c.new-scorer.result).answer c.args.catalog.now c.args.query.now (all_rows c.args.catalog.now c.args.query.now) c.from.result (cards_of c.in-Ok.cards)
    c.requires c.in-Ok.ensures.cards
