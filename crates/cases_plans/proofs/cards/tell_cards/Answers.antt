use Rattle.rs_expr.specs.MemScorer.{scorer_state}
use Rattle.rs_query.specs.Views.{all_rows}
use Rattle.rs_sample.specs.Kept.{cards_of}
use Rattle.cases_plans.proofs.ShapeFacts.{HasShape-taken}
use Rattle.cases_plans.proofs.cards.tell_cards.Goals as goal

pub tell_estimates-requires : goal.tell_estimates-requires
tell_estimates-requires c =
    HasShape-taken (scorer_state c.args.scorer.now).answer c.args.catalog.now c.args.query.now (all_rows c.args.catalog.now c.args.query.now) c.args.seed (cards_of c.in-Ok.cards)
    c.requires c.in-Ok.ensures.cards
