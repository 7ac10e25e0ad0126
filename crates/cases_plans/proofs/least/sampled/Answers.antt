use Rattle.rs_expr.specs.MemScorer.{scorer_state}
use Rattle.rs_query.specs.Views.{all_rows}
use Rattle.rs_sample.specs.Kept.{cards_of}
use Rattle.rs_enum.proofs.SameCards.{sampled-are}
use Rattle.cases_plans.proofs.least.sampled.Goals as goal

pub returns-in-Ok : goal.returns-in-Ok
returns-in-Ok c =
    sampled-are (scorer_state c.args.scorer.now).answer c.args.catalog.now c.args.query.now (all_rows c.args.catalog.now c.args.query.now) c.args.seed
    (cards_of c.in-Ok.cards) c.in-Ok.ensures.cards
