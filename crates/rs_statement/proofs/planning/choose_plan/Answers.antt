use Rattle.rs_sample.specs.Kept.{cards_of}
use Rattle.rs_statement.proofs.PlanningFacts.{chosen-plan, chosen-tree}
use Rattle.rs_statement.proofs.planning.choose_plan.Goals as goal

pub returns : goal.returns
returns c = record {
  tree = λ sampled same. chosen-tree c.there_is_one_least_plan.ensures.unique c.there_is_one_least_plan.ensures.there_is_one c.cards_decide_the_plan.ensures
      c.args.catalog.now c.args.query.now (cards_of c.args.cards.now) sampled c.best.result c.requires.formed c.requires.cards same c.best.ensures;
  plan = chosen-plan c.args.catalog.now c.args.query.now (cards_of c.args.cards.now) c.best.result c.best.ensures;
}
