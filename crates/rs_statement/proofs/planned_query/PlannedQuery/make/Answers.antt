use Rattle.std.proofs.Common.{◌≡◌, ◌∙◌, ap, refl}
use Rattle.rs_plan.specs.Shapes.{tree_of}
use Rattle.rs_sample.specs.Kept.{cards_of}
use Rattle.rs_enum.specs.Texts.{text_of}
use Rattle.rs_statement.specs.Planned.{cards_for}
use Rattle.rs_statement.specs.Sampled.{sample_step}
use Rattle.rs_events.proofs.SteppedFacts.{Stepped-cut}
use Rattle.rs_statement.proofs.planned_query.PlannedQuery.make.Goals as goal

pub returns-in-Err : goal.returns-in-Err
returns-in-Err g c = record { calls = c.in-Err.ensures.calls; planned = tt }

pub choose_plan-requires : goal.choose_plan-requires
choose_plan-requires g c = record { formed = c.requires; cards = c.in-Ok.ensures.own }

-- the sample was taken, and then there was no memory for the plan
pub returns-in-Err-choose_plan : goal.returns-in-Err-choose_plan
returns-in-Err-choose_plan g c = record {
  calls = λ beside. Stepped-cut (λ step. step ≡ sample_step c.args.catalog.now c.args.sampling c.args.query) c.args.catalog.now
      (record beside { scorer = g.S.Scorer.state c.args.scorer.now }) (record beside { scorer = g.S.Scorer.state c.take_sample.new.scorer }) (c.in-Ok.ensures.calls beside);
  planned = tt;
}

pub returns-in-Ok-choose_plan : goal.returns-in-Ok-choose_plan
returns-in-Ok-choose_plan g c =
    let catalogue = c.args.catalog.now in
    let query = c.args.query in
    let own = cards_of c.in-Ok.cards in
    let cards = cards_for (g.S.Scorer.state c.args.scorer.now).answer catalogue c.args.sampling query in
    let tree = tree_of c.in-Ok-choose_plan.plan in
    let plan_is = c.in-Ok-choose_plan.ensures.tree cards c.in-Ok.ensures.cards in record {
      calls = c.in-Ok.ensures.calls;
      planned = record {
        whole = record { query = c.requires; cards = c.in-Ok.ensures.own; plan = c.in-Ok-choose_plan.ensures.plan };
        query_is = refl;
        plan_is = plan_is;
        text_is = λ counts. c.cards_decide_the_text.ensures catalogue query own cards tree counts c.requires c.in-Ok.ensures.own c.in-Ok.ensures.cards c.in-Ok-choose_plan.ensures.plan
            ∙ ap (λ t. text_of catalogue query cards t counts) plan_is;
      };
    }
