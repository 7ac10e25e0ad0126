use Rattle.rs_plan.specs.Shapes.{tree_of}
use Rattle.rs_enum.proofs.TextFacts.{plan-nodes}
use Rattle.cases_plans.proofs.least.tell_plan.Goals as goal

pub are_all-requires : goal.are_all-requires
are_all-requires c = plan-nodes c.args.catalog.now c.args.query.now c.requires.query (tree_of c.args.plan.now) c.requires.plan
