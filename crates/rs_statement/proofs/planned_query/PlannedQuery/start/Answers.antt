use Rattle.std.proofs.Common.{◌≡◌, subst, sym}
use Rattle.rs_catalog.specs.Catalog.{CatalogDef}
use Rattle.rs_query.specs.WellFormed.{IsQuery}
use Rattle.rs_plan.specs.Plans.{IsPlan}
use Rattle.rs_plan.specs.Shapes.{tree_of}
use Rattle.rs_exec.proofs.HeldFacts.{held-plan}
use Rattle.rs_statement.proofs.planned_query.PlannedQuery.start.Goals as goal

pub start-started-requires : goal.start-started-requires
start-started-requires c = record {
  query = subst (λ (seen : CatalogDef). IsQuery seen c.args.self.query) (sym c.current.ensures) c.requires.query;
  plan = subst (λ (seen : CatalogDef). IsPlan seen c.args.self.query (tree_of c.args.self.plan)) (sym c.current.ensures) c.requires.plan;
}

pub returns : goal.returns
returns c = record {
  new = c.start-started.ensures.new;
  stands = λ answer held tops. rw c.current.ensures at c.start-started.ensures.stands answer (held-plan answer c.args.catalog.now held (tree_of c.args.self.plan))
      (c.worths_are_within_tops.ensures.worths answer c.args.catalog.now c.args.self.query held tops);
}
