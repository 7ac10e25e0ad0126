-- When a query with a plan is what its sample makes of it.
use Rattle.std.specs.Prelude.{◌≡◌, List, Option}
use Rattle.rs_expr.specs.Scoring.{Answering}
use Rattle.rs_catalog.specs.Catalog.{CatalogDef}
use Rattle.rs_query.specs.WellFormed.{IsQuery}
use Rattle.rs_query.specs.declared.query.Query.{Query}
use Rattle.rs_plan.specs.Plans.{IsPlan}
use Rattle.rs_plan.specs.Shapes.{tree_of}
use Rattle.rs_plan.specs.declared.counts.Counts.{Counts}
use Rattle.rs_sample.specs.Kept.{cards_of}
use Rattle.rs_enum.specs.QueryCards.{AreCards}
use Rattle.rs_enum.specs.Texts.{text_of}
use Rattle.rs_statement.specs.Planned.{cards_for, plan_for}
use Rattle.rs_statement.specs.declared.planned_query.PlannedQuery.{PlannedQuery}
use Rattle.rs_statement.specs.declared.sampling.Sampling.{Sampling}

-- its parts are of one query of the catalogue
pub record IsPlanned (catalogue : CatalogDef) (planned : PlannedQuery) : Type 0 where
  pub query : IsQuery catalogue planned.query
  pub cards : AreCards planned.query (cards_of planned.cards)
  pub plan : IsPlan catalogue planned.query (tree_of planned.plan)

-- they are those of this query: the plan is the one that its sample decides, and its text is the one by that sample
pub record IsPlannedFor (answer : Answering) (catalogue : CatalogDef) (sampling : Sampling) (query : Query) (planned : PlannedQuery) : Type 0 where
  pub whole : IsPlanned catalogue planned
  pub query_is : planned.query ≡ query
  pub plan_is : tree_of planned.plan ≡ plan_for answer catalogue sampling query
  pub text_is : (counts : Option (List Counts)) → text_of catalogue planned.query (cards_of planned.cards) (tree_of planned.plan) counts
      ≡ text_of catalogue query (cards_for answer catalogue sampling query) (plan_for answer catalogue sampling query) counts
