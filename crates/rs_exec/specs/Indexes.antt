-- The rank indexes of a plan hold the answers of a scorer.
use Rattle.rs_expr.specs.Scoring.{Answering}
use Rattle.rs_catalog.specs.Catalog.{CatalogDef}
use Rattle.rs_catalog.specs.IndexesHold.{Holds}
use Rattle.rs_plan.specs.Trees.{Distinct, JoinOperator, Rank, RankScan, SeqScan, SetOperator, PlanTree}

-- each index that a tree scans does
abbrev pub PlanIndexesHold : Answering → CatalogDef → PlanTree → Type 0
PlanIndexesHold answer catalogue (SeqScan entry) = Unit {0}
PlanIndexesHold answer catalogue (RankScan entry term index) = Holds answer catalogue index
PlanIndexesHold answer catalogue (Rank term child) = PlanIndexesHold answer catalogue child
PlanIndexesHold answer catalogue (JoinOperator kind left right) = PlanIndexesHold answer catalogue left × PlanIndexesHold answer catalogue right
PlanIndexesHold answer catalogue (Distinct child) = PlanIndexesHold answer catalogue child
PlanIndexesHold answer catalogue (SetOperator left right) = PlanIndexesHold answer catalogue left × PlanIndexesHold answer catalogue right
