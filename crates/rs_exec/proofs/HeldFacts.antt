-- The indexes of each plan hold a scorer's answers where those of the catalogue do.
use Rattle.rs_expr.specs.Scoring.{Answering}
use Rattle.rs_catalog.specs.Catalog.{CatalogDef}
use Rattle.rs_catalog.specs.IndexesHold.{IndexesHold, IndexHolds}
use Rattle.rs_order.proofs.EachFacts.{each-slice_get}
use Rattle.rs_plan.specs.Trees.{Distinct, JoinOperator, Rank, RankScan, SeqScan, SetOperator, PlanTree}
use Rattle.rs_exec.specs.Indexes.{PlanIndexesHold}

-- those that a plan scans are among them
pub held-plan : (answer : Answering) (catalogue : CatalogDef) → IndexesHold answer catalogue → (tree : PlanTree) → PlanIndexesHold answer catalogue tree
held-plan answer catalogue held (SeqScan entry) = tt
held-plan answer catalogue held (RankScan entry term number) = λ index at.
    (each-slice_get (IndexHolds answer catalogue) catalogue.indexes number index held at).holds
held-plan answer catalogue held (Rank term child) = held-plan answer catalogue held child
held-plan answer catalogue held (JoinOperator kind left right) = (held-plan answer catalogue held left, held-plan answer catalogue held right)
held-plan answer catalogue held (Distinct child) = held-plan answer catalogue held child
held-plan answer catalogue held (SetOperator left right) = (held-plan answer catalogue held left, held-plan answer catalogue held right)
