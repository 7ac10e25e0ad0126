-- The indexes of a block that can be scanned.
use Rattle.std.proofs.Common.{ℕ, List, [], ◌∷◌}
use Rattle.std.specs.List.{AllByRecursion}
use Rattle.rs_order.proofs.EachFacts.{each-slice_get}
use Rattle.rs_expr.specs.Scoring.{Answering}
use Rattle.rs_catalog.specs.Catalog.{CatalogDef}
use Rattle.rs_catalog.specs.IndexesHold.{Holds, IndexHolds, IndexesHold}

-- each of some indexes holds the scorer's answers, where all of the catalogue do
pub held-indexes : (answer : Answering) (catalogue : CatalogDef) (indexes : List ℕ) → IndexesHold answer catalogue → AllByRecursion (Holds answer catalogue) indexes
held-indexes answer catalogue [] held = tt
held-indexes answer catalogue (index ∷ indexes) held = (
  λ found there. (each-slice_get (IndexHolds answer catalogue) catalogue.indexes index found held there).holds,
  held-indexes answer catalogue indexes held,
)
