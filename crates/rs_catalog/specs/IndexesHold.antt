-- The rank indexes of a catalogue hold the answers of a scorer.
use Rattle.std.specs.Prelude.{ℕ, ◌≡◌, ◌<◌, length, Ok, Some, slice_get}
use Rattle.std.specs.List.{AllByRecursion}
use Rattle.rs_expr.specs.Scoring.{Answering}
use Rattle.rs_catalog.specs.Catalog.{CatalogDef, RankIndex}
use Rattle.rs_catalog.specs.Indexes.{making}

-- an index has the ranking that this scorer's answers give
abbrev pub Holds : Answering → CatalogDef → ℕ → Type 0
Holds answer catalogue number =
    (index : RankIndex) → slice_get catalogue.indexes number ≡ Some index → (making answer catalogue index.def).outcome ≡ Ok index.ranking

-- an index is of a table and a predicate of a catalogue, and has the ranking that this scorer's answers give
pub record IndexHolds (answer : Answering) (catalogue : CatalogDef) (index : RankIndex) : Type 0 where
  pub table : index.def.table < length catalogue.tables
  pub predicate : index.def.predicate < length catalogue.predicates
  pub holds : (making answer catalogue index.def).outcome ≡ Ok index.ranking

-- each index of a catalogue is such
abbrev pub IndexesHold : Answering → CatalogDef → Type 0
IndexesHold answer catalogue = AllByRecursion (IndexHolds answer catalogue) catalogue.indexes
