-- What joins a catalogue.
use Rattle.std.specs.Prelude.{ℕ, ◌≡◌, ◌⊎◌, List}
use Rattle.rs_table.specs.Relation.{Relation}
use Rattle.rs_expr.specs.Predicates.{PredicateDef}
use Rattle.rs_catalog.specs.Catalog.{CatalogDef, with_predicate, with_table}

-- one table more, as the last one
pub record TableJoined (old new : CatalogDef) : Type 0 where
  pub name : List ℕ
  pub table : Relation
  pub joined : new ≡ with_table name table old

-- one predicate more, as the last one
pub record PredicateJoined (old new : CatalogDef) : Type 0 where
  pub predicate : PredicateDef
  pub joined : new ≡ with_predicate predicate old

-- one of them
abbrev pub HasJoined : CatalogDef → CatalogDef → Type 0
HasJoined old new = TableJoined old new ⊎ PredicateJoined old new
