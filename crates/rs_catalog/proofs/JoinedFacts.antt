-- Catalogues that others join: tables, predicates and indexes keep their places.
use Rattle.std.proofs.Common.{◌≡◌, ℕ, zero, suc, ◌<◌, List, [], ◌∷◌, ◌++◌, length, refl, append-nil, arith}
use Rattle.std.specs.Prelude.{slice_get}
use Rattle.rs_table.specs.Relation.{Relation}
use Rattle.rs_expr.specs.Predicates.{PredicateDef}
use Rattle.rs_rank.specs.declared.scored_row.ScoredRow.{ScoredRow}
use Rattle.rs_catalog.specs.Catalog.{CatalogDef, with_index, with_predicate, with_table}
use Rattle.rs_catalog.specs.declared.index.IndexDef.{IndexDef}

-- a catalogue with the tables, predicates and indexes of another one behind its own
abbrev pub joined : CatalogDef → CatalogDef → CatalogDef
joined catalogue more = record {
  tables = catalogue.tables ++ more.tables;
  predicates = catalogue.predicates ++ more.predicates;
  indexes = catalogue.indexes ++ more.indexes;
}

-- a table, a predicate or an index that joins is the only one of such a catalogue
abbrev pub only_table : List ℕ → Relation → CatalogDef
only_table name table = record { tables = record { name = name; table = table } ∷ []; predicates = []; indexes = [] }

abbrev pub only_predicate : PredicateDef → CatalogDef
only_predicate predicate = record { tables = []; predicates = predicate ∷ []; indexes = [] }

abbrev pub only_index : IndexDef → List ScoredRow → CatalogDef
only_index def ranking = record { tables = []; predicates = []; indexes = record { def = def; ranking = ranking } ∷ [] }

pub joined-table : (catalogue : CatalogDef) (name : List ℕ) (table : Relation) → joined catalogue (only_table name table) ≡ with_table name table catalogue
joined-table catalogue name table = λ i. record {
  tables = catalogue.tables ++ record { name = name; table = table } ∷ [];
  predicates = append-nil catalogue.predicates i;
  indexes = append-nil catalogue.indexes i;
}

pub joined-predicate : (catalogue : CatalogDef) (predicate : PredicateDef) → joined catalogue (only_predicate predicate) ≡ with_predicate predicate catalogue
joined-predicate catalogue predicate = λ i. record {
  tables = append-nil catalogue.tables i;
  predicates = catalogue.predicates ++ predicate ∷ [];
  indexes = append-nil catalogue.indexes i;
}

pub joined-index : (catalogue : CatalogDef) (def : IndexDef) (ranking : List ScoredRow) → joined catalogue (only_index def ranking) ≡ with_index def ranking catalogue
joined-index catalogue def ranking = λ i. record {
  tables = append-nil catalogue.tables i;
  predicates = append-nil catalogue.predicates i;
  indexes = catalogue.indexes ++ record { def = def; ranking = ranking } ∷ [];
}

-- an item keeps its place in front of others
pub slice_get-front : {A : Type 0} (xs more : List A) (n : ℕ) → n < length xs → slice_get (xs ++ more) n ≡ slice_get xs n
slice_get-front [] more n within = absurd (omega arith)
slice_get-front (x ∷ xs) more zero within = refl
slice_get-front (x ∷ xs) more (suc n) within = slice_get-front xs more n (omega arith)
