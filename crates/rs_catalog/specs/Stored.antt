-- How the logic stores a catalogue: as its lists, each record as a tuple of its fields.
use Rattle.std.specs.Prelude.{ℕ, List, refl}
use Rattle.std.specs.Coded.{Coded, code_by, coded×, coded_ℕ, coded_list}
use Rattle.rs_table.specs.Relation.{Relation}
use Rattle.rs_table.specs.contracts.table.Table as table
use Rattle.rs_rank.specs.contracts.scored_row.ScoredRow as entry
use Rattle.rs_rank.specs.declared.scored_row.ScoredRow.{ScoredRow}
use Rattle.rs_expr.specs.Predicates.{PredicateDef}
use Rattle.rs_expr.specs.Stored.{predicate_code}
use Rattle.rs_catalog.specs.Catalog.{CatalogDef, NamedTable, RankIndex}
use Rattle.rs_catalog.specs.contracts.index.IndexDef as def
use Rattle.rs_catalog.specs.declared.index.IndexDef.{IndexDef}

abbrev pub table_code : Coded NamedTable
table_code = code_by (List ℕ × Relation) (coded× (coded_list coded_ℕ) table.the_row.coded) (λ t. (t.name, t.table)) (λ t. record { name = t.0; table = t.1 }) (λ _. refl)

abbrev pub index_code : Coded RankIndex
index_code =
    code_by (IndexDef × List ScoredRow) (coded× def.the_row.coded (coded_list entry.the_row.coded)) (λ i. (i.def, i.ranking)) (λ t. record { def = t.0; ranking = t.1 }) (λ _. refl)

abbrev pub catalogue_code : Coded CatalogDef
catalogue_code =
    code_by (List NamedTable × (List PredicateDef × List RankIndex)) (coded× (coded_list table_code) (coded× (coded_list predicate_code) (coded_list index_code)))
    (λ c. (c.tables, (c.predicates, c.indexes))) (λ t. record { tables = t.0; predicates = t.1.0; indexes = t.1.1 }) (λ _. refl)
