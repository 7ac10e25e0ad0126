-- What holds inside a catalogue: of the maps that hold its lists by name.
use Rattle.std.specs.Prelude.{ℕ, ◌≡◌, ◌≤◌, ◌-◌, false, List, [], ◌∷◌, Some, length, map, slice_index_or}
use Rattle.std.specs.List.{AllByRecursion}
use Rattle.std.specs.Map.{keys_of, values_of}
use Rattle.rs_table.specs.Relation.{Relation, most_rows}
use Rattle.rs_expr.specs.Predicates.{PredicateDef}
use Rattle.rs_rank.specs.declared.scored_row.ScoredRow.{ScoredRow}
use Rattle.rs_catalog.specs.Catalog.{CatalogDef, RankIndex, greatest_max, has_name, names_of}
use Rattle.rs_catalog.specs.Indexes.{IsIndex, IsRanking, rows_for, predicate_for, score_in}
use Rattle.rs_catalog.specs.declared.catalog.RankIndex.{RankIndex as StoredIndex}
use Rattle.rs_catalog.specs.declared.room.What.TheVariants.{Predicate, Index}

-- the catalogue that the entries of the maps make
abbrev pub catalogue_of : List (List ℕ × Relation) → List (List ℕ × PredicateDef) → List (List ℕ × StoredIndex) → CatalogDef
catalogue_of tables predicates indexes = record {
  tables = map (λ t. record { name = t.0; table = t.1 }) tables;
  predicates = values_of predicates;
  indexes = map (λ i. record { def = i.def; ranking = i.ranking.items }) (values_of indexes);
}

-- an index of a catalogue, and its ranking is one of its table's rows by scores of its predicate
pub record IsRanked (catalogue : CatalogDef) (index : RankIndex) : Type 0 where
  pub fits : IsIndex catalogue index.def
  pub ranking : IsRanking (length (rows_for catalogue index.def)) (predicate_for catalogue index.def).max index.ranking

-- the score of each row, which is the one that it has in the ranking
pub record AreScores (ranking : List ScoredRow) (scores : List ℕ) : Type 0 where
  pub all : length scores ≡ length ranking
  pub each : (row : ℕ) → 1 ≤ row → row ≤ length ranking → score_in row ranking ≡ Some (slice_index_or scores (row - 1) 0)

-- no two of these names are equal
abbrev pub NamesDiffer : List (List ℕ) → Type 0
NamesDiffer [] = Unit {0}
NamesDiffer (name ∷ names) = (has_name name names ≡ false) × NamesDiffer names

-- no list is over its limit or has two of one name, no table has more rows and no predicate a greater score than its type may have,
-- each entry's key is its name, each index is one of the catalogue, and its scores are those of its ranking
pub record IsInside (tables : List (List ℕ × Relation)) (predicates : List (List ℕ × PredicateDef)) (indexes : List (List ℕ × StoredIndex)) : Type 0 where
  pub few_tables : length tables ≤ 16
  pub few_predicates : length predicates ≤ 64
  pub few_indexes : length indexes ≤ 64
  pub few_rows : AllByRecursion (λ (t : List ℕ × Relation). length t.1.rows ≤ most_rows) tables
  pub low_scores : AllByRecursion (λ (p : List ℕ × PredicateDef). p.1.max ≤ greatest_max) predicates
  pub tables_differ : NamesDiffer (keys_of tables)
  pub predicates_differ : NamesDiffer (keys_of predicates)
  pub indexes_differ : NamesDiffer (keys_of indexes)
  pub predicate_keys : keys_of predicates ≡ names_of Predicate (catalogue_of tables predicates indexes)
  pub index_keys : keys_of indexes ≡ names_of Index (catalogue_of tables predicates indexes)
  pub scored : AllByRecursion (λ (index : StoredIndex). AreScores index.ranking.items index.scores.items) (values_of indexes)
  pub ranked : AllByRecursion (IsRanked (catalogue_of tables predicates indexes)) (catalogue_of tables predicates indexes).indexes
