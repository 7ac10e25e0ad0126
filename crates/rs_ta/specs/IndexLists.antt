-- Lists over the rank indexes of a table: what they hold, and what contracts see of them.
use Rattle.std.specs.Prelude.{ℕ, ◌≡◌, ◌≤◌, ◌<◌, List, [], ◌∷◌, length, map, Option, Some, None, option_map, refl, slice_get}
use Rattle.std.specs.Coded.{Coded, code_by, coded×, coded_ℕ, coded_list}
use Rattle.std.specs.List.{AllByRecursion}
use Rattle.rs_rank.specs.declared.scored_row.ScoredRow.{ScoredRow}
use Rattle.rs_catalog.specs.Catalog.{CatalogDef}
use Rattle.rs_catalog.specs.Indexes.{ranking_at}
use Rattle.rs_catalog.specs.Stored.{catalogue_code}
use Rattle.rs_ta.specs.Lists.{AreRanked, ListsState, count_in, rows_in}

-- the catalogue, the numbers of the indexes, and how many sorted and how many random accesses each had, of at most eight
pub record IndexListsState : Type 0 where
  pub catalogue : CatalogDef
  pub indexes : List ℕ
  pub sorted : List ℕ
  pub random : List ℕ

-- the rankings of indexes
abbrev pub rankings_of : CatalogDef → List ℕ → List (List ScoredRow)
rankings_of catalogue indexes = map (ranking_at catalogue) indexes

-- the number of the table that an index is of
abbrev pub table_of_index : CatalogDef → ℕ → Option ℕ
table_of_index catalogue index = option_map (λ i. i.def.table) (slice_get catalogue.indexes index)

-- one to eight indexes of one table
pub record AreOfOneTable (catalogue : CatalogDef) (indexes : List ℕ) : Type 0 where
  pub some : 1 ≤ length indexes
  pub few : length indexes ≤ 8
  pub table : ℕ
  pub each : AllByRecursion (λ index. table_of_index catalogue index ≡ Some table) indexes

-- no list was accessed
abbrev pub new_index_lists : CatalogDef → List ℕ → IndexListsState
new_index_lists catalogue indexes = record {
  catalogue = catalogue;
  indexes = indexes;
  sorted = 0 ∷ 0 ∷ 0 ∷ 0 ∷ 0 ∷ 0 ∷ 0 ∷ 0 ∷ [];
  random = 0 ∷ 0 ∷ 0 ∷ 0 ∷ 0 ∷ 0 ∷ 0 ∷ 0 ∷ [];
}

-- what contracts see of them: they count, and tell no random accesses
abbrev pub index_lists_state : IndexListsState → ListsState
index_lists_state state = record {
  lists = rankings_of state.catalogue state.indexes;
  sorted_count = count_in state.sorted;
  random_count = count_in state.random;
  told = None;
}

-- the rankings of indexes of a catalogue are lists of this many rows
pub record AreRankings (catalogue : CatalogDef) (indexes : List ℕ) (rows : ℕ) : Type 0 where
  pub ranked : AreRanked (rankings_of catalogue indexes)
  pub rows_are : rows ≡ rows_in (rankings_of catalogue indexes)
  pub within : AllByRecursion (λ index. index < length catalogue.indexes) indexes

-- how the logic stores them: as the tuple of their fields
abbrev pub index_lists_code : Coded IndexListsState
index_lists_code =
    code_by (CatalogDef × (List ℕ × (List ℕ × List ℕ))) (coded× catalogue_code (coded× (coded_list coded_ℕ) (coded× (coded_list coded_ℕ) (coded_list coded_ℕ))))
    (λ s. (s.catalogue, (s.indexes, (s.sorted, s.random)))) (λ t. record { catalogue = t.0; indexes = t.1.0; sorted = t.1.1.0; random = t.1.1.1 }) (λ _. refl)
