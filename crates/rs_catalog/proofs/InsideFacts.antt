-- What the maps inside a catalogue say of it.
use Rattle.std.proofs.Common.{◌≡◌, ℕ, List, [], length, Some, sym, ap, ◌∙◌, subst}
use Rattle.std.proofs.lemmas.Option.{slice_get-map}
use Rattle.std.proofs.lemmas.Simd.{map-map}
use Rattle.std.specs.Prelude.{position, option_map, unwrap_or, slice_get}
use Rattle.std.specs.Map.{keys_of, values_of}
use Rattle.rs_rank.specs.declared.scored_row.ScoredRow.{ScoredRow}
use Rattle.rs_table.specs.Relation.{Relation}
use Rattle.rs_expr.specs.Predicates.{PredicateDef}
use Rattle.rs_catalog.specs.Catalog.{CatalogDef, names_of}
use Rattle.rs_catalog.specs.Indexes.{IsIndexEntry, index_of, is_for, predicate_for, ranking_at, rows_for}
use Rattle.rs_catalog.specs.Inside.{AreScores, IsInside, IsRanked, catalogue_of}
use Rattle.rs_catalog.specs.declared.catalog.RankIndex.{RankIndex as StoredIndex}
use Rattle.rs_catalog.specs.declared.index.BoundArg.{BoundArg}
use Rattle.rs_catalog.specs.declared.index.IndexDef.{IndexDef}
use Rattle.rs_catalog.specs.declared.room.What.TheVariants.{Table}
use Rattle.rs_order.proofs.EachFacts.{each-slice_get}
use Rattle.rs_catalog.proofs.PlaceFacts.{position-map}

module _ (tables : List (List ℕ × Relation)) (predicates : List (List ℕ × PredicateDef)) (indexes : List (List ℕ × StoredIndex)) where
  -- the keys of the tables are their names
  pub names_of_tables : names_of Table (catalogue_of tables predicates indexes) ≡ keys_of tables
  names_of_tables = map-map (λ t. t.name) (λ t. record { name = t.0; table = t.1 }) tables

  -- a table, and an index, at its place
  pub table_at : (n : ℕ) (table : Relation) → slice_get (values_of tables) n ≡ Some table → option_map (λ t. t.table) (slice_get (catalogue_of tables predicates indexes).tables n) ≡ Some table
  table_at n table at =
      sym (slice_get-map (λ t. t.table) (catalogue_of tables predicates indexes).tables n) ∙ ap (λ list. slice_get list n) (map-map (λ t. t.table) (λ t. record { name = t.0; table = t.1 }) tables) ∙ at

  pub index_at : (n : ℕ) (stored : StoredIndex) → slice_get (values_of indexes) n ≡ Some stored → slice_get (catalogue_of tables predicates indexes).indexes n ≡ Some (record { def = stored.def; ranking = stored.ranking.items })
  index_at n stored at = slice_get-map (λ i. record { def = i.def; ranking = i.ranking.items }) (values_of indexes) n ∙ ap (option_map (λ i. record { def = i.def; ranking = i.ranking.items })) at

  pub ranking_at-index : (catalogue : CatalogDef) → catalogue_of tables predicates indexes ≡ catalogue → (n : ℕ) (stored : StoredIndex) → slice_get (values_of indexes) n ≡ Some stored → ranking_at catalogue n ≡ stored.ranking.items
  ranking_at-index catalogue is n stored at = ap (λ whole. ranking_at whole n) (sym is) ∙ ap (λ found. unwrap_or (option_map (λ i. i.ranking) found) []) (index_at n stored at)

  -- the first index of a table, a predicate and arguments is the first in the map
  pub index_of-first : (table predicate : ℕ) (args : List BoundArg) (entry : ℕ)
      → position (λ i. is_for table predicate args entry i.def) (values_of indexes) ≡ index_of table predicate args entry (catalogue_of tables predicates indexes)
  index_of-first table predicate args entry =
      sym (position-map (λ i. is_for table predicate args entry i.def) (λ i. record { def = i.def; ranking = i.ranking.items }) (values_of indexes))

  -- the index at a place is one of the catalogue
  pub ranked_at : IsInside tables predicates indexes → (n : ℕ) (stored : StoredIndex) → slice_get (values_of indexes) n ≡ Some stored → IsRanked (catalogue_of tables predicates indexes) (record { def = stored.def; ranking = stored.ranking.items })
  ranked_at inside n stored at =
      each-slice_get (IsRanked (catalogue_of tables predicates indexes)) (catalogue_of tables predicates indexes).indexes n (record { def = stored.def; ranking = stored.ranking.items }) inside.ranked (index_at n stored at)

  -- and its scores by row are those of its ranking
  pub scores_at : IsInside tables predicates indexes → (n : ℕ) (stored : StoredIndex) → slice_get (values_of indexes) n ≡ Some stored → AreScores stored.ranking.items stored.scores.items
  scores_at inside n stored at = each-slice_get (λ (index : StoredIndex). AreScores index.ranking.items index.scores.items) (values_of indexes) n stored inside.scored at

  -- an entry of its ranking has a row of its table, and a score of its predicate
  pub entry_fits : IsInside tables predicates indexes → (n : ℕ) (stored : StoredIndex) → slice_get (values_of indexes) n ≡ Some stored → (place : ℕ) (entry : ScoredRow) → slice_get stored.ranking.items place ≡ Some entry
      → (def : IndexDef) → option_map (λ i. i.def) (slice_get (catalogue_of tables predicates indexes).indexes n) ≡ Some def
      → IsIndexEntry (length (rows_for (catalogue_of tables predicates indexes) def)) (predicate_for (catalogue_of tables predicates indexes) def).max entry
  entry_fits inside n stored at place entry there def is =
      let catalogue = catalogue_of tables predicates indexes in
      let ranked = ranked_at inside n stored at in
      let found : Some stored.def ≡ Some def = sym (ap (option_map (λ i. i.def)) (index_at n stored at)) ∙ is in
      let same : stored.def ≡ def = cc in
      subst (λ def. IsIndexEntry (length (rows_for catalogue def)) (predicate_for catalogue def).max entry) same
      (each-slice_get (IsIndexEntry (length (rows_for catalogue stored.def)) (predicate_for catalogue stored.def).max) stored.ranking.items place entry ranked.ranking.each there)
