-- Maps may be inside a catalogue once an entry is put last.
use Rattle.std.proofs.Common.{◌≡◌, ℕ, ◌≤◌, List, [], ◌∷◌, ◌++◌, length, length-append, map, Some, None, Option, Ok, Err, Result, refl, sym, ap, ◌∙◌, subst, arith}
use Rattle.std.proofs.lemmas.List.{map-append}
use Rattle.std.specs.Prelude.{option_map, unwrap_or, slice_get, OnOk, OnErr}
use Rattle.std.specs.List.{AllByRecursion}
use Rattle.std.specs.Map.{keys_of, values_of}
use Rattle.rs_value.specs.declared.memory.Memory.{Memory}
use Rattle.rs_table.specs.Relation.{Relation, most_rows}
use Rattle.rs_expr.specs.Predicates.{PredicateDef}
use Rattle.rs_catalog.specs.Catalog.{CatalogDef, NamedTable, RankIndex, greatest_max, with_index}
use Rattle.rs_catalog.specs.Indexes.{IsRanking, predicate_for, rows_for}
use Rattle.rs_catalog.specs.Inside.{AreScores, IsInside, IsRanked, catalogue_of}
use Rattle.rs_catalog.specs.declared.catalog.RankIndex.{RankIndex as StoredIndex}
use Rattle.rs_catalog.specs.declared.index.IndexDef.{IndexDef}
use Rattle.rs_catalog.proofs.DifferFacts.{NamesDiffer-put}
use Rattle.rs_catalog.proofs.NameFacts.{IsFree, length-keys}
use Rattle.rs_order.proofs.EachFacts.{each-push, each-weaker}
use Rattle.rs_catalog.proofs.PlaceFacts.{slice_get-push}

-- each table and predicate of a catalogue has its place in another one
record Grows (old new : CatalogDef) : Type 0 where
  tables : (n : ℕ) (t : NamedTable) → slice_get old.tables n ≡ Some t → slice_get new.tables n ≡ Some t
  predicates : (n : ℕ) (p : PredicateDef) → slice_get old.predicates n ≡ Some p → slice_get new.predicates n ≡ Some p

rows_for-index : (catalogue : CatalogDef) (def : IndexDef) (table : NamedTable) → slice_get catalogue.tables def.table ≡ Some table → rows_for catalogue def ≡ table.table.rows
rows_for-index catalogue def table at = ap (λ found. unwrap_or (option_map (λ t. t.table.rows) found) []) at

pub max_for-index : (catalogue : CatalogDef) (def : IndexDef) (predicate : PredicateDef) → slice_get catalogue.predicates def.predicate ≡ Some predicate → (predicate_for catalogue def).max ≡ predicate.max
max_for-index catalogue def predicate at = rw at refl

-- the rows of an index are those of its table
pub rows_for-table : (catalogue : CatalogDef) (def : IndexDef) (table : Relation) → option_map (λ t. t.table) (slice_get catalogue.tables def.table) ≡ Some table → rows_for catalogue def ≡ table.rows
rows_for-table catalogue def table at = by (slice_get catalogue.tables def.table) at
  where
    by : (found : Option NamedTable) → option_map (λ t. t.table) found ≡ Some table → unwrap_or (option_map (λ t. t.table.rows) found) [] ≡ table.rows
    by (Some t) same = let is : t.table ≡ table = cc in ap (λ t. t.rows) is
    by None same = cc

-- an index stays one of a catalogue that grows
IsRanked-grows : (old new : CatalogDef) → Grows old new → (index : RankIndex) → IsRanked old index → IsRanked new index
IsRanked-grows old new grows index ranked =
    let fits = ranked.fits in
    let table = grows.tables index.def.table fits.table fits.has_table in
    let predicate = grows.predicates index.def.predicate fits.predicate fits.has_predicate in
    let rows : rows_for old index.def ≡ rows_for new index.def = rows_for-index old index.def fits.table fits.has_table ∙ sym (rows_for-index new index.def fits.table table) in
    let max : (predicate_for old index.def).max ≡ (predicate_for new index.def).max = max_for-index old index.def fits.predicate fits.has_predicate ∙ sym (max_for-index new index.def fits.predicate predicate) in
    record {
      fits = record { table = fits.table; has_table = table; predicate = fits.predicate; has_predicate = predicate; fits = fits.fits };
      ranking = subst (λ most. IsRanking (length (rows_for new index.def)) most index.ranking) max (subst (λ rows. IsRanking (length rows) (predicate_for old index.def).max index.ranking) rows ranked.ranking);
    }

-- one more entry of a list that isn't full
one_more : {A : Type 0} (xs : List A) (last : A) (most : ℕ) → length xs ≤ most → (length xs ≡ most → ⊥) → length (xs ++ last ∷ []) ≤ most
one_more xs last most few not_full = omega (arith, length-append xs (last ∷ []))

module _ (tables : List (List ℕ × Relation)) (predicates : List (List ℕ × PredicateDef)) (indexes : List (List ℕ × StoredIndex)) (inside : IsInside tables predicates indexes) where
  IsInside-table : (name : List ℕ) (table : Relation) → length table.rows ≤ most_rows → IsFree name 16 (keys_of tables) → IsInside (tables ++ (name, table) ∷ []) predicates indexes
  IsInside-table name table few free =
      let old = catalogue_of tables predicates indexes in
      let new = catalogue_of (tables ++ (name, table) ∷ []) predicates indexes in
      let grows : Grows old new = record {
        tables = λ n t at. subst (λ list. slice_get list n ≡ Some t) (sym (map-append (λ t. record { name = t.0; table = t.1 }) tables ((name, table) ∷ []))) (slice_get-push old.tables n t (record { name = name; table = table }) at);
        predicates = λ n p at. at;
      } in
      record {
        few_tables = one_more tables (name, table) 16 inside.few_tables (λ same. free.not_full (length-keys tables ∙ same));
        few_predicates = inside.few_predicates;
        few_indexes = inside.few_indexes;
        few_rows = each-push (λ (t : List ℕ × Relation). length t.1.rows ≤ most_rows) tables (name, table) inside.few_rows few;
        low_scores = inside.low_scores;
        tables_differ = NamesDiffer-put tables name table inside.tables_differ free.new_name;
        predicates_differ = inside.predicates_differ;
        indexes_differ = inside.indexes_differ;
        predicate_keys = inside.predicate_keys;
        index_keys = inside.index_keys;
        scored = inside.scored;
        ranked = each-weaker (IsRanked old) (IsRanked new) (IsRanked-grows old new grows) old.indexes inside.ranked;
      }

  -- a table was put last, or there was no memory for it
  pub IsInside-table_put : (name : List ℕ) (table : Relation) (new : List (List ℕ × Relation)) (result : Result (Unit {0}) Memory)
      → OnOk result (new ≡ tables ++ (name, table) ∷ []) → OnErr result (new ≡ tables) → length table.rows ≤ most_rows → IsFree name 16 (keys_of tables) → IsInside new predicates indexes
  IsInside-table_put name table new (Ok done) put kept few free = subst (λ list. IsInside list predicates indexes) (sym put) (IsInside-table name table few free)
  IsInside-table_put name table new (Err memory) put kept few free = subst (λ list. IsInside list predicates indexes) (sym kept) inside

  IsInside-predicate : (predicate : PredicateDef) → predicate.max ≤ greatest_max → IsFree predicate.name 64 (keys_of predicates) → IsInside tables (predicates ++ (predicate.name, predicate) ∷ []) indexes
  IsInside-predicate predicate low free =
      let old = catalogue_of tables predicates indexes in
      let more = predicates ++ (predicate.name, predicate) ∷ [] in
      let new = catalogue_of tables more indexes in
      let values : values_of more ≡ old.predicates ++ predicate ∷ [] = map-append (λ e. e.1) predicates ((predicate.name, predicate) ∷ []) in
      let grows : Grows old new = record {
        tables = λ n t at. at;
        predicates = λ n p at. subst (λ list. slice_get list n ≡ Some p) (sym values) (slice_get-push old.predicates n p predicate at);
      } in
      record {
        few_tables = inside.few_tables;
        few_predicates = one_more predicates (predicate.name, predicate) 64 inside.few_predicates (λ same. free.not_full (length-keys predicates ∙ same));
        few_indexes = inside.few_indexes;
        few_rows = inside.few_rows;
        low_scores = each-push (λ (p : List ℕ × PredicateDef). p.1.max ≤ greatest_max) predicates (predicate.name, predicate) inside.low_scores low;
        tables_differ = inside.tables_differ;
        predicates_differ = NamesDiffer-put predicates predicate.name predicate inside.predicates_differ free.new_name;
        indexes_differ = inside.indexes_differ;
        predicate_keys = map-append (λ e. e.0) predicates ((predicate.name, predicate) ∷ []) ∙ ap (λ names. names ++ predicate.name ∷ []) inside.predicate_keys
            ∙ sym (ap (map (λ p. p.name)) values ∙ map-append (λ p. p.name) old.predicates (predicate ∷ []));
        index_keys = inside.index_keys;
        scored = inside.scored;
        ranked = each-weaker (IsRanked old) (IsRanked new) (IsRanked-grows old new grows) old.indexes inside.ranked;
      }

  -- a predicate was put last, or there was no memory for it
  pub IsInside-predicate_put : (predicate : PredicateDef) (new : List (List ℕ × PredicateDef)) (result : Result (Unit {0}) Memory)
      → OnOk result (new ≡ predicates ++ (predicate.name, predicate) ∷ []) → OnErr result (new ≡ predicates) → predicate.max ≤ greatest_max → IsFree predicate.name 64 (keys_of predicates) → IsInside tables new indexes
  IsInside-predicate_put predicate new (Ok done) put kept low free = subst (λ list. IsInside tables list indexes) (sym put) (IsInside-predicate predicate low free)
  IsInside-predicate_put predicate new (Err memory) put kept low free = subst (λ list. IsInside tables list indexes) (sym kept) inside

  -- the catalogue with one more index
  pub with_index-put : (name : List ℕ) (stored : StoredIndex) → catalogue_of tables predicates (indexes ++ (name, stored) ∷ []) ≡ with_index stored.def stored.ranking.items (catalogue_of tables predicates indexes)
  with_index-put name stored =
      ap (λ list. record { tables = map (λ t. record { name = t.0; table = t.1 }) tables; predicates = values_of predicates; indexes = list })
      (ap (map (λ i. record { def = i.def; ranking = i.ranking.items })) (map-append (λ e. e.1) indexes ((name, stored) ∷ []))
      ∙ map-append (λ i. record { def = i.def; ranking = i.ranking.items }) (values_of indexes) (stored ∷ []))

  IsInside-index : (stored : StoredIndex) → IsRanked (catalogue_of tables predicates indexes) (record { def = stored.def; ranking = stored.ranking.items })
      → AreScores stored.ranking.items stored.scores.items → IsFree stored.def.name 64 (keys_of indexes) → IsInside tables predicates (indexes ++ (stored.def.name, stored) ∷ [])
  IsInside-index stored ranked scores free =
      let old = catalogue_of tables predicates indexes in
      let more = indexes ++ (stored.def.name, stored) ∷ [] in
      let new = catalogue_of tables predicates more in
      let last : RankIndex = record { def = stored.def; ranking = stored.ranking.items } in
      let grown : new.indexes ≡ old.indexes ++ last ∷ [] = ap (λ catalogue. catalogue.indexes) (with_index-put stored.def.name stored) in
      let grows : Grows old new = record { tables = λ n t at. at; predicates = λ n p at. at } in
      record {
        few_tables = inside.few_tables;
        few_predicates = inside.few_predicates;
        few_indexes = one_more indexes (stored.def.name, stored) 64 inside.few_indexes (λ same. free.not_full (length-keys indexes ∙ same));
        few_rows = inside.few_rows;
        low_scores = inside.low_scores;
        tables_differ = inside.tables_differ;
        predicates_differ = inside.predicates_differ;
        indexes_differ = NamesDiffer-put indexes stored.def.name stored inside.indexes_differ free.new_name;
        predicate_keys = inside.predicate_keys;
        index_keys = map-append (λ e. e.0) indexes ((stored.def.name, stored) ∷ []) ∙ ap (λ names. names ++ stored.def.name ∷ []) inside.index_keys
            ∙ sym (ap (map (λ i. i.def.name)) grown ∙ map-append (λ i. i.def.name) old.indexes (last ∷ []));
        scored = subst (AllByRecursion (λ (index : StoredIndex). AreScores index.ranking.items index.scores.items)) (sym (map-append (λ e. e.1) indexes ((stored.def.name, stored) ∷ [])))
            (each-push (λ (index : StoredIndex). AreScores index.ranking.items index.scores.items) (values_of indexes) stored inside.scored scores);
        ranked = subst (AllByRecursion (IsRanked new)) (sym grown)
            (each-push (IsRanked new) old.indexes last (each-weaker (IsRanked old) (IsRanked new) (IsRanked-grows old new grows) old.indexes inside.ranked) (IsRanked-grows old new grows last ranked));
      }

  -- an index was put last, or there was no memory for it
  pub IsInside-index_put : (stored : StoredIndex) (new : List (List ℕ × StoredIndex)) (result : Result (Unit {0}) Memory)
      → OnOk result (new ≡ indexes ++ (stored.def.name, stored) ∷ []) → OnErr result (new ≡ indexes)
      → IsRanked (catalogue_of tables predicates indexes) (record { def = stored.def; ranking = stored.ranking.items }) → AreScores stored.ranking.items stored.scores.items
      → IsFree stored.def.name 64 (keys_of indexes) → IsInside tables predicates new
  IsInside-index_put stored new (Ok done) put kept ranked scores free = subst (λ list. IsInside tables predicates list) (sym put) (IsInside-index stored ranked scores free)
  IsInside-index_put stored new (Err memory) put kept ranked scores free = subst (λ list. IsInside tables predicates list) (sym kept) inside
