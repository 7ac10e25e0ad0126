-- Rows that join a table, and what becomes of the indexes: what is inside a catalogue stays so.
use Rattle.std.proofs.Common.{ℕ, zero, suc, ◌≡◌, ◌∙◌, ◌+◌, ◌<◌, ◌≤◌, ◌++◌, List, [], ◌∷◌, length, get_or, map, take, refl, sym, ap, subst, arith, true, length-append}
use Rattle.std.proofs.lemmas.List.{length-map, length-take-le, take_more}
use Rattle.std.proofs.lemmas.Option.{slice_get_within}
use Rattle.std.specs.Prelude.{Option, None, Some, option_map, slice_get, unwrap_or}
use Rattle.std.specs.List.{AllByRecursion}
use Rattle.std.specs.Map.{keys_of, values_of}
use Rattle.indexmap.specs.IndexMap.{set_value_at}
use Rattle.rs_value.specs.declared.value.Value.{Value}
use Rattle.rs_table.specs.Lent.{with_rows}
use Rattle.rs_table.specs.Relation.{Relation, most_rows}
use Rattle.rs_expr.specs.Predicates.{PredicateDef}
use Rattle.rs_catalog.specs.Catalog.{CatalogDef, NamedTable, RankIndex}
use Rattle.rs_catalog.specs.Growing.{CanJoin, grown, with_rows_in}
use Rattle.rs_catalog.specs.Grown.{AllOrdered, AreGrown, AreOrdered, HasRoom, HaveRoom, IsGrown, KeptIndex, OthersStay, all_renewed, all_renewed_kept, index_in, kept_in, renewed, renewed_at, renewed_kept, with_rows_at}
use Rattle.rs_catalog.specs.Indexes.{IsRanking, args_fit, predicate_for, rows_for}
use Rattle.rs_catalog.specs.Inside.{AreScores, IsInside, IsRanked, NamesDiffer, catalogue_of}
use Rattle.rs_catalog.specs.declared.catalog.RankIndex.{RankIndex as StoredIndex}
use Rattle.rs_catalog.specs.declared.ranked.Ranked.{Ranked}
use Rattle.rs_catalog.proofs.MoreFacts.{stable-ordered}
use Rattle.rs_rank.specs.Stable.{stable}

-- indexes with what became of them, and of one more
pub all_renewed-push : (indexes : List RankIndex) (grown : List (Option Ranked)) (index : RankIndex) (last : Option Ranked) → length indexes ≡ length grown
    → all_renewed (indexes ++ index ∷ []) (grown ++ last ∷ []) ≡ all_renewed indexes grown ++ renewed last index ∷ []
all_renewed-push [] [] index last same = refl
all_renewed-push [] (g ∷ grown) index last same = absurd (omega arith)
all_renewed-push (i ∷ indexes) [] index last same = absurd (omega arith)
all_renewed-push (i ∷ indexes) (g ∷ grown) index last same = ap (λ rest. renewed g i ∷ rest) (all_renewed-push indexes grown index last (omega arith))

pub AreGrown-none : (catalogue : CatalogDef) (table more : ℕ) (indexes : List RankIndex) → AreGrown catalogue table more indexes []
AreGrown-none catalogue table more [] = tt
AreGrown-none catalogue table more (index ∷ indexes) = tt

pub AreGrown-push : (catalogue : CatalogDef) (table more : ℕ) (indexes : List RankIndex) (grown : List (Option Ranked)) (index : RankIndex) (last : Option Ranked)
    → slice_get indexes (length grown) ≡ Some index → AreGrown catalogue table more indexes grown → IsGrown catalogue table more index last → AreGrown catalogue table more indexes (grown ++ last ∷ [])
AreGrown-push catalogue table more [] [] index last at are is = tt
AreGrown-push catalogue table more [] (g ∷ grown) index last at are is = tt
AreGrown-push catalogue table more (i ∷ indexes) [] index last at are is = let same : i ≡ index = cc in (subst (λ w. IsGrown catalogue table more w last) (sym same) is, AreGrown-none catalogue table more indexes)
AreGrown-push catalogue table more (i ∷ indexes) (g ∷ grown) index last at are is = (are.0, AreGrown-push catalogue table more indexes grown index last at are.1 is)

-- indexes of which none is left to take rows, and one more
pub all_renewed_kept-none : (kept : List KeptIndex) → all_renewed_kept kept [] ≡ kept
all_renewed_kept-none [] = refl
all_renewed_kept-none (index ∷ kept) = refl

pub all_renewed_kept-last : (kept : List KeptIndex) (grown : List (Option Ranked)) (last : Option Ranked)
    → all_renewed_kept kept (grown ++ last ∷ []) ≡ all_renewed_kept (renewed_at (length grown) last kept) grown
all_renewed_kept-last [] [] last = refl
all_renewed_kept-last [] (g ∷ grown) last = refl
all_renewed_kept-last (index ∷ kept) [] last = ap (λ rest. renewed_kept last index ∷ rest) (all_renewed_kept-none kept)
all_renewed_kept-last (index ∷ kept) (g ∷ grown) last = ap (λ rest. renewed_kept g index ∷ rest) (all_renewed_kept-last kept grown last)

pub renewed_at-none : (place : ℕ) (kept : List KeptIndex) → renewed_at place None kept ≡ kept
renewed_at-none place [] = refl
renewed_at-none zero (index ∷ kept) = refl
renewed_at-none (suc place) (index ∷ kept) = ap (λ rest. index ∷ rest) (renewed_at-none place kept)

-- an index in front of the place stays
pub renewed_at-before : (place : ℕ) (last : Option Ranked) (kept : List KeptIndex) (i : ℕ) → i < place → slice_get (renewed_at place last kept) i ≡ slice_get kept i
renewed_at-before place last [] i before = refl
renewed_at-before zero last (index ∷ kept) i before = absurd (omega arith)
renewed_at-before (suc place) last (index ∷ kept) zero before = refl
renewed_at-before (suc place) last (index ∷ kept) (suc i) before = renewed_at-before place last kept i (omega arith)

pub length-renewed_at : (place : ℕ) (last : Option Ranked) (kept : List KeptIndex) → length (renewed_at place last kept) ≡ length kept
length-renewed_at place last [] = refl
length-renewed_at zero last (index ∷ kept) = refl
length-renewed_at (suc place) last (index ∷ kept) = ap suc (length-renewed_at place last kept)

-- names and numbers of indexes stay
abbrev names_kept : List KeptIndex → List (List ℕ)
names_kept kept = map (λ (k : KeptIndex). k.name) kept

name-renewed : (last : Option Ranked) (index : KeptIndex) → (renewed_kept last index).name ≡ index.name
name-renewed None index = refl
name-renewed (Some ranked) index = refl

keys-renewed : (kept : List KeptIndex) (grown : List (Option Ranked)) → names_kept (all_renewed_kept kept grown) ≡ names_kept kept
keys-renewed [] grown = refl
keys-renewed (index ∷ kept) [] = refl
keys-renewed (index ∷ kept) (g ∷ grown) = ap (λ name. name ∷ names_kept (all_renewed_kept kept grown)) (name-renewed g index) ∙ ap (λ names. index.name ∷ names) (keys-renewed kept grown)

length-renewed : (kept : List KeptIndex) (grown : List (Option Ranked)) → length (all_renewed_kept kept grown) ≡ length kept
length-renewed [] grown = refl
length-renewed (index ∷ kept) [] = refl
length-renewed (index ∷ kept) (g ∷ grown) = ap suc (length-renewed kept grown)

-- what contracts see of them
abbrev as_index : KeptIndex → RankIndex
as_index kept = record { def = kept.def; ranking = kept.ranking }

as_index-renewed : (last : Option Ranked) (index : KeptIndex) → as_index (renewed_kept last index) ≡ renewed last (as_index index)
as_index-renewed None index = refl
as_index-renewed (Some ranked) index = refl

pub indexes-renewed : (kept : List KeptIndex) (grown : List (Option Ranked)) → map as_index (all_renewed_kept kept grown) ≡ all_renewed (map as_index kept) grown
indexes-renewed [] grown = refl
indexes-renewed (index ∷ kept) [] = refl
indexes-renewed (index ∷ kept) (g ∷ grown) =
    ap (λ first. first ∷ map as_index (all_renewed_kept kept grown)) (as_index-renewed g index) ∙ ap (λ rest. renewed g (as_index index) ∷ rest) (indexes-renewed kept grown)

-- names, definitions and scores of the indexes of a map
keys-kept : (entries : List (List ℕ × StoredIndex)) → names_kept (map kept_in entries) ≡ keys_of entries
keys-kept [] = refl
keys-kept (entry ∷ entries) = ap (λ keys. entry.0 ∷ keys) (keys-kept entries)

indexes-kept : (entries : List (List ℕ × StoredIndex)) → map as_index (map kept_in entries) ≡ map index_in (values_of entries)
indexes-kept [] = refl
indexes-kept (entry ∷ entries) = ap (λ rest. index_in entry.1 ∷ rest) (indexes-kept entries)

abbrev HasScores : KeptIndex → Type 0
HasScores kept = AreScores kept.ranking kept.scores

scored-kept : (entries : List (List ℕ × StoredIndex)) → AllByRecursion (λ (index : StoredIndex). AreScores index.ranking.items index.scores.items) (values_of entries) → AllByRecursion HasScores (map kept_in entries)
scored-kept [] all = tt
scored-kept (entry ∷ entries) all = (all.0, scored-kept entries all.1)

kept-scored : (entries : List (List ℕ × StoredIndex)) → AllByRecursion HasScores (map kept_in entries) → AllByRecursion (λ (index : StoredIndex). AreScores index.ranking.items index.scores.items) (values_of entries)
kept-scored [] all = tt
kept-scored (entry ∷ entries) all = (all.0, kept-scored entries all.1)

def-renewed : (last : Option Ranked) (index : RankIndex) → (renewed last index).def ≡ index.def
def-renewed None index = refl
def-renewed (Some ranked) index = refl

names-renewed : (indexes : List RankIndex) (grown : List (Option Ranked)) → map (λ (i : RankIndex). i.def.name) (all_renewed indexes grown) ≡ map (λ (i : RankIndex). i.def.name) indexes
names-renewed [] grown = refl
names-renewed (index ∷ indexes) [] = refl
names-renewed (index ∷ indexes) (g ∷ grown) =
    ap (λ def. def.name ∷ map (λ (i : RankIndex). i.def.name) (all_renewed indexes grown)) (def-renewed g index) ∙ ap (λ rest. index.def.name ∷ rest) (names-renewed indexes grown)

-- tables of which one has more rows: their names and numbers stay
pub keys-with_rows : (place : ℕ) (rows : List (List Value)) (tables : List (List ℕ × Relation)) → keys_of (with_rows_at place rows tables) ≡ keys_of tables
keys-with_rows place rows [] = refl
keys-with_rows zero rows (entry ∷ rest) = refl
keys-with_rows (suc place) rows (entry ∷ rest) = ap (λ keys. entry.0 ∷ keys) (keys-with_rows place rows rest)

length-with_rows : (place : ℕ) (rows : List (List Value)) (tables : List (List ℕ × Relation)) → length (with_rows_at place rows tables) ≡ length tables
length-with_rows place rows [] = refl
length-with_rows zero rows (entry ∷ rest) = refl
length-with_rows (suc place) rows (entry ∷ rest) = ap suc (length-with_rows place rows rest)

abbrev named_table : List ℕ × Relation → NamedTable
named_table entry = record { name = entry.0; table = entry.1 }

pub tables-with_rows : (place : ℕ) (rows : List (List Value)) (tables : List (List ℕ × Relation)) → map (λ (t : List ℕ × Relation). record { name = t.0; table = t.1 }) (with_rows_at place rows tables) ≡ with_rows_in place rows (map (λ (t : List ℕ × Relation). record { name = t.0; table = t.1 }) tables)
tables-with_rows place rows [] = refl
tables-with_rows zero rows (entry ∷ rest) = refl
tables-with_rows (suc place) rows (entry ∷ rest) = ap (λ tables. named_table entry ∷ tables) (tables-with_rows place rows rest)

few-with_rows : (place : ℕ) (rows : List (List Value)) (tables : List (List ℕ × Relation)) (table : Relation) → slice_get (values_of tables) place ≡ Some table → length table.rows + length rows ≤ most_rows
    → AllByRecursion (λ (t : List ℕ × Relation). length t.1.rows ≤ most_rows) tables → AllByRecursion (λ (t : List ℕ × Relation). length t.1.rows ≤ most_rows) (with_rows_at place rows tables)
few-with_rows place rows [] table at few all = tt
few-with_rows zero rows (entry ∷ rest) table at few all =
    let same : entry.1 ≡ table = cc in
    let rows_same : entry.1.rows ≡ table.rows = ap (λ (t : Relation). t.rows) same in
    ((let size = ap length rows_same in omega (arith, length-append entry.1.rows rows)), all.1)
few-with_rows (suc place) rows (entry ∷ rest) table at few all = (all.0, few-with_rows place rows rest table at few all.1)

-- a table at its place, and another one
pub with_rows_in-own : (place : ℕ) (rows : List (List Value)) (tables : List NamedTable) (named : NamedTable) → slice_get tables place ≡ Some named
    → slice_get (with_rows_in place rows tables) place ≡ Some (record named { table = with_rows rows named.table })
with_rows_in-own place rows [] named at = cc
with_rows_in-own zero rows (first ∷ rest) named at = let same : first ≡ named = cc in ap (λ (t : NamedTable). Some (record t { table = with_rows rows t.table })) same
with_rows_in-own (suc place) rows (first ∷ rest) named at = with_rows_in-own place rows rest named at

pub with_rows_in-other : (place other : ℕ) (rows : List (List Value)) (tables : List NamedTable) → (other ≡ place → ⊥) → slice_get (with_rows_in place rows tables) other ≡ slice_get tables other
with_rows_in-other place other rows [] differ = refl
with_rows_in-other zero zero rows (first ∷ rest) differ = absurd (differ refl)
with_rows_in-other zero (suc other) rows (first ∷ rest) differ = refl
with_rows_in-other (suc place) zero rows (first ∷ rest) differ = refl
with_rows_in-other (suc place) (suc other) rows (first ∷ rest) differ = with_rows_in-other place other rows rest (λ same. differ (ap suc same))

-- a table of the catalogue stands in its map
pub stored-at : (entries : List (List ℕ × Relation)) (place : ℕ) (named : NamedTable) → slice_get (map (λ (t : List ℕ × Relation). record { name = t.0; table = t.1 }) entries) place ≡ Some named
    → slice_get (values_of entries) place ≡ Some named.table
stored-at [] place named at = cc
stored-at (entry ∷ entries) zero named at = let same : named_table entry ≡ named = cc in ap (λ (t : NamedTable). Some t.table) same
stored-at (entry ∷ entries) (suc place) named at = stored-at entries place named at

module _ (catalogue : CatalogDef) (table : ℕ) (rows : List (List Value)) (indexes : List RankIndex) (join : CanJoin catalogue table rows) where
  abbrev later : CatalogDef
  later = grown table rows indexes catalogue

  -- an index of the table is one of the catalogue with the rows
  IsRanked-own : (index : RankIndex) (ranked : Ranked) → index.def.table ≡ table → IsRanked catalogue index → IsRanking (length (rows_for catalogue index.def) + length rows) (predicate_for catalogue index.def).max (renewed (Some ranked) index).ranking
      → IsRanked later (renewed (Some ranked) index)
  IsRanked-own index ranked own is ranking =
      let fits = is.fits in
      let old : slice_get catalogue.tables index.def.table ≡ Some join.named = ap (slice_get catalogue.tables) own ∙ join.has_table in
      let found : Some fits.table ≡ Some join.named = sym fits.has_table ∙ old in
      let same : fits.table ≡ join.named = cc in
      let more : NamedTable = record join.named { table = with_rows rows join.named.table } in
      let new : slice_get (with_rows_in table rows catalogue.tables) index.def.table ≡ Some more =
      ap (slice_get (with_rows_in table rows catalogue.tables)) own ∙ with_rows_in-own table rows catalogue.tables join.named join.has_table in
      let old_rows : rows_for catalogue index.def ≡ join.named.table.rows = ap (λ (found : Option NamedTable). unwrap_or (option_map (λ (t : NamedTable). t.table.rows) found) []) old in
      let new_rows : rows_for later index.def ≡ join.named.table.rows ++ rows = ap (λ (found : Option NamedTable). unwrap_or (option_map (λ (t : NamedTable). t.table.rows) found) []) new in
      let size : length (rows_for later index.def) ≡ length (rows_for catalogue index.def) + length rows =
      ap length new_rows ∙ length-append join.named.table.rows rows ∙ ap (λ (rs : List (List Value)). length rs + length rows) (sym old_rows) in
      record {
        fits = record {
          table = more;
          has_table = new;
          predicate = fits.predicate;
          has_predicate = fits.has_predicate;
          fits = subst (λ (t : NamedTable). args_fit t.table.schema fits.predicate.params index.def.args ≡ true) same fits.fits;
        };
        ranking = subst (λ n. IsRanking n (predicate_for catalogue index.def).max (renewed (Some ranked) index).ranking) (sym size) ranking;
      }

  -- an index of another table stays as it was
  IsRanked-other : (index : RankIndex) → (index.def.table ≡ table → ⊥) → IsRanked catalogue index → IsRanked later index
  IsRanked-other index other is =
      let fits = is.fits in
      let kept : slice_get (with_rows_in table rows catalogue.tables) index.def.table ≡ slice_get catalogue.tables index.def.table = with_rows_in-other table index.def.table rows catalogue.tables other in
      let same_rows : rows_for later index.def ≡ rows_for catalogue index.def = ap (λ (found : Option NamedTable). unwrap_or (option_map (λ (t : NamedTable). t.table.rows) found) []) kept in
      record {
        fits = record { table = fits.table; has_table = kept ∙ fits.has_table; predicate = fits.predicate; has_predicate = fits.has_predicate; fits = fits.fits };
        ranking = subst (λ (rs : List (List Value)). IsRanking (length rs) (predicate_for catalogue index.def).max index.ranking) (sym same_rows) is.ranking;
      }

  IsRanked-renewed : (index : RankIndex) (last : Option Ranked) → IsGrown catalogue table (length rows) index last → IsRanked catalogue index → IsRanked later (renewed last index)
  IsRanked-renewed index None is ranked = IsRanked-other index (is.of_others refl) ranked
  IsRanked-renewed index (Some one) is ranked = IsRanked-own index one (is.of_table one refl) ranked (is.ranking one refl)

  pub ranked-renewed : (some : List RankIndex) (last : List (Option Ranked)) → length some ≡ length last → AreGrown catalogue table (length rows) some last → AllByRecursion (IsRanked catalogue) some
      → AllByRecursion (IsRanked later) (all_renewed some last)
  ranked-renewed [] last same are all = tt
  ranked-renewed (index ∷ some) [] same are all = absurd (omega arith)
  ranked-renewed (index ∷ some) (g ∷ last) same are all = (IsRanked-renewed index g are.0 all.0, ranked-renewed some last (omega arith) are.1 all.1)

-- the scores of indexes are those of their rankings
scored-renewed : (catalogue : CatalogDef) (table more : ℕ) (kept : List KeptIndex) (grown : List (Option Ranked)) → AreGrown catalogue table more (map as_index kept) grown
    → AllByRecursion HasScores kept → AllByRecursion HasScores (all_renewed_kept kept grown)
scored-renewed catalogue table more [] grown are all = tt
scored-renewed catalogue table more (index ∷ kept) [] are all = all
scored-renewed catalogue table more (index ∷ kept) (None ∷ grown) are all = (all.0, scored-renewed catalogue table more kept grown are.1 all.1)
scored-renewed catalogue table more (index ∷ kept) (Some ranked ∷ grown) are all = (are.0.scores ranked refl index.scores all.0, scored-renewed catalogue table more kept grown are.1 all.1)

-- new rows and those of a ranking are in order
pub AllOrdered-grown : (catalogue : CatalogDef) (table more : ℕ) (kept : List KeptIndex) (grown : List (Option Ranked)) → AreGrown catalogue table more (map as_index kept) grown
    → AllByRecursion (IsRanked catalogue) (map as_index kept) → AllOrdered kept grown
AllOrdered-grown catalogue table more kept [] are ranked place one index at here = cc
AllOrdered-grown catalogue table more [] (g ∷ grown) are ranked place one index at here = cc
AllOrdered-grown catalogue table more (first ∷ kept) (g ∷ grown) are ranked zero one index at here =
    let same : g ≡ Some one = cc in
    let own : first ≡ index = cc in
    subst (λ (k : KeptIndex). AreOrdered one k.ranking) own (record { old = stable-ordered first.ranking ranked.0.ranking.ordered; new = are.0.ordered one same })
AllOrdered-grown catalogue table more (first ∷ kept) (g ∷ grown) are ranked (suc place) one index at here = AllOrdered-grown catalogue table more kept grown are.1 ranked.1 place one index at here

pub AllOrdered-indexes : (tables : List (List ℕ × Relation)) (predicates : List (List ℕ × PredicateDef)) (indexes : List (List ℕ × StoredIndex)) → IsInside tables predicates indexes → (table more : ℕ) (last : List (Option Ranked))
    → AreGrown (catalogue_of tables predicates indexes) table more (catalogue_of tables predicates indexes).indexes last → AllOrdered (map kept_in indexes) last
AllOrdered-indexes tables predicates indexes inside table more last are =
    AllOrdered-grown (catalogue_of tables predicates indexes) table more (map kept_in indexes) last
    (subst (λ some. AreGrown (catalogue_of tables predicates indexes) table more some last) (sym (indexes-kept indexes)) are)
    (subst (AllByRecursion (IsRanked (catalogue_of tables predicates indexes))) (sym (indexes-kept indexes)) inside.ranked)

-- indexes that are the same but for what their lists are kept in
module _ (tables : List (List ℕ × Relation)) (predicates : List (List ℕ × PredicateDef)) (indexes news : List (List ℕ × StoredIndex)) (same : map kept_in news ≡ map kept_in indexes) where
  pub catalogue-kept : catalogue_of tables predicates news ≡ catalogue_of tables predicates indexes
  catalogue-kept =
      ap (λ (indexes : List RankIndex). record { tables = map named_table tables; predicates = values_of predicates; indexes = indexes })
      (sym (indexes-kept news) ∙ ap (map as_index) same ∙ indexes-kept indexes)

  pub keys-same : keys_of news ≡ keys_of indexes
  keys-same = sym (keys-kept news) ∙ ap names_kept same ∙ keys-kept indexes

  pub length-same : length news ≡ length indexes
  length-same = sym (length-map news kept_in) ∙ ap length same ∙ length-map indexes kept_in

  pub IsInside-kept : IsInside tables predicates indexes → IsInside tables predicates news
  IsInside-kept inside =
      let few = inside.few_indexes in
      record {
        few_tables = inside.few_tables;
        few_predicates = inside.few_predicates;
        few_indexes = omega (arith, length-same);
        few_rows = inside.few_rows;
        low_scores = inside.low_scores;
        tables_differ = inside.tables_differ;
        predicates_differ = inside.predicates_differ;
        indexes_differ = subst NamesDiffer (sym keys-same) inside.indexes_differ;
        predicate_keys = inside.predicate_keys;
        index_keys = keys-same ∙ inside.index_keys ∙ ap (λ (c : CatalogDef). map (λ (i : RankIndex). i.def.name) c.indexes) (sym catalogue-kept);
        scored = kept-scored news (subst (AllByRecursion HasScores) (sym same) (scored-kept indexes inside.scored));
        ranked = subst (λ (c : CatalogDef). AllByRecursion (IsRanked c) c.indexes) (sym catalogue-kept) inside.ranked;
      }

module _ (tables : List (List ℕ × Relation)) (predicates : List (List ℕ × PredicateDef)) (indexes : List (List ℕ × StoredIndex)) (inside : IsInside tables predicates indexes)
    (table : ℕ) (rows : List (List Value)) (last : List (Option Ranked)) (join : CanJoin (catalogue_of tables predicates indexes) table rows)
    (news : List (List ℕ × StoredIndex)) (are_new : map kept_in news ≡ all_renewed_kept (map kept_in indexes) last) where
  indexes-new : map index_in (values_of news) ≡ all_renewed (map index_in (values_of indexes)) last
  indexes-new = sym (indexes-kept news) ∙ ap (map as_index) are_new ∙ indexes-renewed (map kept_in indexes) last ∙ ap (λ indexes. all_renewed indexes last) (indexes-kept indexes)

  keys-new : keys_of news ≡ keys_of indexes
  keys-new = sym (keys-kept news) ∙ ap names_kept are_new ∙ keys-renewed (map kept_in indexes) last ∙ keys-kept indexes

  length-new : length news ≡ length indexes
  length-new = sym (length-map news kept_in) ∙ ap length are_new ∙ length-renewed (map kept_in indexes) last ∙ length-map indexes kept_in

  -- the catalogue with the rows, and with those that the indexes took
  pub catalogue-grown : catalogue_of (with_rows_at table rows tables) predicates news
      ≡ grown table rows (all_renewed (catalogue_of tables predicates indexes).indexes last) (catalogue_of tables predicates indexes)
  catalogue-grown = λ i. record {
    tables = tables-with_rows table rows tables i;
    predicates = values_of predicates;
    indexes = indexes-new i;
  }

  -- is inside too
  pub IsInside-grown : length (catalogue_of tables predicates indexes).indexes ≡ length last → AreGrown (catalogue_of tables predicates indexes) table (length rows) (catalogue_of tables predicates indexes).indexes last
      → IsInside (with_rows_at table rows tables) predicates news
  IsInside-grown size are =
      let old = catalogue_of tables predicates indexes in
      let few_tables = inside.few_tables in
      let few_indexes = inside.few_indexes in
      record {
        few_tables = omega (arith, length-with_rows table rows tables);
        few_predicates = inside.few_predicates;
        few_indexes = omega (arith, length-new);
        few_rows = few-with_rows table rows tables join.named.table (stored-at tables table join.named join.has_table) join.few inside.few_rows;
        low_scores = inside.low_scores;
        tables_differ = subst NamesDiffer (sym (keys-with_rows table rows tables)) inside.tables_differ;
        predicates_differ = inside.predicates_differ;
        indexes_differ = subst NamesDiffer (sym keys-new) inside.indexes_differ;
        predicate_keys = inside.predicate_keys;
        index_keys = keys-new ∙ inside.index_keys
            ∙ sym (ap (map (λ (i : RankIndex). i.def.name)) indexes-new ∙ names-renewed old.indexes last);
        scored = kept-scored news (subst (AllByRecursion HasScores) (sym are_new)
            (scored-renewed old table (length rows) (map kept_in indexes) last (subst (λ some. AreGrown old table (length rows) some last) (sym (indexes-kept indexes)) are) (scored-kept indexes inside.scored)));
        ranked = subst (λ (c : CatalogDef). AllByRecursion (IsRanked c) c.indexes) (sym catalogue-grown)
            (ranked-renewed old table rows (all_renewed old.indexes last) join old.indexes last size are inside.ranked);
      }

-- the first one at a place of a list
pub record ItemAt {X : Type 0} (xs : List X) (place : ℕ) : Type 0 where
  pub item : X
  pub there : slice_get xs place ≡ Some item
  pub is : item ≡ get_or xs place item

pub item_at : {X : Type 0} (xs : List X) (place : ℕ) → place < length xs → ItemAt xs place
item_at [] place within = absurd (omega arith)
item_at (x ∷ xs) zero within = record { item = x; there = refl; is = refl }
item_at (x ∷ xs) (suc place) within = let later = item_at xs place (omega arith) in record { item = later.item; there = later.there; is = later.is }

-- the first indexes with what became of them, and the next one
pub all_renewed-more : (indexes : List RankIndex) (i : ℕ) (grown : List (Option Ranked)) (index : RankIndex) (last : Option Ranked) → length grown ≡ i → i < length indexes → index ≡ get_or indexes i index
    → all_renewed (take (i + 1) indexes) (grown ++ last ∷ []) ≡ all_renewed (take i indexes) grown ++ renewed last index ∷ []
all_renewed-more indexes i grown index last size within is =
    ap (λ first. all_renewed first (grown ++ last ∷ [])) (take_more indexes i index within ∙ ap (λ x. take i indexes ++ x ∷ []) (sym is))
    ∙ all_renewed-push (take i indexes) grown index last (length-take-le i indexes (omega arith) ∙ sym size)

-- what a write at a place does
pub set-same : {X : Type 0} (entries : List (List ℕ × X)) (place : ℕ) (value : X) → slice_get (values_of entries) place ≡ Some value → set_value_at entries place value ≡ entries
set-same [] place value at = refl
set-same (entry ∷ entries) zero value at = let same : entry.1 ≡ value = cc in ap (λ v. (entry.0, v) ∷ entries) (sym same)
set-same (entry ∷ entries) (suc place) value at = ap (λ rest. entry ∷ rest) (set-same entries place value at)

pub set-with_rows : (place : ℕ) (rows : List (List Value)) (entries : List (List ℕ × Relation)) (table : Relation) → slice_get (values_of entries) place ≡ Some table
    → set_value_at entries place (with_rows rows table) ≡ with_rows_at place rows entries
set-with_rows place rows [] table at = refl
set-with_rows zero rows (entry ∷ entries) table at = let same : entry.1 ≡ table = cc in ap (λ (t : Relation). (entry.0, with_rows rows t) ∷ entries) (sym same)
set-with_rows (suc place) rows (entry ∷ entries) table at = ap (λ rest. entry ∷ rest) (set-with_rows place rows entries table at)

-- the value at a place is written, and the others stay
pub OthersStay-set : (place : ℕ) (value : StoredIndex) (entries : List (List ℕ × StoredIndex)) → OthersStay place entries (set_value_at entries place value)
OthersStay-set place value [] other differ = refl
OthersStay-set zero value (entry ∷ entries) zero differ = absurd (differ refl)
OthersStay-set zero value (entry ∷ entries) (suc other) differ = refl
OthersStay-set (suc place) value (entry ∷ entries) zero differ = refl
OthersStay-set (suc place) value (entry ∷ entries) (suc other) differ = OthersStay-set place value entries other (λ same. differ (ap suc same))

pub set-own : (place : ℕ) (value stored : StoredIndex) (entries : List (List ℕ × StoredIndex)) → slice_get (values_of (set_value_at entries place value)) place ≡ Some stored → value ≡ stored
set-own place value stored [] at = cc
set-own zero value stored (entry ∷ entries) at = cc
set-own (suc place) value stored (entry ∷ entries) at = set-own place value stored entries at

-- what is kept of the index at a place stays, or has new rows
pub set-kept : (place : ℕ) (value stored : StoredIndex) (entries : List (List ℕ × StoredIndex)) → slice_get (values_of entries) place ≡ Some stored
    → value.def ≡ stored.def → value.ranking.items ≡ stored.ranking.items → value.scores.items ≡ stored.scores.items → map kept_in (set_value_at entries place value) ≡ map kept_in entries
set-kept place value stored [] at def ranking scores = refl
set-kept zero value stored (entry ∷ entries) at def ranking scores =
    let same : entry.1 ≡ stored = cc in
    ap (λ (first : KeptIndex). first ∷ map kept_in entries)
    ((λ i. record { name = entry.0; def = def i; ranking = ranking i; scores = scores i }) ∙ ap (λ (s : StoredIndex). kept_in (entry.0, s)) (sym same))
set-kept (suc place) value stored (entry ∷ entries) at def ranking scores = ap (λ rest. kept_in entry ∷ rest) (set-kept place value stored entries at def ranking scores)

pub set-renewed : (place : ℕ) (ranked : Ranked) (value stored : StoredIndex) (entries : List (List ℕ × StoredIndex)) → slice_get (values_of entries) place ≡ Some stored
    → value.def ≡ stored.def → value.ranking.items ≡ stable (λ row. row.score) (stored.ranking.items ++ ranked.ranking.items) → value.scores.items ≡ stored.scores.items ++ ranked.scores.items
    → map kept_in (set_value_at entries place value) ≡ renewed_at place (Some ranked) (map kept_in entries)
set-renewed place ranked value stored [] at def ranking scores = refl
set-renewed zero ranked value stored (entry ∷ entries) at def ranking scores =
    let same : entry.1 ≡ stored = cc in
    ap (λ (first : KeptIndex). first ∷ map kept_in entries)
    ((λ i. record { name = entry.0; def = def i; ranking = ranking i; scores = scores i }) ∙ ap (λ (s : StoredIndex). renewed_kept (Some ranked) (kept_in (entry.0, s))) (sym same))
set-renewed (suc place) ranked value stored (entry ∷ entries) at def ranking scores = ap (λ rest. kept_in entry ∷ rest) (set-renewed place ranked value stored entries at def ranking scores)

-- a place of the map is one of what is kept
pub kept-at : (place : ℕ) (stored : StoredIndex) (entries : List (List ℕ × StoredIndex)) → slice_get (values_of entries) place ≡ Some stored
    → (name : List ℕ) × (slice_get (map kept_in entries) place ≡ Some (kept_in (name, stored)))
kept-at place stored [] at = cc
kept-at zero stored (entry ∷ entries) at = let same : entry.1 ≡ stored = cc in (entry.0, ap (λ (s : StoredIndex). Some (kept_in (entry.0, s))) same)
kept-at (suc place) stored (entry ∷ entries) at = kept-at place stored entries at

-- the last of a list, and those in front of it
pub last-at : {X : Type 0} (xs : List X) (x : X) → slice_get (xs ++ x ∷ []) (length xs) ≡ Some x
last-at [] x = refl
last-at (first ∷ xs) x = last-at xs x

pub front-at : {X : Type 0} (xs ys : List X) (i : ℕ) (x : X) → slice_get xs i ≡ Some x → slice_get (xs ++ ys) i ≡ Some x
front-at [] ys i x at = cc
front-at (first ∷ xs) ys zero x at = at
front-at (first ∷ xs) ys (suc i) x at = front-at xs ys i x at

-- the last index that takes rows, and those in front of it
module _ (entries : List (List ℕ × StoredIndex)) (left : List (Option Ranked)) (last : Option Ranked) where
  pub HasRoom-last : (ranked : Ranked) (stored : StoredIndex) → HaveRoom entries (left ++ last ∷ []) → last ≡ Some ranked → slice_get (values_of entries) (length left) ≡ Some stored → HasRoom ranked stored
  HasRoom-last ranked stored room is at = room (length left) ranked stored (last-at left last ∙ ap (λ one. Some one) is) at

  pub AreOrdered-last : (ranked : Ranked) (stored : StoredIndex) → AllOrdered (map kept_in entries) (left ++ last ∷ []) → last ≡ Some ranked → slice_get (values_of entries) (length left) ≡ Some stored
      → AreOrdered ranked stored.ranking.items
  AreOrdered-last ranked stored ordered is at =
      let kept = kept-at (length left) stored entries at in
      ordered (length left) ranked (kept_in (kept.0, stored)) (last-at left last ∙ ap (λ one. Some one) is) kept.1

  pub HaveRoom-front : (news : List (List ℕ × StoredIndex)) → OthersStay (length left) entries news → HaveRoom entries (left ++ last ∷ []) → HaveRoom news left
  HaveRoom-front news others room place ranked stored at here =
      let before = slice_get_within left place (Some ranked) at in
      room place ranked stored (front-at left (last ∷ []) place (Some ranked) at) (sym (others place (λ same. absurd (omega arith))) ∙ here)

  pub AllOrdered-front : (news : List (List ℕ × StoredIndex)) (one : Option Ranked) → map kept_in news ≡ renewed_at (length left) one (map kept_in entries) → AllOrdered (map kept_in entries) (left ++ last ∷ []) → AllOrdered (map kept_in news) left
  AllOrdered-front news one is ordered place ranked index at here =
      let before = slice_get_within left place (Some ranked) at in
      ordered place ranked index (front-at left (last ∷ []) place (Some ranked) at)
      (sym (ap (λ (kept : List KeptIndex). slice_get kept place) is ∙ renewed_at-before (length left) one (map kept_in entries) place before) ∙ here)
