-- Indexes of one table: their rankings are lists of its rows.
use Rattle.std.proofs.Common.{◌≡◌, ◌∙◌, ℕ, ◌+◌, ◌-◌, ◌<◌, ◌≤◌, true, false, cond, eqb, List, [], ◌∷◌, length, take, get_or, refl, sym, ap, subst, arith}
use Rattle.std.specs.Prelude.{Option, Some, None, option_map, slice_get, unwrap_or}
use Rattle.std.specs.List.{AllByRecursion}
use Rattle.std.proofs.lemmas.List.{get_or-map, length-map, take_all, take_more}
use Rattle.std.proofs.lemmas.Option.{slice_get_within}
use Rattle.rs_value.specs.declared.value.Value.{Value}
use Rattle.rs_table.specs.Relation.{Relation, most_rows}
use Rattle.rs_order.proofs.EachFacts.{each-get_or, each-map, each-push, each-slice_get, each-weaker}
use Rattle.rs_rank.specs.declared.scored_row.ScoredRow.{ScoredRow}
use Rattle.rs_catalog.specs.Catalog.{CatalogDef, NamedTable, RankIndex}
use Rattle.rs_catalog.specs.Indexes.{IsRanking, predicate_for, ranking_at, rows_for, score_in}
use Rattle.rs_catalog.specs.declared.index.IndexDef.{IndexDef}
use Rattle.rs_ta.specs.IndexLists.{AreRankings, rankings_of, table_of_index}
use Rattle.rs_ta.specs.Lists.{IsList, IsRanked, IsRow, list_at, rows_in, score_of}
use Rattle.rs_ta.proofs.TermFacts.{IsRanked-ranking}

-- how many rows a table has
abbrev pub table_rows : CatalogDef → ℕ → ℕ
table_rows catalogue table = length (unwrap_or (option_map (λ (t : NamedTable). t.table.rows) (slice_get catalogue.tables table)) [])

-- the first indexes are lists of the rows of the table
pub record Listing (catalogue : CatalogDef) (table : ℕ) (indexes : List ℕ) (count rows : ℕ) : Type 0 where
  pub each : AllByRecursion (λ index. IsRanked (table_rows catalogue table) (ranking_at catalogue index)) (take count indexes)
  pub rows_are : 1 ≤ count → rows ≡ table_rows catalogue table

-- an index and what it is of
of_table : (o : Option RankIndex) (def : IndexDef) (table : ℕ) → option_map (λ (i : RankIndex). i.def) o ≡ Some def → option_map (λ (i : RankIndex). i.def.table) o ≡ Some table → def.table ≡ table
of_table None def table is of = cc
of_table (Some i) def table is of =
    let same : i.def ≡ def = cc in
    let number : i.def.table ≡ table = cc in
    ap (λ (d : IndexDef). d.table) (sym same) ∙ number

-- the table of this number
rows-of : (o : Option NamedTable) (table : Relation) → option_map (λ (t : NamedTable). t.table) o ≡ Some table → unwrap_or (option_map (λ (t : NamedTable). t.table.rows) o) [] ≡ table.rows
rows-of None table is = cc
rows-of (Some t) table is = let same : t.table ≡ table = cc in ap (λ (r : Relation). r.rows) same

within-some : {A B : Type 0} (f : A → B) (xs : List A) (n : ℕ) (b : B) → option_map f (slice_get xs n) ≡ Some b → n < length xs
within-some {A} {B} f xs n b e = go (slice_get xs n) refl e where
  go : (o : Option A) → slice_get xs n ≡ o → option_map f o ≡ Some b → n < length xs
  go None is e = cc
  go (Some a) is e = slice_get_within xs n a is

-- each index of one table is one of the catalogue
pub index-within : (catalogue : CatalogDef) (index table : ℕ) → table_of_index catalogue index ≡ Some table → index < length catalogue.indexes
index-within catalogue index table of = within-some (λ (i : RankIndex). i.def.table) catalogue.indexes index table of

module _ (catalogue : CatalogDef) (table : ℕ) (indexes : List ℕ) where
  pub listing-none : (rows : ℕ) → Listing catalogue table indexes 0 rows
  listing-none rows = record { each = tt; rows_are = λ some. absurd (omega arith) }

  -- one more index
  pub listing-more : (count old rows : ℕ) (def : IndexDef) (relation : Relation) → count < length indexes → AllByRecursion (λ index. table_of_index catalogue index ≡ Some table) indexes
      → option_map (λ (i : RankIndex). i.def) (slice_get catalogue.indexes (get_or indexes count 0)) ≡ Some def
      → IsRanking (length (rows_for catalogue def)) (predicate_for catalogue def).max (ranking_at catalogue (get_or indexes count 0))
      → option_map (λ (t : NamedTable). t.table) (slice_get catalogue.tables def.table) ≡ Some relation
      → rows ≡ length relation.rows
      → Listing catalogue table indexes count old → Listing catalogue table indexes (count + 1) rows
  listing-more count old rows def relation within of is ranking there size before =
      let index : ℕ = get_or indexes count 0 in
      let same : def.table ≡ table = of_table (slice_get catalogue.indexes index) def table is (each-get_or (λ index. table_of_index catalogue index ≡ Some table) indexes count 0 of within) in
      let ranked : IsRanked (table_rows catalogue table) (ranking_at catalogue index) =
      subst (λ n. IsRanked (table_rows catalogue n) (ranking_at catalogue index)) same
      (IsRanked-ranking (length (rows_for catalogue def)) (predicate_for catalogue def).max (ranking_at catalogue index) ranking) in
      record {
        each = subst (AllByRecursion (λ index. IsRanked (table_rows catalogue table) (ranking_at catalogue index))) (sym (take_more indexes count 0 within))
            (each-push (λ index. IsRanked (table_rows catalogue table) (ranking_at catalogue index)) (take count indexes) index before.each ranked);
        rows_are = λ some. size ∙ ap (λ (all : List (List Value)). length all) (sym (rows-of (slice_get catalogue.tables def.table) relation there)) ∙ ap (table_rows catalogue) same;
      }

  few-rows : AllByRecursion (λ (t : NamedTable). length t.table.rows ≤ most_rows) catalogue.tables → table_rows catalogue table ≤ most_rows
  few-rows few = go (slice_get catalogue.tables table) refl where
    go : (o : Option NamedTable) → slice_get catalogue.tables table ≡ o → length (unwrap_or (option_map (λ (t : NamedTable). t.table.rows) o) []) ≤ most_rows
    go None is = omega arith
    go (Some t) is = each-slice_get (λ (t : NamedTable). length t.table.rows ≤ most_rows) catalogue.tables table t few is

  first-list : (some : List ℕ) → 1 ≤ length some → AllByRecursion (λ index. IsRanked (table_rows catalogue table) (ranking_at catalogue index)) some
      → rows_in (rankings_of catalogue some) ≡ table_rows catalogue table
  first-list [] least each = absurd (omega arith)
  first-list (index ∷ some) least each = each.0.all

  -- all indexes
  pub listing-all : (rows count : ℕ) → 1 ≤ length indexes → length indexes ≤ 8 → AllByRecursion (λ index. table_of_index catalogue index ≡ Some table) indexes
      → AllByRecursion (λ (t : NamedTable). length t.table.rows ≤ most_rows) catalogue.tables → length indexes ≤ count → Listing catalogue table indexes count rows → AreRankings catalogue indexes rows
  listing-all rows count some most of few end listing =
      let each = subst (AllByRecursion (λ index. IsRanked (table_rows catalogue table) (ranking_at catalogue index))) (take_all count indexes end) listing.each in
      let first = first-list indexes some each in
      let size = length-map indexes (ranking_at catalogue) in
      let limit = few-rows few in
      record {
        ranked = record {
          least = omega arith;
          most = omega arith;
          few = omega arith;
          each = each-map (IsRanked (rows_in (rankings_of catalogue indexes))) (ranking_at catalogue) indexes
              (subst (λ n. AllByRecursion (λ index. IsRanked n (ranking_at catalogue index)) indexes) (sym first) each);
        };
        rows_are = listing.rows_are (omega arith) ∙ sym first;
        within = each-weaker (λ index. table_of_index catalogue index ≡ Some table) (λ index. index < length catalogue.indexes) (λ index of. index-within catalogue index table of) indexes of;
      }

-- the score that a row has in a ranking
pub score_of-score_in : (row : ℕ) (ranking : List ScoredRow) (score : ℕ) → score_in row ranking ≡ Some score → score_of row ranking ≡ score
score_of-score_in row [] score e = cc
score_of-score_in row (entry ∷ rest) score e =
    (elim (eqb entry.row row) as (λ b. cond b (Some entry.score) (score_in row rest) ≡ Some score → cond b entry.score (score_of row rest) ≡ score) [
      | true ↦ λ same. cc
      | false ↦ λ later. score_of-score_in row rest score later
    ]) e

-- the index of a list, read at a place
module _ (catalogue : CatalogDef) (indexes : List ℕ) (rows list place index : ℕ) (are : AreRankings catalogue indexes rows) (is_list : IsList (rankings_of catalogue indexes) list)
    (place_is : place ≡ list - 1) (index_is : index ≡ get_or indexes place index) where
  place-within : list - 1 < length indexes
  place-within = let size = length-map indexes (ranking_at catalogue) in let some = is_list.some in let within = is_list.within in omega arith

  -- its ranking is the list
  pub list-ranking : list_at (rankings_of catalogue indexes) list ≡ ranking_at catalogue index
  list-ranking =
      get_or-map (ranking_at catalogue) indexes (list - 1) index [] place-within
      ∙ ap (ranking_at catalogue) (sym (index_is ∙ ap (λ n. get_or indexes n index) place_is))

  -- which has the rows of the table
  pub ranking-length : length (ranking_at catalogue index) ≡ rows
  ranking-length =
      ap (λ (ranking : List ScoredRow). length ranking) (sym list-ranking)
      ∙ (each-get_or (IsRanked (rows_in (rankings_of catalogue indexes))) (rankings_of catalogue indexes) (list - 1) [] are.ranked.each
      (let size = length-map indexes (ranking_at catalogue) in let within = place-within in omega arith)).all
      ∙ sym are.rows_are

  pub row-within : (row : ℕ) → IsRow (rows_in (rankings_of catalogue indexes)) row → row ≤ length (ranking_at catalogue index)
  row-within row is_row = let within = is_row.within in let same = are.rows_are in let size = ranking-length in omega arith

  pub place-in : (place : ℕ) → place < rows → place + 1 ≤ length (ranking_at catalogue index)
  place-in place within = let size = ranking-length in omega arith

  -- and scores
  pub score-is : (row score : ℕ) → score_in row (ranking_at catalogue index) ≡ Some score → score ≡ score_of row (list_at (rankings_of catalogue indexes) list)
  score-is row score is = sym (ap (score_of row) list-ranking ∙ score_of-score_in row (ranking_at catalogue index) score is)
