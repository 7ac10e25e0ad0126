-- What is seen of a catalogue: its tables, and its indexes with their entries.
use Rattle.std.proofs.Common.{Bor, ℕ, ◌≡◌, ◌∙◌, ◌<◌, ◌≤◌, List, [], ◌∷◌, length, refl, sym, ap, subst, arith}
use Rattle.std.specs.Prelude.{IfSome, Option, Some, None, option_map, slice_get, unwrap_or}
use Rattle.std.specs.List.{AllByRecursion}
use Rattle.std.proofs.lemmas.List.{length-take, length-take-le, take_all}
use Rattle.std.proofs.lemmas.Option.{slice_get-map}
use Rattle.rs_table.specs.FirstRows.{first_rows}
use Rattle.rs_table.specs.Relation.{Relation}
use Rattle.rs_expr.specs.Predicates.{PredicateDef}
use Rattle.rs_catalog.specs.After.{entries_within}
use Rattle.rs_catalog.specs.Catalog.{CatalogDef, NamedTable, RankIndex}
use Rattle.rs_catalog.specs.Indexes.{IsIndex, IsRanking, predicate_for, ranking_at, rows_for}
use Rattle.rs_catalog.specs.Snapshot.{HaveRows, index_at, seen_of, size_at, snapshot, tables_at}
use Rattle.rs_catalog.specs.declared.index.IndexDef.{IndexDef}
use Rattle.rs_catalog.proofs.JoinRowsFacts.{item_at}
use Rattle.rs_catalog.proofs.SnapshotFacts.{length-tables_at, rows_for-snapshot, size_at-few, slice_get-tables_at}
use Rattle.rs_catalog.proofs.WithinFacts.{IsRanking-within, within-all}

-- the tables have the rows that are seen
abbrev pub HaveSeen : Option (List ℕ) → CatalogDef → Type 0
HaveSeen sizes catalogue = IfSome sizes (λ sizes. HaveRows sizes catalogue.tables)

pub HaveSeen-borrowed : (sizes : Option (Bor (List ℕ))) (catalogue : CatalogDef) → IfSome sizes (λ (s : Bor (List ℕ)). HaveRows s.now catalogue.tables) → HaveSeen (option_map (λ (s : Bor (List ℕ)). s.now) sizes) catalogue
HaveSeen-borrowed (Some sizes) catalogue have = have
HaveSeen-borrowed None catalogue have = tt

-- how many rows are seen of a table
abbrev pub size_seen : Option (List ℕ) → ℕ → Relation → ℕ
size_seen None place table = length table.rows
size_seen (Some sizes) place table = size_at sizes place

-- as many tables are seen as there are
pub length-seen : (sizes : Option (List ℕ)) (catalogue : CatalogDef) → length (seen_of sizes catalogue).tables ≡ length catalogue.tables
length-seen None catalogue = refl
length-seen (Some sizes) catalogue = length-tables_at sizes catalogue.tables

-- what is seen of a table
pub table-seen : (sizes : Option (List ℕ)) (catalogue : CatalogDef) (place : ℕ) (table : Relation) → option_map (λ (t : NamedTable). t.table) (slice_get catalogue.tables place) ≡ Some table
    → option_map (λ (t : NamedTable). t.table) (slice_get (seen_of sizes catalogue).tables place) ≡ Some (first_rows (size_seen sizes place table) table)
table-seen None catalogue place table is =
    is ∙ sym (ap (λ rows. Some (record table { rows = rows })) (take_all (length table.rows) table.rows (omega arith)))
table-seen (Some sizes) catalogue place table is =
    ap (option_map (λ (t : NamedTable). t.table)) (slice_get-tables_at sizes catalogue.tables place) ∙ go (slice_get catalogue.tables place) is where
      go : (found : Option NamedTable) → option_map (λ (t : NamedTable). t.table) found ≡ Some table
          → option_map (λ (t : NamedTable). t.table) (option_map (λ (t : NamedTable). record t { table = first_rows (size_at sizes place) t.table }) found) ≡ Some (first_rows (size_at sizes place) table)
      go (Some named) same = let one : named.table ≡ table = cc in ap (λ (t : Relation). Some (first_rows (size_at sizes place) t)) one
      go None same = cc

-- a table has the rows that are seen
pub size_seen-few : (sizes : Option (List ℕ)) (catalogue : CatalogDef) (place : ℕ) (table : Relation) → HaveSeen sizes catalogue
    → option_map (λ (t : NamedTable). t.table) (slice_get catalogue.tables place) ≡ Some table → size_seen sizes place table ≤ length table.rows
size_seen-few None catalogue place table have is = omega arith
size_seen-few (Some sizes) catalogue place table have is = go (slice_get catalogue.tables place) is (size_at-few sizes catalogue.tables place have) where
  go : (found : Option NamedTable) → option_map (λ (t : NamedTable). t.table) found ≡ Some table
      → size_at sizes place ≤ length (unwrap_or (option_map (λ (t : NamedTable). t.table.rows) found) []) → size_at sizes place ≤ length table.rows
  go (Some named) same few = let one : named.table ≡ table = cc in subst (λ (t : Relation). size_at sizes place ≤ length t.rows) one few
  go None same few = cc

-- so that is how many rows are seen
pub rows-seen : (sizes : Option (List ℕ)) (catalogue : CatalogDef) (place : ℕ) (table : Relation) → HaveSeen sizes catalogue
    → option_map (λ (t : NamedTable). t.table) (slice_get catalogue.tables place) ≡ Some table
    → option_map (λ (t : NamedTable). length t.table.rows) (slice_get (seen_of sizes catalogue).tables place) ≡ Some (size_seen sizes place table)
rows-seen sizes catalogue place table have is = go (slice_get (seen_of sizes catalogue).tables place) (table-seen sizes catalogue place table is) where
  go : (found : Option NamedTable) → option_map (λ (t : NamedTable). t.table) found ≡ Some (first_rows (size_seen sizes place table) table)
      → option_map (λ (t : NamedTable). length t.table.rows) found ≡ Some (size_seen sizes place table)
  go (Some named) same =
      let one : named.table ≡ first_rows (size_seen sizes place table) table = cc in
      ap (λ (t : Relation). Some (length t.rows)) one ∙ ap (λ n. Some n) (length-take-le (size_seen sizes place table) table.rows (size_seen-few sizes catalogue place table have is))
  go None same = cc

size_at-seen : (sizes : List ℕ) (catalogue : CatalogDef) (place : ℕ) → HaveRows sizes catalogue.tables → place < length catalogue.tables
    → option_map (λ (t : NamedTable). length t.table.rows) (slice_get (tables_at sizes catalogue.tables) place) ≡ Some (size_at sizes place)
size_at-seen sizes catalogue place have within =
    let at = item_at catalogue.tables place within in
    rows-seen (Some sizes) catalogue place at.item.table have (ap (option_map (λ (t : NamedTable). t.table)) at.there)

pub size-borrowed : (sizes : Option (Bor (List ℕ))) (given : Bor (List ℕ)) (catalogue : CatalogDef) (place : ℕ) → sizes ≡ Some given → IfSome sizes (λ (s : Bor (List ℕ)). HaveRows s.now catalogue.tables)
    → place < length (seen_of (option_map (λ (s : Bor (List ℕ)). s.now) sizes) catalogue).tables
    → option_map (λ (t : NamedTable). length t.table.rows) (slice_get (seen_of (option_map (λ (s : Bor (List ℕ)). s.now) sizes) catalogue).tables place) ≡ Some (size_at given.now place)
size-borrowed (Some sizes) given catalogue place is have within =
    let same : sizes ≡ given = cc in
    size_at-seen sizes.now catalogue place have (omega (arith, length-tables_at sizes.now catalogue.tables)) ∙ ap (λ (s : Bor (List ℕ)). Some (size_at s.now place)) same
size-borrowed None given catalogue place is have within = cc

-- no more rows are seen than a table may have
few-tables_at : (most : ℕ) (sizes : List ℕ) (tables : List NamedTable) → AllByRecursion (λ (t : NamedTable). length t.table.rows ≤ most) tables
    → AllByRecursion (λ (t : NamedTable). length t.table.rows ≤ most) (tables_at sizes tables)
few-tables_at most sizes [] all = tt
few-tables_at most [] (named ∷ tables) all = (omega arith, few-tables_at most [] tables all.1)
few-tables_at most (count ∷ sizes) (named ∷ tables) all = (omega (arith, all.0, length-take count named.table.rows), few-tables_at most sizes tables all.1)

pub few_rows-seen : (sizes : Option (List ℕ)) (catalogue : CatalogDef) (most : ℕ) → AllByRecursion (λ (t : NamedTable). length t.table.rows ≤ most) catalogue.tables
    → AllByRecursion (λ (t : NamedTable). length t.table.rows ≤ most) (seen_of sizes catalogue).tables
few_rows-seen None catalogue most all = all
few_rows-seen (Some sizes) catalogue most all = few-tables_at most sizes catalogue.tables all

-- predicates are seen as they are
pub predicates-seen : (sizes : Option (List ℕ)) (catalogue : CatalogDef) → (seen_of sizes catalogue).predicates ≡ catalogue.predicates
predicates-seen None catalogue = refl
predicates-seen (Some sizes) catalogue = refl

-- an index is one of what is seen
pub IsIndex-seen : (sizes : Option (List ℕ)) (catalogue : CatalogDef) (def : IndexDef) → IsIndex catalogue def → IsIndex (seen_of sizes catalogue) def
IsIndex-seen None catalogue def is = is
IsIndex-seen (Some sizes) catalogue def is = record {
  table = record is.table { table = first_rows (size_at sizes def.table) is.table.table };
  has_table = slice_get-tables_at sizes catalogue.tables def.table ∙ ap (option_map (λ (t : NamedTable). record t { table = first_rows (size_at sizes def.table) t.table })) is.has_table;
  predicate = is.predicate;
  has_predicate = is.has_predicate;
  fits = is.fits;
}

-- the entries of an index, as a snapshot has them
ranking_at-snapshot : (sizes : List ℕ) (catalogue : CatalogDef) (number : ℕ) (def : IndexDef) → option_map (λ (i : RankIndex). i.def) (slice_get catalogue.indexes number) ≡ Some def
    → ranking_at (snapshot sizes catalogue) number ≡ entries_within (size_at sizes def.table) (ranking_at catalogue number)
ranking_at-snapshot sizes catalogue number def is =
    ap (λ (found : Option RankIndex). unwrap_or (option_map (λ (i : RankIndex). i.ranking) found) []) (slice_get-map (index_at sizes) catalogue.indexes number) ∙ go (slice_get catalogue.indexes number) is where
      go : (found : Option RankIndex) → option_map (λ (i : RankIndex). i.def) found ≡ Some def
          → unwrap_or (option_map (λ (i : RankIndex). i.ranking) (option_map (index_at sizes) found)) [] ≡ entries_within (size_at sizes def.table) (unwrap_or (option_map (λ (i : RankIndex). i.ranking) found) [])
      go (Some index) same = let one : index.def ≡ def = cc in ap (λ (d : IndexDef). entries_within (size_at sizes d.table) index.ranking) one
      go None same = cc

module _ (sizes : Option (List ℕ)) (catalogue : CatalogDef) (number : ℕ) (def : IndexDef) (have : HaveSeen sizes catalogue) (is : option_map (λ (i : RankIndex). i.def) (slice_get catalogue.indexes number) ≡ Some def)
    (ranking : IsRanking (length (rows_for catalogue def)) (predicate_for catalogue def).max (ranking_at catalogue number)) where
  -- the entries that are seen are those of the rows that are seen
  ranking-seen : ranking_at (seen_of sizes catalogue) number ≡ entries_within (length (rows_for (seen_of sizes catalogue) def)) (ranking_at catalogue number)
  ranking-seen = go sizes have where
    go : (sizes : Option (List ℕ)) → HaveSeen sizes catalogue → ranking_at (seen_of sizes catalogue) number ≡ entries_within (length (rows_for (seen_of sizes catalogue) def)) (ranking_at catalogue number)
    go None have = sym (within-all (ranking_at catalogue number) (length (rows_for catalogue def)) (predicate_for catalogue def).max ranking.each)
    go (Some sizes) have =
        ranking_at-snapshot sizes catalogue number def is
        ∙ ap (λ count. entries_within count (ranking_at catalogue number))
        (sym (ap length (rows_for-snapshot sizes catalogue def) ∙ length-take-le (size_at sizes def.table) (rows_for catalogue def) (size_at-few sizes catalogue.tables def.table have)))

  -- no more rows are seen than there are
  few-seen : length (rows_for (seen_of sizes catalogue) def) ≤ length (rows_for catalogue def)
  few-seen = go sizes have where
    go : (sizes : Option (List ℕ)) → HaveSeen sizes catalogue → length (rows_for (seen_of sizes catalogue) def) ≤ length (rows_for catalogue def)
    go None have = omega arith
    go (Some sizes) have =
        let few = size_at-few sizes catalogue.tables def.table have in
        omega (arith, few, ap length (rows_for-snapshot sizes catalogue def), length-take-le (size_at sizes def.table) (rows_for catalogue def) few)

  -- they are a ranking of them
  pub IsRanking-seen : IsRanking (length (rows_for (seen_of sizes catalogue) def)) (predicate_for (seen_of sizes catalogue) def).max (ranking_at (seen_of sizes catalogue) number)
  IsRanking-seen =
      let rows = length (rows_for (seen_of sizes catalogue) def) in
      let max : (predicate_for catalogue def).max ≡ (predicate_for (seen_of sizes catalogue) def).max =
      ap (λ (predicates : List PredicateDef). (predicate_for (record catalogue { predicates = predicates }) def).max) (sym (predicates-seen sizes catalogue)) in
      subst (λ most. IsRanking rows most (ranking_at (seen_of sizes catalogue) number)) max
      (subst (IsRanking rows (predicate_for catalogue def).max) (sym ranking-seen)
      (IsRanking-within rows (length (rows_for catalogue def)) (predicate_for catalogue def).max (ranking_at catalogue number) few-seen ranking))

  -- those of so many rows, where that is how many rows are seen of its table
  pub entries-seen : (rows : ℕ) → option_map (λ (t : NamedTable). length t.table.rows) (slice_get (seen_of sizes catalogue).tables def.table) ≡ Some rows
      → entries_within rows (ranking_at catalogue number) ≡ ranking_at (seen_of sizes catalogue) number
  entries-seen rows there = ap (λ count. entries_within count (ranking_at catalogue number)) (go (slice_get (seen_of sizes catalogue).tables def.table) there) ∙ sym ranking-seen where
    go : (found : Option NamedTable) → option_map (λ (t : NamedTable). length t.table.rows) found ≡ Some rows → rows ≡ length (unwrap_or (option_map (λ (t : NamedTable). t.table.rows) found) [])
    go (Some named) same = cc
    go None same = cc
