-- Snapshots of catalogues: what they show, and that they stay as the catalogue grows.
use Rattle.std.proofs.Common.{ℕ, zero, suc, ◌≡◌, ◌∙◌, ◌+◌, ◌≤◌, ◌++◌, Bool, true, false, List, [], ◌∷◌, length, length-append, map, take, refl, sym, ap, subst, inl, inr, arith}
use Rattle.std.specs.Prelude.{◌⊎◌, ◌==◌, Option, Some, None, Result, Ok, Err, option_map, slice_get, unwrap_or}
use Rattle.std.specs.List.{AllByRecursion}
use Rattle.std.proofs.lemmas.Bool.{eqb-false, eqb-true}
use Rattle.std.proofs.lemmas.List.{map-append, take-append-le, take_all, take_more}
use Rattle.std.proofs.lemmas.Option.{get_or_from_slice_get, slice_get-map, slice_get_within}
use Rattle.rs_value.specs.declared.value.Value.{Value}
use Rattle.rs_table.specs.FirstRows.{first_rows}
use Rattle.rs_table.specs.Relation.{Relation}
use Rattle.rs_expr.specs.InOrder.{Inquiry, InquiryEnds, InquiryFails, InquiryStops}
use Rattle.rs_expr.specs.Scoring.{Answering, ScorerState}
use Rattle.rs_order.proofs.EachFacts.{each-map, each-weaker}
use Rattle.rs_rank.specs.declared.scored_row.ScoredRow.{ScoredRow}
use Rattle.rs_catalog.specs.After.{entries_within}
use Rattle.rs_catalog.specs.Catalog.{CatalogDef, NamedTable, RankIndex, with_index, with_table}
use Rattle.rs_catalog.specs.Growing.{GrowsBy, catalogue_grown, grown, growing, growing_index, in_turn, scorings_new, with_entries, with_rows_in}
use Rattle.rs_catalog.specs.IndexesHold.{IndexHolds, IndexesHold}
use Rattle.rs_catalog.specs.Indexes.{IsRanking, args_in, making_of, predicate_for, rows_for}
use Rattle.rs_catalog.specs.Snapshot.{HaveRows, index_at, size_at, sizes_in, snapshot, tables_at}
use Rattle.rs_catalog.specs.declared.growth.GrowFault.{GrowFault}
use Rattle.rs_catalog.specs.declared.growth.GrowFault.TheVariants.{Memory}
use Rattle.rs_catalog.specs.declared.index.IndexDef.{IndexDef}
use Rattle.rs_catalog.proofs.GrowAtFacts.{growing_index-other, growing_index-own}
use Rattle.rs_catalog.proofs.HeldRowsFacts.{IsFinished-from}
use Rattle.rs_catalog.proofs.InTurnFacts.{Parts-in_turn}
use Rattle.rs_catalog.proofs.MoreFacts.{AreNew-scored}
use Rattle.rs_catalog.proofs.RankingFacts.{IsRanking-made}
use Rattle.rs_catalog.proofs.WithinFacts.{making-first, within-all, within-joined}

-- a table with so many of its first rows
abbrev named_at : ℕ → NamedTable → NamedTable
named_at count named = record named { table = first_rows count named.table }

-- the rows of a table that was found
abbrev rows_of : Option NamedTable → List (List Value)
rows_of found = unwrap_or (option_map (λ (t : NamedTable). t.table.rows) found) []

-- as many tables, each at its place
pub length-tables_at : (sizes : List ℕ) (tables : List NamedTable) → length (tables_at sizes tables) ≡ length tables
length-tables_at sizes [] = refl
length-tables_at [] (named ∷ tables) = ap suc (length-tables_at [] tables)
length-tables_at (count ∷ sizes) (named ∷ tables) = ap suc (length-tables_at sizes tables)

pub slice_get-tables_at : (sizes : List ℕ) (tables : List NamedTable) (place : ℕ)
    → slice_get (tables_at sizes tables) place ≡ option_map (λ (t : NamedTable). record t { table = first_rows (size_at sizes place) t.table }) (slice_get tables place)
slice_get-tables_at sizes [] place = refl
slice_get-tables_at [] (named ∷ tables) zero = refl
slice_get-tables_at [] (named ∷ tables) (suc place) = slice_get-tables_at [] tables place
slice_get-tables_at (count ∷ sizes) (named ∷ tables) zero = refl
slice_get-tables_at (count ∷ sizes) (named ∷ tables) (suc place) = slice_get-tables_at sizes tables place

-- the rows of an index
pub rows_for-snapshot : (sizes : List ℕ) (catalogue : CatalogDef) (def : IndexDef) → rows_for (snapshot sizes catalogue) def ≡ take (size_at sizes def.table) (rows_for catalogue def)
rows_for-snapshot sizes catalogue def = ap rows_of (slice_get-tables_at sizes catalogue.tables def.table) ∙ go (slice_get catalogue.tables def.table) (size_at sizes def.table) where
  go : (found : Option NamedTable) (count : ℕ) → rows_of (option_map (λ (t : NamedTable). record t { table = first_rows count t.table }) found) ≡ take count (rows_of found)
  go (Some named) count = refl
  go None zero = refl
  go None (suc count) = refl

-- a table has the rows that a snapshot shows
pub size_at-few : (sizes : List ℕ) (tables : List NamedTable) (place : ℕ) → HaveRows sizes tables → size_at sizes place ≤ length (rows_of (slice_get tables place))
size_at-few [] tables place have = omega arith
size_at-few (count ∷ sizes) [] place have = absurd have
size_at-few (count ∷ sizes) (named ∷ tables) zero have = have.0
size_at-few (count ∷ sizes) (named ∷ tables) (suc place) have = size_at-few sizes tables place have.1

-- each table has the rows that it has
pub HaveRows-all : (tables : List NamedTable) → HaveRows (map (λ (named : NamedTable). length named.table.rows) tables) tables
HaveRows-all [] = tt
HaveRows-all (named ∷ tables) = (omega arith, HaveRows-all tables)

tables_at-all : (tables : List NamedTable) → tables_at (map (λ (named : NamedTable). length named.table.rows) tables) tables ≡ tables
tables_at-all [] = refl
tables_at-all (named ∷ tables) = λ i.
    record named { table = record named.table { rows = take_all (length named.table.rows) named.table.rows (omega arith) i } } ∷ tables_at-all tables i

size_at-all : (catalogue : CatalogDef) (def : IndexDef) → size_at (sizes_in catalogue) def.table ≡ length (rows_for catalogue def)
size_at-all catalogue def = ap (λ (found : Option ℕ). unwrap_or found 0) (slice_get-map (λ (named : NamedTable). length named.table.rows) catalogue.tables def.table) ∙ go (slice_get catalogue.tables def.table) where
  go : (found : Option NamedTable) → unwrap_or (option_map (λ (named : NamedTable). length named.table.rows) found) 0 ≡ length (rows_of found)
  go (Some named) = refl
  go None = refl

-- a ranking that a scorer's answers give is one
ranking-held : (answer : Answering) (catalogue : CatalogDef) (index : RankIndex) → IndexHolds answer catalogue index → IsRanking (length (rows_for catalogue index.def)) (predicate_for catalogue index.def).max index.ranking
ranking-held answer catalogue index held =
    IsRanking-made (λ (row : List Value). answer (predicate_for catalogue index.def) (args_in index.def.args row)) (predicate_for catalogue index.def).max (rows_for catalogue index.def) index.ranking held.holds

-- a list in which each item is what a function gives of it
map-same : {X : Type 0} (f : X → X) (xs : List X) → AllByRecursion (λ x. f x ≡ x) xs → map f xs ≡ xs
map-same f [] all = refl
map-same f (x ∷ xs) all = λ i. all.0 i ∷ map-same f xs all.1 i

-- a snapshot of all rows is the catalogue
index_at-all : (answer : Answering) (catalogue : CatalogDef) (index : RankIndex) → IndexHolds answer catalogue index → index_at (sizes_in catalogue) index ≡ index
index_at-all answer catalogue index held =
    ap (λ (ranking : List ScoredRow). record index { ranking = ranking })
    (ap (λ count. entries_within count index.ranking) (size_at-all catalogue index.def)
    ∙ within-all index.ranking (length (rows_for catalogue index.def)) (predicate_for catalogue index.def).max (ranking-held answer catalogue index held).each)

pub snapshot-all : (answer : Answering) (catalogue : CatalogDef) → IndexesHold answer catalogue → snapshot (sizes_in catalogue) catalogue ≡ catalogue
snapshot-all answer catalogue held =
    let each = each-weaker (IndexHolds answer catalogue) (λ (index : RankIndex). index_at (sizes_in catalogue) index ≡ index) (index_at-all answer catalogue) catalogue.indexes held in
    let indexes = map-same (index_at (sizes_in catalogue)) catalogue.indexes each in
    λ i. record { tables = tables_at-all catalogue.tables i; predicates = catalogue.predicates; indexes = indexes i }

-- a table joins
tables_at-push : (sizes : List ℕ) (tables : List NamedTable) (last : NamedTable) → HaveRows sizes tables → tables_at sizes (tables ++ last ∷ []) ≡ tables_at sizes tables ++ named_at 0 last ∷ []
tables_at-push [] [] last have = refl
tables_at-push [] (named ∷ tables) last have = ap (λ (rest : List NamedTable). named_at 0 named ∷ rest) (tables_at-push [] tables last tt)
tables_at-push (count ∷ sizes) [] last have = absurd have
tables_at-push (count ∷ sizes) (named ∷ tables) last have = ap (λ (rest : List NamedTable). named_at count named ∷ rest) (tables_at-push sizes tables last have.1)

pub snapshot-with_table : (sizes : List ℕ) (catalogue : CatalogDef) (name : List ℕ) (table : Relation) → HaveRows sizes catalogue.tables
    → snapshot sizes (with_table name table catalogue) ≡ with_table name (first_rows 0 table) (snapshot sizes catalogue)
snapshot-with_table sizes catalogue name table have =
    ap (λ (tables : List NamedTable). record { tables = tables; predicates = catalogue.predicates; indexes = map (index_at sizes) catalogue.indexes })
    (tables_at-push sizes catalogue.tables (record { name = name; table = table }) have)

pub HaveRows-push : (sizes : List ℕ) (tables : List NamedTable) (last : NamedTable) → HaveRows sizes tables → HaveRows sizes (tables ++ last ∷ [])
HaveRows-push [] tables last have = tt
HaveRows-push (count ∷ sizes) [] last have = absurd have
HaveRows-push (count ∷ sizes) (named ∷ tables) last have = (have.0, HaveRows-push sizes tables last have.1)

-- an index joins
pub snapshot-with_index : (sizes : List ℕ) (catalogue : CatalogDef) (def : IndexDef) (ranking : List ScoredRow)
    → snapshot sizes (with_index def ranking catalogue) ≡ with_index def (entries_within (size_at sizes def.table) ranking) (snapshot sizes catalogue)
snapshot-with_index sizes catalogue def ranking =
    ap (λ (indexes : List RankIndex). record { tables = tables_at sizes catalogue.tables; predicates = catalogue.predicates; indexes = indexes })
    (map-append (index_at sizes) catalogue.indexes (record { def = def; ranking = ranking } ∷ []))

-- rows join a table
tables_at-with_rows : (sizes : List ℕ) (place : ℕ) (rows : List (List Value)) (tables : List NamedTable) → HaveRows sizes tables → tables_at sizes (with_rows_in place rows tables) ≡ tables_at sizes tables
tables_at-with_rows sizes place rows [] have = refl
tables_at-with_rows [] zero rows (named ∷ tables) have = refl
tables_at-with_rows [] (suc place) rows (named ∷ tables) have = ap (λ (rest : List NamedTable). named_at 0 named ∷ rest) (tables_at-with_rows [] place rows tables tt)
tables_at-with_rows (count ∷ sizes) zero rows (named ∷ tables) have =
    ap (λ (first : List (List Value)). record named { table = record named.table { rows = first } } ∷ tables_at sizes tables) (take-append-le count named.table.rows rows have.0)
tables_at-with_rows (count ∷ sizes) (suc place) rows (named ∷ tables) have = ap (λ (rest : List NamedTable). named_at count named ∷ rest) (tables_at-with_rows sizes place rows tables have.1)

pub HaveRows-with_rows : (sizes : List ℕ) (place : ℕ) (rows : List (List Value)) (tables : List NamedTable) → HaveRows sizes tables → HaveRows sizes (with_rows_in place rows tables)
HaveRows-with_rows [] place rows tables have = tt
HaveRows-with_rows (count ∷ sizes) place rows [] have = absurd have
HaveRows-with_rows (count ∷ sizes) zero rows (named ∷ tables) have = ((let some = have.0 in omega (arith, some, length-append named.table.rows rows)), have.1)
HaveRows-with_rows (count ∷ sizes) (suc place) rows (named ∷ tables) have = (have.0, HaveRows-with_rows sizes place rows tables have.1)

pub HaveRows-grown : (sizes : List ℕ) (catalogue new : CatalogDef) (table : ℕ) (rows : List (List Value)) (result : Result (Unit {0}) GrowFault) (before after : ScorerState)
    → HaveRows sizes catalogue.tables → GrowsBy table rows catalogue new result before after → HaveRows sizes new.tables
HaveRows-grown sizes catalogue new table rows result before after have grows =
    subst (λ (c : CatalogDef). HaveRows sizes c.tables) (sym grows.joins) (go grows.indexes) where
      go : (indexes : Result (List RankIndex) GrowFault) → HaveRows sizes (catalogue_grown table rows indexes catalogue).tables
      go (Ok indexes) = HaveRows-with_rows sizes table rows catalogue.tables have
      go (Err fault) = have

-- where what comes of an item looks like the item, what comes of a list in turn looks like the list
in_turn-map : {X A B : Type 0} (ask : ℕ → X → Inquiry A GrowFault) (P : X → Type 0) (of_made : A → B) (of_item : X → B)
    → ((n : ℕ) (x : X) (a : A) → P x → (ask n x).outcome ≡ Ok a → of_made a ≡ of_item x)
    → (n : ℕ) (xs : List X) (all : List A) → AllByRecursion P xs → (in_turn ask n xs).outcome ≡ Ok all → map of_made all ≡ map of_item xs
in_turn-map ask P of_made of_item alike n [] all each e = let none : all ≡ [] = cc in ap (map of_made) none
in_turn-map ask P of_made of_item alike n (x ∷ xs) all each e =
    let parts = Parts-in_turn ask n x xs all e in
    let first = alike n x parts.first each.0 parts.first_is in
    let others = in_turn-map ask P of_made of_item alike (n + 1) xs parts.others each.1 parts.others_are in
    ap (map of_made) (sym parts.all_are) ∙ (λ i. first i ∷ others i)

module _ (sizes : List ℕ) (answer : Answering) (catalogue : CatalogDef) (table : ℕ) (rows : List (List Value)) (have : HaveRows sizes catalogue.tables) where
  -- an index shows the same entries
  index_at-own : (number : ℕ) (index made : RankIndex) → index.def.table ≡ table → IndexHolds answer catalogue index → (growing_index answer catalogue table rows number index).outcome ≡ Ok made
      → index_at sizes made ≡ index_at sizes index
  index_at-own number index made own held e =
      let predicate = predicate_for catalogue index.def in
      let old = rows_for catalogue index.def in
      let whole = sym (ap (λ (inquiry : Inquiry RankIndex GrowFault). inquiry.outcome) (growing_index-own answer catalogue table rows number index own)) ∙ e in
      let parts = IsFinished-from (λ (entries : List ScoredRow). with_entries entries index) (scorings_new answer number predicate index.def.args (length old + 1) rows) made whole in
      let numbered = (AreNew-scored answer number predicate index.def.args rows (length old + 1) parts.from (omega arith) parts.outcome_is).numbered in
      let few = size_at-few sizes catalogue.tables index.def.table have in
      ap (index_at sizes) (sym parts.made_is)
      ∙ ap (λ (ranking : List ScoredRow). record index { ranking = ranking })
      (within-joined index.ranking parts.from (length old + 1) (size_at sizes index.def.table) (ranking-held answer catalogue index held).ordered numbered (omega arith))

  index_at-grown : (number : ℕ) (index made : RankIndex) → IndexHolds answer catalogue index → (growing_index answer catalogue table rows number index).outcome ≡ Ok made → index_at sizes made ≡ index_at sizes index
  index_at-grown number index made held e = go (index.def.table == table) refl where
    go : (b : Bool) → (index.def.table == table) ≡ b → index_at sizes made ≡ index_at sizes index
    go true is = index_at-own number index made (eqb-true index.def.table table is) held e
    go false is =
        let whole : Ok index ≡ Ok made = sym (ap (λ (inquiry : Inquiry RankIndex GrowFault). inquiry.outcome) (growing_index-other answer catalogue table rows number index (eqb-false index.def.table table is))) ∙ e in
        let same : index ≡ made = cc in
        ap (index_at sizes) (sym same)

pub snapshot-joined : (sizes : List ℕ) (answer : Answering) (catalogue : CatalogDef) (table : ℕ) (rows : List (List Value)) (indexes : List RankIndex) → HaveRows sizes catalogue.tables
    → IndexesHold answer catalogue → (growing answer catalogue table rows).outcome ≡ Ok indexes → snapshot sizes (grown table rows indexes catalogue) ≡ snapshot sizes catalogue
snapshot-joined sizes answer catalogue table rows indexes have held gives =
    let tables = tables_at-with_rows sizes table rows catalogue.tables have in
    let same = in_turn-map (growing_index answer catalogue table rows) (IndexHolds answer catalogue) (index_at sizes) (index_at sizes)
    (index_at-grown sizes answer catalogue table rows have) 0 catalogue.indexes indexes held gives in
    λ i. record { tables = tables i; predicates = catalogue.predicates; indexes = same i }

pub snapshot-grown : (sizes : List ℕ) (catalogue new : CatalogDef) (table : ℕ) (rows : List (List Value)) (result : Result (Unit {0}) GrowFault) (before after : ScorerState)
    → HaveRows sizes catalogue.tables → IndexesHold before.answer catalogue → GrowsBy table rows catalogue new result before after → snapshot sizes new ≡ snapshot sizes catalogue
snapshot-grown sizes catalogue new table rows result before after have held grows =
    ap (snapshot sizes) grows.joins ∙ go grows.indexes grows.inquires.comes where
      go : (indexes : Result (List RankIndex) GrowFault)
          → (InquiryEnds (growing before.answer catalogue table rows) indexes before after ⊎ InquiryFails (growing before.answer catalogue table rows) indexes before after)
          ⊎ InquiryStops Memory (growing before.answer catalogue table rows) indexes before after
          → snapshot sizes (catalogue_grown table rows indexes catalogue) ≡ snapshot sizes catalogue
      go (Err fault) comes = refl
      go (Ok indexes) (inl (inl ends)) = snapshot-joined sizes before.answer catalogue table rows indexes have held (sym ends.gives)
      go (Ok indexes) (inl (inr fails)) = let gives = fails.gives in cc
      go (Ok indexes) (inr stops) = let gives = stops.gives in cc

-- the indexes of a snapshot hold the answers that those of the catalogue do
pub snapshot-holds : (sizes : List ℕ) (answer : Answering) (catalogue : CatalogDef) → IndexesHold answer catalogue → IndexesHold answer (snapshot sizes catalogue)
snapshot-holds sizes answer catalogue held =
    each-map (IndexHolds answer (snapshot sizes catalogue)) (index_at sizes) catalogue.indexes
    (each-weaker (IndexHolds answer catalogue) (λ (index : RankIndex). IndexHolds answer (snapshot sizes catalogue) (index_at sizes index)) shown catalogue.indexes held) where
      shown : (index : RankIndex) → IndexHolds answer catalogue index → IndexHolds answer (snapshot sizes catalogue) (index_at sizes index)
      shown index holds =
          let predicate = predicate_for catalogue index.def in
          let within = holds.table in
          record {
            table = omega (arith, length-tables_at sizes catalogue.tables);
            predicate = holds.predicate;
            holds = ap (λ (rs : List (List Value)). (making_of answer predicate index.def.args rs).outcome) (rows_for-snapshot sizes catalogue index.def)
                ∙ making-first answer predicate index.def.args (rows_for catalogue index.def) index.ranking (size_at sizes index.def.table) holds.holds;
          }

-- the size of a table
size-at : (tables : List NamedTable) (number : ℕ) (table : Relation) → option_map (λ (t : NamedTable). t.table) (slice_get tables number) ≡ Some table
    → slice_get (map (λ (named : NamedTable). length named.table.rows) tables) number ≡ Some (length table.rows)
size-at [] number table there = cc
size-at (named ∷ tables) zero table there =
    let same : named.table ≡ table = cc in
    ap (λ (t : Relation). Some (length t.rows)) same
size-at (named ∷ tables) (suc number) table there = size-at tables number table there

-- one size more
pub sizes-more : (tables : List NamedTable) (number : ℕ) (table : Relation) → option_map (λ (t : NamedTable). t.table) (slice_get tables number) ≡ Some table
    → take (number + 1) (map (λ (named : NamedTable). length named.table.rows) tables) ≡ take number (map (λ (named : NamedTable). length named.table.rows) tables) ++ length table.rows ∷ []
sizes-more tables number table there =
    let sizes = map (λ (named : NamedTable). length named.table.rows) tables in
    let at = size-at tables number table there in
    take_more sizes number 0 (slice_get_within sizes number (length table.rows) at)
    ∙ ap (λ (n : ℕ). take number sizes ++ n ∷ []) (get_or_from_slice_get sizes number (length table.rows) 0 at)
