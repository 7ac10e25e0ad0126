-- The steps of rows that join a table, as contracts see them.
use Rattle.std.specs.Prelude.{ℕ, zero, suc, ◌≡◌, ◌≤◌, ◌+◌, List, [], ◌∷◌, ◌++◌, length, slice_get, vec_capacity, Option, Some, None, Result, Ok, Err}
use Rattle.std.specs.declared.alloc.Global.{Global}
use Rattle.std.specs.declared.vec.Vec.{Vec}
use Rattle.std.specs.Map.{values_of}
use Rattle.rs_value.specs.declared.value.Value.{Value}
use Rattle.rs_table.specs.Lent.{with_rows}
use Rattle.rs_table.specs.Relation.{Relation}
use Rattle.rs_expr.specs.InOrder.{Inquiry, and_then}
use Rattle.rs_rank.specs.Stable.{stable}
use Rattle.rs_rank.specs.declared.scored_row.ScoredRow.{ScoredRow}
use Rattle.rs_catalog.specs.Catalog.{CatalogDef, RankIndex}
use Rattle.rs_catalog.specs.Growing.{comes_to, with_entries}
use Rattle.rs_catalog.specs.Indexes.{IsRanking, predicate_for, rows_for}
use Rattle.rs_catalog.specs.Inside.{AreScores}
use Rattle.rs_catalog.specs.declared.index.IndexDef.{IndexDef}
use Rattle.rs_catalog.specs.declared.catalog.RankIndex.{RankIndex as StoredIndex}
use Rattle.rs_catalog.specs.declared.growth.GrowFault.{GrowFault}
use Rattle.rs_catalog.specs.declared.ranked.Ranked.{Ranked}

-- the rows of an answer, as contracts see them
abbrev pub as_entries : Result (Vec ScoredRow Global) GrowFault → Result (List ScoredRow) GrowFault
as_entries (Ok entries) = Ok entries.items
as_entries (Err fault) = Err fault

-- an inquiry, and what is made of its outcome
abbrev pub finished : {A B : Type 0} → (A → B) → Inquiry A GrowFault → Inquiry B GrowFault
finished finish inquiry = and_then inquiry (λ a. comes_to (finish a))

-- an index as contracts see it
abbrev pub index_in : StoredIndex → RankIndex
index_in stored = record { def = stored.def; ranking = stored.ranking.items }

-- an index with the new rows that it takes, by score; one that stays takes nothing
abbrev pub renewed : Option Ranked → RankIndex → RankIndex
renewed None index = index
renewed (Some ranked) index = with_entries ranked.ranking.items index

abbrev pub as_renewed_index : RankIndex → Result Ranked GrowFault → Result RankIndex GrowFault
as_renewed_index index (Ok ranked) = Ok (renewed (Some ranked) index)
as_renewed_index index (Err fault) = Err fault

abbrev pub as_renewed_or_same : RankIndex → Result (Option Ranked) GrowFault → Result RankIndex GrowFault
as_renewed_or_same index (Ok grown) = Ok (renewed grown index)
as_renewed_or_same index (Err fault) = Err fault

-- indexes with what became of them, one by one
abbrev pub all_renewed : List RankIndex → List (Option Ranked) → List RankIndex
all_renewed [] grown = []
all_renewed (index ∷ indexes) [] = index ∷ indexes
all_renewed (index ∷ indexes) (ranked ∷ grown) = renewed ranked index ∷ all_renewed indexes grown

abbrev pub as_renewed : List RankIndex → Result (Vec (Option Ranked) Global) GrowFault → Result (List RankIndex) GrowFault
as_renewed indexes (Ok grown) = Ok (all_renewed indexes grown.items)
as_renewed indexes (Err fault) = Err fault

-- an index of the map: its name, what it is of, its rows by score, and their scores by row
pub record KeptIndex : Type 0 where
  pub name : List ℕ
  pub def : IndexDef
  pub ranking : List ScoredRow
  pub scores : List ℕ

abbrev pub kept_in : List ℕ × StoredIndex → KeptIndex
kept_in entry = record { name = entry.0; def = entry.1.def; ranking = entry.1.ranking.items; scores = entry.1.scores.items }

-- the same with the new rows that it takes
abbrev pub renewed_kept : Option Ranked → KeptIndex → KeptIndex
renewed_kept None kept = kept
renewed_kept (Some ranked) kept = record kept { ranking = stable (λ row. row.score) (kept.ranking ++ ranked.ranking.items); scores = kept.scores ++ ranked.scores.items }

abbrev pub renewed_at : ℕ → Option Ranked → List KeptIndex → List KeptIndex
renewed_at place ranked [] = []
renewed_at zero ranked (kept ∷ rest) = renewed_kept ranked kept ∷ rest
renewed_at (suc place) ranked (kept ∷ rest) = kept ∷ renewed_at place ranked rest

abbrev pub all_renewed_kept : List KeptIndex → List (Option Ranked) → List KeptIndex
all_renewed_kept [] grown = []
all_renewed_kept (kept ∷ rest) [] = kept ∷ rest
all_renewed_kept (kept ∷ rest) (ranked ∷ grown) = renewed_kept ranked kept ∷ all_renewed_kept rest grown

-- there is room for new rows in an index of the map
pub record HasRoom (ranked : Ranked) (stored : StoredIndex) : Type 0 where
  pub ranking : length stored.ranking.items + length ranked.ranking.items ≤ vec_capacity stored.ranking
  pub scores : length stored.scores.items + length ranked.scores.items ≤ vec_capacity stored.scores

-- there is room in each index for what it takes
abbrev pub HaveRoom : List (List ℕ × StoredIndex) → List (Option Ranked) → Type 0
HaveRoom entries grown = (place : ℕ) (ranked : Ranked) (stored : StoredIndex) → slice_get grown place ≡ Some (Some ranked) → slice_get (values_of entries) place ≡ Some stored → HasRoom ranked stored

-- the indexes of two maps are the same but for that at a place
abbrev pub OthersStay : ℕ → List (List ℕ × StoredIndex) → List (List ℕ × StoredIndex) → Type 0
OthersStay place old new = (other : ℕ) → (other ≡ place → ⊥) → slice_get (values_of new) other ≡ slice_get (values_of old) other

-- new rows and the rows of the index that they join are each in the stable order
pub record AreOrdered (ranked : Ranked) (ranking : List ScoredRow) : Type 0 where
  pub old : stable (λ row. row.score) ranking ≡ ranking
  pub new : stable (λ row. row.score) ranked.ranking.items ≡ ranked.ranking.items

-- and so they are in each index that takes some
abbrev pub AllOrdered : List KeptIndex → List (Option Ranked) → Type 0
AllOrdered kept grown = (place : ℕ) (ranked : Ranked) (index : KeptIndex) → slice_get grown place ≡ Some (Some ranked) → slice_get kept place ≡ Some index → AreOrdered ranked index.ranking

-- the entries of tables, of which the one at a place has these rows behind its own
abbrev pub with_rows_at : ℕ → List (List Value) → List (List ℕ × Relation) → List (List ℕ × Relation)
with_rows_at place rows [] = []
with_rows_at zero rows (entry ∷ rest) = (entry.0, with_rows rows entry.1) ∷ rest
with_rows_at (suc place) rows (entry ∷ rest) = entry ∷ with_rows_at place rows rest

-- what holds of what an index takes: one of the table is then a ranking of all its rows, with their scores, and others take nothing
pub record IsGrown (catalogue : CatalogDef) (table more : ℕ) (index : RankIndex) (grown : Option Ranked) : Type 0 where
  pub of_table : (ranked : Ranked) → grown ≡ Some ranked → index.def.table ≡ table
  pub of_others : grown ≡ None → index.def.table ≡ table → ⊥
  pub ordered : (ranked : Ranked) → grown ≡ Some ranked → stable (λ row. row.score) ranked.ranking.items ≡ ranked.ranking.items
  pub ranking : (ranked : Ranked) → grown ≡ Some ranked → IsRanking (length (rows_for catalogue index.def) + more) (predicate_for catalogue index.def).max (with_entries ranked.ranking.items index).ranking
  pub scores : (ranked : Ranked) → grown ≡ Some ranked → (scores : List ℕ) → AreScores index.ranking scores → AreScores (with_entries ranked.ranking.items index).ranking (scores ++ ranked.scores.items)

-- what became of the first indexes
abbrev pub AreGrown : CatalogDef → ℕ → ℕ → List RankIndex → List (Option Ranked) → Type 0
AreGrown catalogue table more [] grown = Unit {0}
AreGrown catalogue table more (index ∷ indexes) [] = Unit {0}
AreGrown catalogue table more (index ∷ indexes) (ranked ∷ grown) = IsGrown catalogue table more index ranked × AreGrown catalogue table more indexes grown
