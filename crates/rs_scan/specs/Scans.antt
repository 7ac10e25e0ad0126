-- The rows that scans give, and what a scan keeps. A view is the first rows of a table, up to a number.
use Rattle.std.specs.Prelude.{ℕ, zero, suc, ◌≡◌, ◌≤◌, ◌-◌, ◌*◌, nat_le, List, [], ◌∷◌, length, map, Option, Some, None, option_map, slice_get, slice_set}
use Rattle.std.specs.List.{filter}
use Rattle.rs_rank.specs.declared.row.RankRow.{RankRow}
use Rattle.rs_rank.specs.declared.scored_row.ScoredRow.{ScoredRow}
use Rattle.rs_rank.specs.Masks.{mask_of}
use Rattle.rs_catalog.specs.Catalog.{CatalogDef}
use Rattle.rs_catalog.specs.Indexes.{ranking_at, rows_for}
use Rattle.rs_catalog.specs.declared.index.IndexDef.{IndexDef}

-- the row of one FROM entry of a block: its number stands at the entry, and 0 at all others
abbrev pub entry_row : ℕ → ℕ → ℕ → ℕ → RankRow
entry_row block entry number sum = record {
  ids = record { block = block; mask = mask_of entry; rows = slice_set (0 ∷ 0 ∷ 0 ∷ 0 ∷ 0 ∷ 0 ∷ []) (entry - 1) number };
  sum = sum;
}

-- this many rows of a table, from one on
abbrev pub rows_from : ℕ → ℕ → ℕ → ℕ → List RankRow
rows_from block entry first zero = []
rows_from block entry first (suc count) = entry_row block entry first 0 ∷ rows_from block entry (suc first) count

-- the rows of a table in a view: in the order of the table
abbrev pub table_rows : ℕ → ℕ → ℕ → List RankRow
table_rows block entry rows = rows_from block entry 1 rows

-- the entries of an index whose rows are in a view
abbrev pub entries_in : ℕ → List ScoredRow → List ScoredRow
entries_in rows ranking = filter (λ e. nat_le e.row rows) ranking

-- the row of an entry of an index: its sum is weight times score
abbrev pub scored : ℕ → ℕ → ℕ → ScoredRow → RankRow
scored block entry weight e = entry_row block entry e.row (weight * e.score)

-- the rows of an index in a view: in the order of the index
abbrev pub index_rows : ℕ → ℕ → ℕ → ℕ → List ScoredRow → List RankRow
index_rows block entry weight rows ranking = map (scored block entry weight) (entries_in rows ranking)

-- a scan of a table: of which entry and block, how many rows its view has, and how many it gave
pub record TableScan : Type 0 where
  pub entry : ℕ
  pub block : ℕ
  pub rows : ℕ
  pub drawn : ℕ

-- a scan of a rank index: the same, with the number of the index, the weight of its term, and the score and the row of the entry that it drew last
pub record IndexScan : Type 0 where
  pub index : ℕ
  pub entry : ℕ
  pub block : ℕ
  pub weight : ℕ
  pub rows : ℕ
  pub drawn : ℕ
  pub last : Option (ℕ × ℕ)

-- all rows that a scan gives
abbrev pub rows_of_table : TableScan → List RankRow
rows_of_table scan = table_rows scan.block scan.entry scan.rows

abbrev pub rows_of_index : CatalogDef → IndexScan → List RankRow
rows_of_index catalogue scan = index_rows scan.block scan.entry scan.weight scan.rows (ranking_at catalogue scan.index)

-- nothing is drawn
abbrev pub new_table_scan : ℕ → ℕ → ℕ → TableScan
new_table_scan entry block rows = record { entry = entry; block = block; rows = rows; drawn = 0 }

abbrev pub new_index_scan : ℕ → ℕ → ℕ → ℕ → ℕ → IndexScan
new_index_scan index entry block weight rows = record { index = index; entry = entry; block = block; weight = weight; rows = rows; drawn = 0; last = None }

-- the score and the row of the entry of an index that was drawn last
abbrev pub last_at : List ScoredRow → ℕ → Option (ℕ × ℕ)
last_at ranking zero = None
last_at ranking (suc n) = option_map (λ e. (e.score, e.row)) (slice_get ranking n)

-- a scan of an index when it has drawn so many
abbrev pub scan_at : CatalogDef → ℕ → IndexScan → IndexScan
scan_at catalogue drawn scan = record scan { drawn = drawn; last = last_at (ranking_at catalogue scan.index) drawn }

-- a number of one of six entries
pub record IsEntryNumber (entry : ℕ) : Type 0 where
  pub least : 1 ≤ entry
  pub most : entry ≤ 6

-- what holds of each scan
pub record IsScan (entry rows drawn : ℕ) : Type 0 where
  pub entry_number : IsEntryNumber entry
  pub within : drawn ≤ rows

-- the view is all rows of the table that the index is of
abbrev pub IsOfAllRows : CatalogDef → IndexScan → Type 0
IsOfAllRows catalogue scan =
    (def : IndexDef) → option_map (λ i. i.def) (slice_get catalogue.indexes scan.index) ≡ Some def → scan.rows ≡ length (rows_for catalogue def)
