-- Scans over lists in memory that can be asked for a row.
use Rattle.std.specs.Prelude.{ℕ, ◌≡◌, ◌<◌, ◌≤◌, Bool, List, length, map, slice_index}
use Rattle.rs_rank.specs.declared.scored_row.ScoredRow.{ScoredRow}
use Rattle.rs_rank.specs.declared.weights.Weights.{Weights}
use Rattle.rs_rank.specs.Weights.{IsWeights}
use Rattle.rs_ta.specs.Lists.{AreRanked, rows_in}
use Rattle.rs_ta.specs.MemLists.{MemListsState, entry_of, lists_state}
use Rattle.rs_ta.specs.Scans.{HaveWeights, Scan, Stands, input_of}

-- lists of scores and rows
abbrev pub lists_of : List (List (ℕ × ℕ)) → List (List ScoredRow)
lists_of lists = map (λ list. map entry_of list) lists

-- a scan of these weights can go over these lists, with a test of this many rows
pub record AreScanned (weights : Weights) (rows : ℕ) (lists : List (List ScoredRow)) : Type 0 where
  pub ranked : AreRanked lists
  pub same_rows : rows ≡ rows_in lists
  pub are_weights : IsWeights weights
  pub have : (place : ℕ) → place < length lists → 1 ≤ slice_index weights.weight place

-- a scan can be asked over lists in memory, with a test of this many rows that holds for these
pub record CanBeAsked (scan : Scan) (lists : MemListsState) (rows : ℕ) (holds : ℕ → Bool) : Type 0 where
  pub stands : Stands (input_of scan (lists_state lists) holds) scan (lists_state lists)
  pub have : HaveWeights (input_of scan (lists_state lists) holds)
  pub same_rows : rows ≡ rows_in lists.lists
