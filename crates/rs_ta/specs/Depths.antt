-- What a threshold scan gives and how far it goes, over finished lists. Places of a list count from 0.
use Rattle.std.specs.Prelude.{ℕ, zero, suc, ◌+◌, ◌-◌, ◌*◌, ◌==◌, Bool, not, min, max, List, [], ◌∷◌, ◌++◌, length, map, slice_index_or, slice_set}
use Rattle.std.specs.List.{filter, flat_map}
use Rattle.rs_order.specs.Asks.{asks_for, bar_after}
use Rattle.rs_order.specs.Schedule.{numbers_from}
use Rattle.rs_order.specs.Sorting.{sorted}
use Rattle.rs_rank.specs.declared.ids.Ids.{Ids}
use Rattle.rs_rank.specs.declared.key.Key.{Key}
use Rattle.rs_rank.specs.declared.row.RankRow.{RankRow}
use Rattle.rs_rank.specs.declared.scored_row.ScoredRow.{ScoredRow}
use Rattle.rs_rank.specs.declared.weights.Weights.{Weights}
use Rattle.rs_rank.specs.Keys.{key_cmp}
use Rattle.rs_rank.specs.Masks.{mask_of}
use Rattle.rs_ta.specs.Lists.{rows_in, score_of}
use Rattle.rs_ta.specs.declared.lists.Lookup.{Lookup}

-- the weights, of which the first is that of the first list, and so on; the FROM entry that has the rows, and its block; the lists; and
-- for which rows the test holds
pub record ScanInput : Type 0 where
  pub weights : Weights
  pub entry : ℕ
  pub block : ℕ
  pub lists : List (List ScoredRow)
  pub holds : ℕ → Bool

-- the ids of the row of a FROM entry: its number stands at the entry, and 0 at all others
abbrev pub ids_at : ℕ → ℕ → ℕ → Ids
ids_at block entry number =
    record { block = block; mask = mask_of entry; rows = slice_set (0 ∷ 0 ∷ 0 ∷ 0 ∷ 0 ∷ 0 ∷ []) (entry - 1) number }

-- the sum of weight times score
abbrev pub weighted_sum : List ℕ → List ℕ → ℕ
weighted_sum [] scores = 0
weighted_sum (weight ∷ weights) [] = 0
weighted_sum (weight ∷ weights) (score ∷ scores) = weight * score + weighted_sum weights scores

-- a row with the sum of weight times its scores in the lists
abbrev pub row_of : ScanInput → ℕ → RankRow
row_of i row = record { ids = ids_at i.block i.entry row; sum = weighted_sum i.weights.weight (map (score_of row) i.lists) }

-- the key of a row: its sum, then its number
abbrev pub row_key : RankRow → Key
row_key row = record { bound = row.sum; ids = row.ids }

-- those of some rows for which the test holds, in the order of their keys
abbrev pub answers_among : ScanInput → List ℕ → List RankRow
answers_among i rows = sorted key_cmp row_key (map (row_of i) (filter i.holds rows))

-- the rows of the answer: those of all rows of the lists
abbrev pub answers : ScanInput → List RankRow
answers i = answers_among i (numbers_from 1 (rows_in i.lists))

-- the entry at a place of a list
abbrev pub entry_at : ℕ → List ScoredRow → ScoredRow
entry_at place list = slice_index_or list place (record { score = 0; row = 0 })

abbrev pub greatest : List ℕ → ℕ
greatest [] = 0
greatest (number ∷ numbers) = max number (greatest numbers)

-- the threshold of a place: the sum of weight times the score at the place of each list, and the greatest row number there
abbrev pub threshold : ScanInput → ℕ → Key
threshold i place = record {
  bound = weighted_sum i.weights.weight (map (λ list. (entry_at place list).score) i.lists);
  ids = ids_at i.block i.entry (greatest (map (λ list. (entry_at place list).row) i.lists));
}

abbrev pub thresholds : ScanInput → List Key
thresholds i = map (threshold i) (numbers_from 0 (rows_in i.lists))

-- how many places of each list this many asks take: one more than there are thresholds before the key of the last answer, and at
-- most all. An answer that there isn't lies beyond all keys
abbrev pub depth : ScanInput → ℕ → ℕ
depth i zero = 0
depth i (suc asks) = min (rows_in i.lists) (asks_for key_cmp (λ key. key) (thresholds i) (bar_after row_key (answers i) asks))

-- a list shows a row
pub record Sight : Type 0 where
  pub row : ℕ
  pub list : ℕ

-- what the lists from this number on show at a place
abbrev pub sights_from : ℕ → ℕ → List (List ScoredRow) → List Sight
sights_from place number [] = []
sights_from place number (list ∷ rest) =
    record { row = (entry_at place list).row; list = number } ∷ sights_from place (suc number) rest

-- what the lists show at their first places, place by place, and at each list by list
abbrev pub sights : List (List ScoredRow) → ℕ → List Sight
sights lists zero = []
sights lists (suc places) = sights lists places ++ sights_from places 1 lists

-- of each row its first sight
abbrev pub first_sights : List Sight → List Sight
first_sights [] = []
first_sights (sight ∷ rest) = sight ∷ filter (λ other. not (other.row == sight.row)) (first_sights rest)

-- the rows that are shown, each once, in the order of their first sights
abbrev pub rows_shown : List Sight → List ℕ
rows_shown shown = map (λ sight. sight.row) (first_sights shown)

-- how often a list is looked up: once for each row that another list showed first
abbrev pub lookups : List Sight → ℕ → ℕ
lookups shown list = length (filter (λ sight. not (sight.list == list)) (first_sights shown))

-- the look-ups of a row that a list shows first: one in each other list of this many, in the order of the lists
abbrev pub lookups_of : ℕ → Sight → List Lookup
lookups_of lists sight =
    map (λ list. record { row = sight.row; list = list }) (filter (λ list. not (list == sight.list)) (numbers_from 1 lists))

-- all look-ups in order: those of each row that is shown, in the order of their first sights
abbrev pub looked_up : ℕ → List Sight → List Lookup
looked_up lists shown = flat_map (lookups_of lists) (first_sights shown)
