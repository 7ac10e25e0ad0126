-- Ranked lists of the rows of one table, as contracts see them, and how often each was accessed. Lists and rows count from 1.
use Rattle.std.specs.Prelude.{ℕ, ◌≡◌, ◌<◌, ◌≤◌, ◌-◌, ◌^◌, ◌==◌, List, [], ◌∷◌, length, map, sum, ◌++◌, ◌⊎◌, IfSome, Option, Some, None, option_map, slice_get, slice_index, slice_index_or, if◌then◌else◌}
use Rattle.std.specs.List.{AllByRecursion}
use Rattle.rs_order.specs.Schedule.{numbers_from}
use Rattle.rs_rank.specs.declared.scored_row.ScoredRow.{ScoredRow}
use Rattle.rs_catalog.specs.Indexes.{EntriesInOrder, RowsDiffer}
use Rattle.rs_value.specs.Faults.{raised}
use Rattle.rs_ta.specs.declared.lists.Lookup.{Lookup}

-- a row of a table of this many
pub record IsRow (rows row : ℕ) : Type 0 where
  pub some : 1 ≤ row
  pub within : row ≤ rows

-- a list has each of this many rows once, by score, the greatest first, then by number
pub record IsRanked (rows : ℕ) (list : List ScoredRow) : Type 0 where
  pub all : length list ≡ rows
  pub each : AllByRecursion (λ e. IsRow rows e.row) list
  pub differ : RowsDiffer list
  pub ordered : EntriesInOrder list

-- how many rows the lists have
abbrev pub rows_in : List (List ScoredRow) → ℕ
rows_in [] = 0
rows_in (list ∷ rest) = length list

-- one to eight ranked lists of the same rows
pub record AreRanked (lists : List (List ScoredRow)) : Type 0 where
  pub least : 1 ≤ length lists
  pub most : length lists ≤ 8
  pub few : rows_in lists < 2 ^ 32
  pub each : AllByRecursion (IsRanked (rows_in lists)) lists

-- the number of one of the lists
pub record IsList (lists : List (List ScoredRow)) (number : ℕ) : Type 0 where
  pub some : 1 ≤ number
  pub within : number ≤ length lists

-- the list of this number
abbrev pub list_at : List (List ScoredRow) → ℕ → List ScoredRow
list_at lists number = slice_index_or lists (number - 1) []

-- the score of a row in a list, and 0 where it isn't in it
abbrev pub score_of : ℕ → List ScoredRow → ℕ
score_of row [] = 0
score_of row (e ∷ rest) = if e.row == row then e.score else score_of row rest

-- the lists; of each number how many sorted and how many random accesses its list had, where a count stands still at 2^64 - 1; and all
-- random accesses, one after another, where they are told
pub record ListsState : Type 0 where
  pub lists : List (List ScoredRow)
  pub sorted_count : ℕ → ℕ
  pub random_count : ℕ → ℕ
  pub told : Option (List Lookup)

-- no list was accessed
pub record AreUnaccessed (state : ListsState) : Type 0 where
  pub counts : (number : ℕ) → (state.sorted_count number ≡ 0) × (state.random_count number ≡ 0)
  pub told : IfSome state.told (λ told. told ≡ [])

-- these random accesses are told behind those that were told before, or none is told any more
abbrev pub AreTold : List Lookup → Option (List Lookup) → Option (List Lookup) → Type 0
AreTold lookups old new = (new ≡ None) ⊎ (new ≡ option_map (λ before. before ++ lookups) old)

-- the score and the row of an entry
abbrev pub pair_of : ScoredRow → ℕ × ℕ
pair_of e = (e.score, e.row)

-- what the next sorted access of a list gives: the place behind those that it gave
abbrev pub next_entry : ListsState → ℕ → Option (ℕ × ℕ)
next_entry state list = option_map pair_of (slice_get (list_at state.lists list) (state.sorted_count list))

-- each list's count is as before
abbrev pub AreSame : List (List ScoredRow) → (ℕ → ℕ) → (ℕ → ℕ) → Type 0
AreSame lists old new = (number : ℕ) → IsList lists number → new number ≡ old number

-- the count of one list is raised by one, and each other is as before
abbrev pub IsRaisedAt : List (List ScoredRow) → ℕ → (ℕ → ℕ) → (ℕ → ℕ) → Type 0
IsRaisedAt lists list old new =
    (number : ℕ) → IsList lists number → new number ≡ (if number == list then raised (old number) else old number)

-- a sorted access is counted where it gave an entry
abbrev pub AreCounted : List (List ScoredRow) → ℕ → Option (ℕ × ℕ) → (ℕ → ℕ) → (ℕ → ℕ) → Type 0
AreCounted lists list None old new = AreSame lists old new
AreCounted lists list (Some entry) old new = IsRaisedAt lists list old new

-- the sum of the counts of this many lists
abbrev pub total : ℕ → (ℕ → ℕ) → ℕ
total lists count = sum (map count (numbers_from 1 lists))

-- the count of a list, of counts that stand in the order of the lists
abbrev pub count_in : List ℕ → ℕ → ℕ
count_in counts list = slice_index counts (list - 1)
