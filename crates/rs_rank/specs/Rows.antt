-- Rows by the rows of their entries and the sum of their evaluated terms, and their keys.
use Rattle.std.specs.Prelude.{ℕ, ◌≤◌, ◌+◌, List, [], ◌∷◌, map, Option, Some, None}
use Rattle.std.specs.List.{AllByRecursion}
use Rattle.rs_rank.specs.declared.key.Key.{Key}
use Rattle.rs_rank.specs.declared.row.RankRow.{RankRow}
use Rattle.rs_rank.specs.declared.weights.Weights.{Weights}
use Rattle.rs_rank.specs.Ids.{AreOtherIds, AreSidesOfRow, merge_ids}
use Rattle.rs_rank.specs.Weights.{most_evaluated, rest, score_limit}

-- the key of a row of which the terms in a mask are evaluated: its ids, and its sum with what the others can give at
-- most
abbrev pub key_of : Weights → ℕ → RankRow → Key
key_of weights terms row = record { bound = row.sum + rest weights terms; ids = row.ids }

-- a row's sum is one that the terms in a mask can give: it isn't above the most of them
abbrev pub HasSum : Weights → ℕ → RankRow → Type 0
HasSum weights terms row = row.sum ≤ most_evaluated weights terms

-- no two rows have the same ids
abbrev pub HaveOtherIds : List RankRow → Type 0
HaveOtherIds [] = Unit {0}
HaveOtherIds (row ∷ rows) = AllByRecursion (λ other. AreOtherIds row.ids other.ids) rows × HaveOtherIds rows

-- the entries of both rows, and the sum of both sums
abbrev pub merge_row : RankRow → RankRow → RankRow
merge_row left right = record { ids = merge_ids left.ids right.ids; sum = left.sum + right.sum }

-- two rows are sides of one row, and have sums within the limit
pub record CanMergeRows (left right : RankRow) : Type 0 where
  pub sides : AreSidesOfRow left.ids right.ids
  pub left_sum : left.sum ≤ score_limit
  pub right_sum : right.sum ≤ score_limit

-- the rows that keys and sums stand for, each with its key: a join holds keys and sums alone
abbrev pub rows_of_sums : List (Key × ℕ) → List (Key × RankRow)
rows_of_sums pairs = map (λ pair. (pair.0, record { ids = pair.0.ids; sum = pair.1 })) pairs

-- the first of rows that are held with their keys, and its key
abbrev pub first_row : List (Key × RankRow) → Option RankRow
first_row [] = None
first_row (pair ∷ rest) = Some pair.1

abbrev pub first_key : List (Key × RankRow) → Option Key
first_key [] = None
first_key (pair ∷ rest) = Some pair.0
