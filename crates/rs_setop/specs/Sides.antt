-- The two sides of a set operator, and the answers that it gives of their rows.
use Rattle.std.specs.Prelude.{ℕ, zero, suc, ◌≡◌, ◌<◌, ◌++◌, nat_lt, List, [], map, Option, Some, None, if◌then◌else◌}
use Rattle.std.specs.List.{AllByRecursion, slice_get}
use Rattle.rs_order.specs.Asks.{bar_after}
use Rattle.rs_order.specs.Climbing.{Climbs, In}
use Rattle.rs_order.specs.Schedule.{SideAsk}
use Rattle.rs_order.specs.Sorting.{sorted}
use Rattle.rs_rank.specs.declared.key.Key.{Key}
use Rattle.rs_rank.specs.declared.weights.Weights.{Weights}
use Rattle.rs_rank.specs.Keys.{ids_cmp, key_cmp}
use Rattle.rs_rank.specs.Rows.{HasSum, key_of}
use Rattle.rs_rank.specs.Weights.{IsWeights}
use Rattle.rs_rank.specs.SetTurns.{set_schedule}
use Rattle.rs_value.specs.declared.set_op.SetOp.{SetOp}
use Rattle.rs_setop.specs.declared.held.Head.{Head}
use Rattle.rs_setop.specs.declared.held.Head.TheVariants.{Unknown, Ended}
use Rattle.rs_setop.specs.Held.{head_of_row}
use Rattle.rs_outputs.specs.Rows.{OutputRow}
use Rattle.rs_setop.specs.Sets.{set_rows}

-- the terms that are evaluated on the rows of both sides, and the blocks of their rows
pub record Sides : Type 0 where
  pub weights : Weights
  pub terms : ℕ
  pub left_block : ℕ
  pub right_block : ℕ

-- the key of a row
abbrev pub row_key : Sides → OutputRow → Key
row_key s row = key_of s.weights s.terms row.row

abbrev pub keys_of : Sides → List OutputRow → List Key
keys_of s rows = map (row_key s) rows

-- a row of a side: it is of the side's block, and has a sum that the terms can give
pub record IsRowOf (s : Sides) (number : ℕ) (row : OutputRow) : Type 0 where
  pub block : row.row.ids.block ≡ number
  pub sum : HasSum s.weights s.terms row.row

-- rows of two sides: those of each side have rising keys, the left block comes first, and rows with the same output values have
-- the same sum
pub record AreSides (s : Sides) (lefts rights : List OutputRow) : Type 0 where
  pub limits : IsWeights s.weights
  pub blocks : s.left_block < s.right_block
  pub left_rows : AllByRecursion (IsRowOf s s.left_block) lefts
  pub right_rows : AllByRecursion (IsRowOf s s.right_block) rights
  pub left_rising : Climbs key_cmp (row_key s) lefts
  pub right_rising : Climbs key_cmp (row_key s) rights
  pub alike : (row other : OutputRow) → In row (lefts ++ rights) → In other (lefts ++ rights)
      → row.values ≡ other.values → row.row.sum ≡ other.row.sum

-- the same of rows in the order of their ids
pub record AreBases (s : Sides) (lefts rights : List OutputRow) : Type 0 where
  pub limits : IsWeights s.weights
  pub blocks : s.left_block < s.right_block
  pub left_rows : AllByRecursion (IsRowOf s s.left_block) lefts
  pub right_rows : AllByRecursion (IsRowOf s s.right_block) rights
  pub left_rising : Climbs ids_cmp (λ row. row.row.ids) lefts
  pub right_rising : Climbs ids_cmp (λ row. row.row.ids) rights
  pub alike : (row other : OutputRow) → In row (lefts ++ rights) → In other (lefts ++ rights)
      → row.values ≡ other.values → row.row.sum ≡ other.row.sum

-- the rows that the operator makes, in the order of their keys
abbrev pub answers : Sides → SetOp → List OutputRow → List OutputRow → List OutputRow
answers s op lefts rights = sorted key_cmp (row_key s) (set_rows op lefts rights)

-- the asks in their order that this many answers take
abbrev pub schedule_of : Sides → SetOp → List OutputRow → List OutputRow → ℕ → List SideAsk
schedule_of s op lefts rights zero = []
schedule_of s op lefts rights (suc n) =
    set_schedule op (keys_of s lefts) (keys_of s rights) (bar_after (row_key s) (answers s op lefts rights) n)

-- what is known of the next row of a side of which this many rows are gone, after this many asks
abbrev pub head_of : Sides → Option OutputRow → Head
head_of s None = Ended
head_of s (Some row) = head_of_row s.weights s.terms row.row row.values

abbrev pub head_after : Sides → List OutputRow → ℕ → ℕ → Head
head_after s rows gone asks = if nat_lt gone asks then head_of s (slice_get rows gone) else Unknown
