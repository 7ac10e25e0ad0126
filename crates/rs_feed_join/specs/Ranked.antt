-- The rows of two feeds as the rows of the two sides of a rank join, and this join.
use Rattle.std.specs.Prelude.{ℕ, zero, suc, Bool, false, List, [], ◌∷◌, Option, Some, None, slice_get, slice_index}
use Rattle.std.specs.Str.{bytes_eq}
use Rattle.rs_feed.specs.declared.feed_row.FeedRow.{FeedRow}
use Rattle.rs_hrjn.specs.Drawn.{DrawnRow}
use Rattle.rs_order.specs.Schedule.{SideAsk}
use Rattle.rs_rank.specs.declared.row.RankRow.{RankRow}
use Rattle.rs_rank.specs.declared.weights.Weights.{Weights}
use Rattle.rs_ripple.specs.declared.side.Side.{Side}
use Rattle.rs_ripple.specs.Stands.{Join, schedule_of}
use Rattle.rs_value.specs.declared.value.Value.TheVariants.{Text}

-- a score is the worth of one term of weight 1, at most 2^32 - 1, which is that of the side
abbrev pub feed_weights : Weights
feed_weights = record {
  weight = 1 ∷ 1 ∷ 0 ∷ 0 ∷ 0 ∷ 0 ∷ 0 ∷ 0 ∷ [];
  max = 4294967295 ∷ 4294967295 ∷ 0 ∷ 0 ∷ 0 ∷ 0 ∷ 0 ∷ 0 ∷ [];
}

-- the left side has entry 1 and term 1, the right one entry 2 and term 2
abbrev pub left_side : Side
left_side = record { mask = 1; terms = 1 }

abbrev pub right_side : Side
right_side = record { mask = 2; terms = 2 }

-- a row by its number, from 1, as one of a side: it has one entry and one term, whose worth is the score
abbrev pub left_row : ℕ → FeedRow → RankRow
left_row number row =
    record { ids = record { block = 1; mask = 1; rows = number ∷ 0 ∷ 0 ∷ 0 ∷ 0 ∷ 0 ∷ [] }; sum = row.score }

abbrev pub right_row : ℕ → FeedRow → RankRow
right_row number row =
    record { ids = record { block = 1; mask = 2; rows = 0 ∷ number ∷ 0 ∷ 0 ∷ 0 ∷ 0 ∷ [] }; sum = row.score }

-- what a function makes of rows and their numbers, which go up from this one
abbrev pub numbered : {X : Type 0} → (ℕ → FeedRow → X) → ℕ → List FeedRow → List X
numbered make number [] = []
numbered make number (row ∷ rows) = make number row ∷ numbered make (suc number) rows

abbrev pub left_rows : List FeedRow → List RankRow
left_rows rows = numbered left_row 1 rows

abbrev pub right_rows : List FeedRow → List RankRow
right_rows rows = numbered right_row 1 rows

-- the same with their texts as join values
abbrev pub hashed_left : ℕ → FeedRow → DrawnRow
hashed_left number row = record { row = left_row number row; values = Text row.join ∷ [] }

abbrev pub hashed_right : ℕ → FeedRow → DrawnRow
hashed_right number row = record { row = right_row number row; values = Text row.join ∷ [] }

-- the row of a number, from 1
abbrev pub row_of : List FeedRow → ℕ → Option FeedRow
row_of rows zero = None
row_of rows (suc place) = slice_get rows place

-- both rows are there and have the same text
abbrev pub same_text : Option FeedRow → Option FeedRow → Bool
same_text None right = false
same_text (Some left) None = false
same_text (Some left) (Some right) = bytes_eq left.join right.join

-- the texts of two rows, by their numbers, are equal
abbrev pub same_texts : List FeedRow → List FeedRow → RankRow → RankRow → Bool
same_texts lefts rights left right =
    same_text (row_of lefts (slice_index left.ids.rows 0)) (row_of rights (slice_index right.ids.rows 1))

-- the join of two lists of rows
abbrev pub join_of_rows : List FeedRow → List FeedRow → Join
join_of_rows lefts rights = record {
  weights = feed_weights;
  block = 1;
  left = left_side;
  right = right_side;
  matches = same_texts lefts rights;
}

-- the asks of both sides that the first n pairs take
abbrev pub asks_of_rows : List FeedRow → List FeedRow → ℕ → List SideAsk
asks_of_rows lefts rights n = schedule_of (join_of_rows lefts rights) (left_rows lefts) (right_rows rights) n
