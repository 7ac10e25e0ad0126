-- Tables as feeds: the rows that a feed gives, and the first row that refuses its table.
use Rattle.std.specs.Prelude.{ℕ, ℤ, pos, suc, ◌≡◌, true, List, [], ◌∷◌, map, Option, Some, None, slice_get, unwrap_or, Result, Ok, Err, if◌then◌else◌}
use Rattle.rs_value.specs.declared.kind.Kind.TheVariants as kind
use Rattle.rs_value.specs.declared.value.Value.{Value}
use Rattle.rs_value.specs.declared.value.Value.TheVariants.{Int, Text}
use Rattle.rs_table.specs.Column.{Column}
use Rattle.rs_table.specs.Relation.{Relation}
use Rattle.rs_expr.specs.Scores.{as_score, is_score}
use Rattle.rs_feed.specs.declared.feed_row.FeedRow.{FeedRow}
use Rattle.rs_feed.specs.Feeds.{FeedState}
use Rattle.rs_table_feed.specs.declared.range_fault.RangeFault.{RangeFault}

-- the columns of a table that is a feed: texts, and then numbers
pub record HasFeedColumns (columns : List Column) : Type 0 where
  pub kinds : map (λ (column : Column). column.1) columns ≡ kind.Text ∷ kind.Int ∷ []

-- the text and the number of a row
abbrev pub text_in : Option Value → List ℕ
text_in None = []
text_in (Some (Int n)) = []
text_in (Some (Text t)) = t

abbrev pub number_in : Option Value → ℤ
number_in None = pos 0
number_in (Some (Int n)) = n
number_in (Some (Text t)) = pos 0

abbrev pub score_in : List Value → ℤ
score_in values = number_in (slice_get values 1)

-- a row of a table as one of a feed
abbrev pub feed_row : List Value → FeedRow
feed_row values = record { join = text_in (slice_get values 0); score = as_score (score_in values) }

-- the greatest score of a row
abbrev pub most_score : ℕ
most_score = 4294967295

-- the first row, counted from this number on, whose number is no score
abbrev pub first_outside : ℕ → List (List Value) → Option RangeFault
first_outside row [] = None
first_outside row (values ∷ rest) =
    if is_score most_score (score_in values) then first_outside (suc row) rest else Some (record { row = row; got = score_in values })

-- the rows of the feed of a table, or the first row that refuses the table
abbrev pub feed_rows : Relation → Result (List FeedRow) RangeFault
feed_rows table = unless (first_outside 1 table.rows) where
  unless : Option RangeFault → Result (List FeedRow) RangeFault
  unless None = Ok (map feed_row table.rows)
  unless (Some fault) = Err fault

-- the rows of a feed, how many draws were made, and how many rows were given
pub record TableFeedState : Type 0 where
  pub rows : List FeedRow
  pub draws : ℕ
  pub given : ℕ

-- nothing is drawn
abbrev pub new_feed : List FeedRow → TableFeedState
new_feed rows = record { rows = rows; draws = 0; given = 0 }

-- what contracts see of the feed of a table: it tells its rows, and never fails
abbrev pub table_feed_state : TableFeedState → FeedState
table_feed_state state = record { outside = record { told = Some state.rows; faults = 0; steady = true }; draws = state.draws; given = state.given }

-- the number of the row at a place, counted from 0
abbrev pub score_of : List (List Value) → ℕ → ℤ
score_of rows place = score_in (unwrap_or (slice_get rows place) [])

-- the row of a feed at a place, counted from 0
abbrev pub feed_row_at : List FeedRow → ℕ → FeedRow
feed_row_at rows place = unwrap_or (slice_get rows place) (record { join = []; score = 0 })
