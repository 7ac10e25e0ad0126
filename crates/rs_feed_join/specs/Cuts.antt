-- The rows of a feed that a join draws at most: its longest front in which no score rises.
use Rattle.std.specs.Prelude.{ℕ, ◌<◌, ◌^◌, ◌==◌, Bool, false, nat_lt, suc, List, [], ◌∷◌, length, take, option_map, unwrap_or, Option, Some, None, if◌then◌else◌}
use Rattle.std.specs.List.{AllByRecursion}
use Rattle.std.specs.Ordering.{flip_args, nat_cmp}
use Rattle.rs_feed.specs.declared.feed_row.FeedRow.{FeedRow}
use Rattle.rs_feed_join.specs.declared.fault.JoinFault.{JoinFault}
use Rattle.rs_feed_join.specs.declared.fault.JoinFault.TheVariants.{OutOfOrder, TooLong}
use Rattle.rs_order.specs.Climbing.{Ascends}
use Rattle.rs_order.specs.Last.{last_of}

-- the most rows that a join draws of a feed
abbrev pub most_rows : ℕ
most_rows = 131072

-- no score is greater than one in front of it
abbrev pub Falls : List FeedRow → Type 0
Falls rows = Ascends (flip_args nat_cmp) (λ row. row.score) rows

-- each score is one that a row can have
abbrev pub HaveScores : List FeedRow → Type 0
HaveScores rows = AllByRecursion (λ row. row.score < 2 ^ 32) rows

-- a score is greater than the one in front of it, if there is one
abbrev pub rises : Option ℕ → ℕ → Bool
rises None score = false
rises (Some before) score = nat_lt before score

-- the rows up to the first one whose score rises
abbrev pub falling_behind : Option ℕ → List FeedRow → List FeedRow
falling_behind before [] = []
falling_behind before (row ∷ rows) = if rises before row.score then [] else row ∷ falling_behind (Some row.score) rows

-- the longest front in which no score rises, and which isn't too long
abbrev pub cut : List FeedRow → List FeedRow
cut rows = take most_rows (falling_behind None rows)

-- the score of the last row
abbrev pub last_score : List FeedRow → Option ℕ
last_score rows = option_map (λ (row : FeedRow). row.score) (last_of rows)

-- why a row with this score isn't taken behind the rows of a side: their number is looked at first
abbrev pub order_refusal : ℕ → List FeedRow → ℕ → Option JoinFault
order_refusal side rows score =
    if rises (last_score rows) score
    then Some (OutOfOrder side (suc (length rows)) (unwrap_or (last_score rows) 0) score)
    else None

abbrev pub refusal : ℕ → List FeedRow → ℕ → Option JoinFault
refusal side rows score = if length rows == most_rows then Some (TooLong side) else order_refusal side rows score
