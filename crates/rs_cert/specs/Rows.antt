-- The rows of a side: whether their scores fall, and where they are.
use Rattle.std.specs.Prelude.{ℕ, ◌-◌, nat_lt, Bool, false, List, take, Option, Some, None}
use Rattle.std.specs.Ordering.{flip_args, nat_cmp}
use Rattle.rs_feed.specs.declared.feed_row.FeedRow.{FeedRow}
use Rattle.rs_order.specs.Climbing.{Ascends}

-- no score is greater than one in front of it
abbrev pub Falls : List FeedRow → Type 0
Falls rows = Ascends (flip_args nat_cmp) (λ row. row.score) rows

-- the row of this number, from 1, is the first whose score is greater than that of a row in front of it
pub record RisesFirstAt (rows : List FeedRow) (number : ℕ) : Type 0 where
  pub before : Falls (take (number - 1) rows)
  pub there : ¬ Falls (take number rows)

-- a score is greater than the one in front of it, if there is one
abbrev pub rises : Option ℕ → ℕ → Bool
rises None score = false
rises (Some before) score = nat_lt before score
