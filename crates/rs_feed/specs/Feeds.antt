-- Feeds, as contracts see them, and what a draw gives.
use Rattle.std.specs.Prelude.{ℕ, ◌≡◌, List, Option, Some, None, IfOk, IfSome, Result, Ok, Err, slice_get}
use Rattle.rs_value.specs.Faults.{raised}
use Rattle.rs_value.specs.Outside.{Outside}
use Rattle.rs_feed.specs.declared.feed.FeedFault.{FeedFault}
use Rattle.rs_feed.specs.declared.feed_row.FeedRow.{FeedRow}

-- what a feed tells of itself as any object of the outside, which are its rows; and how many draws were made and how many rows given, both of
-- which stand still at 2^64 - 1
pub record FeedState : Type 0 where
  pub outside : Outside (List FeedRow)
  pub draws : ℕ
  pub given : ℕ

-- where the rows are told, a draw that doesn't fail gives the first one that wasn't given yet, and none exactly where all were
abbrev pub GivesNext : Option (List FeedRow) → ℕ → Result (Option FeedRow) FeedFault → Type 0
GivesNext told given result = IfSome told (λ rows. IfOk result (λ row. row ≡ slice_get rows given))

-- the number of rows given after a draw
abbrev pub given_after : Result (Option FeedRow) FeedFault → ℕ → ℕ
given_after (Ok (Some row)) given = raised given
given_after (Ok None) given = given
given_after (Err fault) given = given
