-- Feeds in memory: what they hold, and what each call does to it.
use Rattle.std.specs.Prelude.{ℕ, ◌+◌, ◌==◌, Bool, List, [], length, Option, Some, Result, Ok, Err, slice_get, if◌then◌else◌}
use Rattle.std.specs.List.{list_any}
use Rattle.rs_value.specs.Faults.{raised}
use Rattle.rs_feed.specs.declared.feed.FeedFault.{FeedFault}
use Rattle.rs_feed.specs.declared.feed.FeedFault.TheVariants.{Failed, Memory}
use Rattle.rs_feed.specs.declared.feed_row.FeedRow.{FeedRow}
use Rattle.rs_feed.specs.Feeds.{FeedState, given_after}

-- the rows, how many draws were made and how many rows given, the numbers of the draws that are to fail, and how many failed
pub record MemFeedState : Type 0 where
  pub rows : List FeedRow
  pub draws : ℕ
  pub given : ℕ
  pub failing : List ℕ
  pub faults : ℕ

-- no rows, no draw yet, no failure planned
abbrev pub no_rows : MemFeedState
no_rows = record { rows = []; draws = 0; given = 0; failing = []; faults = 0 }

-- the next draw is to fail: its number, counted from 1, is planned
abbrev pub is_draw_planned : MemFeedState → Bool
is_draw_planned state = list_any (λ call. call == state.draws + 1) state.failing

-- what a draw answers, where there is memory
abbrev pub draw_answer : MemFeedState → Result (Option FeedRow) FeedFault
draw_answer state = if is_draw_planned state then Err Failed else Ok (slice_get state.rows state.given)

-- the number of failures after a draw
abbrev pub faults_after : Result (Option FeedRow) FeedFault → ℕ → ℕ
faults_after (Ok row) faults = faults
faults_after (Err Failed) faults = raised faults
faults_after (Err Memory) faults = faults

-- the state after a draw with this answer
abbrev pub after_draw : Result (Option FeedRow) FeedFault → MemFeedState → MemFeedState
after_draw answer state = record state {
  draws = raised state.draws;
  given = given_after answer state.given;
  faults = faults_after answer state.faults;
}

-- what contracts see of a feed in memory: it tells its rows, and is steady where no draw is to fail
abbrev pub feed_state : MemFeedState → FeedState
feed_state state = record {
  outside = record { told = Some state.rows; faults = state.faults; steady = length state.failing == 0 };
  draws = state.draws;
  given = state.given;
}
