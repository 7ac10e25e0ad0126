-- Two feeds, and the join that draws from them.
use Rattle.std.specs.Prelude.{◌≡◌, ◌≢◌, ◌≤◌, false, length, Option, Some, None, Result, Ok, Err}
use Rattle.rs_value.specs.Outside.{Counts}
use Rattle.rs_feed.specs.Feeds.{FeedState}
use Rattle.rs_table.specs.Relation.{most_rows}
use Rattle.rs_table_feed.specs.TableFeeds.{TableFeedState, new_feed, table_feed_state}
use Rattle.rs_feed_join.specs.declared.fault.JoinFault.{JoinFault}
use Rattle.rs_feed_join.specs.declared.fault.JoinFault.TheVariants as join
use Rattle.rs_feed_join.specs.declared.feed_pair.FeedPair.{FeedPair}
use Rattle.rs_feed_join.specs.Answers.{HasToldRefused}
use Rattle.rs_feed_join.specs.Cuts.{HaveScores}
use Rattle.rs_feed_join.specs.Joins.{FeedJoinState, IsKept, IsRefusal}
use Rattle.rs_feed_join.specs.Sides.{FeedSide, IsCounted, IsDrawnOf}
use Rattle.rs_words.specs.declared.fault.WordFault.{WordFault}
use Rattle.rs_words.specs.declared.fault.WordFault.TheVariants.{Memory, Order}

-- what calls of a join leave of it and of both feeds, where the last of them answered this: the rows stay with the join, it made all draws, and each
-- failure is counted
pub record JoinLeaves (state : FeedJoinState) (left_old left_new right_old right_new : FeedState) (last : Result (Option FeedPair) JoinFault) : Type 0 where
  pub refused : IsRefusal state last
  pub left_refused : HasToldRefused 1 left_old.outside.told state.left last
  pub right_refused : HasToldRefused 2 right_old.outside.told state.right last
  pub unbroken : last ≢ Err join.Broken
  pub kept : IsKept state
  pub counted : state.broken ≡ false → IsCounted state.left × IsCounted state.right
  pub left_drawn : IsDrawnOf state.broken left_new state.left
  pub right_drawn : IsDrawnOf state.broken right_new state.right
  pub left_told : left_new.outside.told ≡ left_old.outside.told
  pub right_told : right_new.outside.told ≡ right_old.outside.told
  pub left_counts : Counts (last ≡ Err (join.Failed 1)) left_old.outside left_new.outside
  pub right_counts : Counts (last ≡ Err (join.Failed 2)) right_old.outside right_new.outside

-- a side of a join was drawn of the feed of a table
pub record IsDrawnOfTable (feed : TableFeedState) (side : FeedSide) : Type 0 where
  pub drawn : IsDrawnOf false (table_feed_state feed) side
  pub scores : HaveScores feed.rows
  pub few : length feed.rows ≤ most_rows

-- a join that drew all that was drawn of these feeds, and of which no call failed
pub record IsJoining (state : FeedJoinState) (left right : TableFeedState) : Type 0 where
  pub unbroken : state.broken ≡ false
  pub left_feed : IsDrawnOfTable left state.left
  pub right_feed : IsDrawnOfTable right state.right

-- the feed of a table, of which nothing is drawn
pub record IsUndrawn (feed : TableFeedState) : Type 0 where
  pub new : feed ≡ new_feed feed.rows
  pub scores : HaveScores feed.rows
  pub few : length feed.rows ≤ most_rows

-- the faults that come of a join of tables: a table has no row more than a join takes, and its feed never fails
abbrev pub IsOfTables : JoinFault → Type 0
IsOfTables (join.OutOfOrder side row before got) = Unit {0}
IsOfTables (join.TooLong side) = ⊥
IsOfTables (join.Failed side) = ⊥
IsOfTables join.Memory = Unit {0}
IsOfTables join.Broken = ⊥

-- how a word tells them; the others don't come
abbrev pub join_fault : JoinFault → WordFault
join_fault (join.OutOfOrder side row before got) = Order side row before got
join_fault (join.TooLong side) = Memory
join_fault (join.Failed side) = Memory
join_fault join.Memory = Memory
join_fault join.Broken = Memory

-- the fault that ends a call of a join, if one does
abbrev pub fault_of : Result (Option FeedPair) JoinFault → Option WordFault
fault_of (Ok pair) = None
fault_of (Err why) = Some (join_fault why)
