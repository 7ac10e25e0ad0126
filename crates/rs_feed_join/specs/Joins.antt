-- What a join of two feeds keeps, and what holds of it whatever its feeds have behind the rows that were drawn.
use Rattle.std.specs.Prelude.{ℕ, suc, ◌≡◌, ◌≤◌, ◌<◌, ◌⊎◌, ◌==◌, ◌&&◌, ◌||◌, Bool, true, false, List, length, take, slice_get, Option, Some, None, IfSome, Result, Ok, Err, is_err, if◌then◌else◌}
use Rattle.rs_feed.specs.declared.feed_row.FeedRow.{FeedRow}
use Rattle.rs_feed_join.specs.declared.fault.JoinFault.{JoinFault}
use Rattle.rs_feed_join.specs.declared.fault.JoinFault.TheVariants.{OutOfOrder, TooLong, Failed, Memory, Broken}
use Rattle.rs_feed_join.specs.declared.feed_pair.FeedPair.{FeedPair}
use Rattle.rs_order.specs.Climbing.{IsNoLater}
use Rattle.rs_order.specs.Last.{last_of}
use Rattle.rs_ripple.specs.Stands.{BeginsWith}
use Rattle.rs_feed_join.specs.Cuts.{Falls, HaveScores, last_score, most_rows}
use Rattle.rs_feed_join.specs.Pairs.{joined_pairs, pair_cmp, pair_of}
use Rattle.rs_feed_join.specs.Sides.{AreTaken, FeedSide, new_side}

-- both sides; how many pairs were given; whether a call said that there are no more; and whether one failed
pub record FeedJoinState : Type 0 where
  pub left : FeedSide
  pub right : FeedSide
  pub given : ℕ
  pub finished : Bool
  pub broken : Bool

-- a side by its number: 1 is the left one, and 2 the right one
abbrev pub side_in : ℕ → FeedJoinState → FeedSide
side_in side state = if side == 1 then state.left else state.right

-- nothing is drawn
abbrev pub new_feed_join : FeedJoinState
new_feed_join = record { left = new_side; right = new_side; given = 0; finished = false; broken = false }

-- rows whose scores fall that a feed may have of which this side was drawn
pub record Continues (side : FeedSide) (rows : List FeedRow) : Type 0 where
  pub falls : Falls rows
  pub scores : HaveScores rows
  pub begins : BeginsWith rows side.rows
  pub ends : side.ended ≡ true → rows ≡ side.rows

-- the pairs of the rows that were drawn
abbrev pub pairs_drawn : FeedSide → FeedSide → List FeedPair
pairs_drawn left right = joined_pairs left.rows right.rows

-- the pair that was given last
abbrev pub last_given : FeedSide → FeedSide → ℕ → Option FeedPair
last_given left right given = last_of (take given (pairs_drawn left right))

-- a pair comes at or before that of these rows, whatever their texts are
abbrev pub IsAtOrBefore : Option FeedPair → ℕ → Option FeedRow → ℕ → Option FeedRow → Type 0
IsAtOrBefore pair i left j right =
    IfSome pair (λ p. IfSome left (λ l. IfSome right (λ r. IsNoLater pair_cmp (λ key. key) p (pair_of i l j r))))

-- no row can come that makes a pair: both sides ended, or one did without a row
abbrev pub ended_empty : FeedSide → Bool
ended_empty side = side.ended && (length side.rows == 0)

abbrev pub no_pair_can_come : FeedSide → FeedSide → Bool
no_pair_can_come left right = (left.ended && right.ended) || (ended_empty left || ended_empty right)

-- what holds of each join, also once it is broken: the pairs that it gave are the first ones of the rows that were drawn and of all
-- that the feeds can have, and the last of them comes at or before all that can still come
pub record IsKept (state : FeedJoinState) : Type 0 where
  pub left_rows : AreTaken state.left.rows
  pub right_rows : AreTaken state.right.rows
  pub within : state.given ≤ length (pairs_drawn state.left state.right)
  pub certain : (lefts rights : List FeedRow) → Continues state.left lefts → Continues state.right rights
      → take state.given (joined_pairs lefts rights) ≡ take state.given (pairs_drawn state.left state.right)
  pub left_reached : state.left.ended ≡ false
      → IsAtOrBefore (last_given state.left state.right state.given) (length state.left.rows) (last_of state.left.rows) 1 (slice_get state.right.rows 0)
  pub right_reached : state.right.ended ≡ false
      → IsAtOrBefore (last_given state.left state.right state.given) 1 (slice_get state.left.rows 0) (length state.right.rows) (last_of state.right.rows)
  pub all : state.finished ≡ true → length (pairs_drawn state.left state.right) ≡ state.given
  pub over : state.finished ≡ true → no_pair_can_come state.left state.right ≡ true

-- the row of this number, behind these rows, has a greater score than the last of them
pub record IsRise (rows : List FeedRow) (row before got : ℕ) : Type 0 where
  pub few : length rows < most_rows
  pub number : row ≡ suc (length rows)
  pub last : last_score rows ≡ Some before
  pub more : before < got

-- the number of a side
abbrev pub IsSide : ℕ → Type 0
IsSide side = (side ≡ 1) ⊎ (side ≡ 2)

-- a fault tells a row that was refused, whatever its feed tells of its rows: its side hadn't ended, and the row rose, or was one too many
abbrev pub IsRefusal : FeedJoinState → Result (Option FeedPair) JoinFault → Type 0
IsRefusal state (Ok pair) = Unit {0}
IsRefusal state (Err (OutOfOrder side row before got)) = IsSide side × ((side_in side state).ended ≡ false) × IsRise (side_in side state).rows row before got
IsRefusal state (Err (TooLong side)) = IsSide side × ((side_in side state).ended ≡ false) × (length (side_in side state).rows ≡ most_rows)
IsRefusal state (Err (Failed side)) = Unit {0}
IsRefusal state (Err Memory) = Unit {0}
IsRefusal state (Err Broken) = Unit {0}

-- what a call leaves of a join; a side that ended is drawn no more
abbrev pub given_after : Result (Option FeedPair) JoinFault → ℕ → ℕ
given_after (Ok (Some pair)) given = suc given
given_after (Ok None) given = given
given_after (Err fault) given = given

abbrev pub finished_after : Result (Option FeedPair) JoinFault → Bool → Bool
finished_after (Ok (Some pair)) finished = finished
finished_after (Ok None) finished = true
finished_after (Err fault) finished = finished

-- what a call leaves: the rows that were taken stay, and a side that ended is drawn no more
pub record IsAfter (old new : FeedJoinState) (result : Result (Option FeedPair) JoinFault) : Type 0 where
  pub given : new.given ≡ given_after result old.given
  pub finished : new.finished ≡ finished_after result old.finished
  pub broken : new.broken ≡ is_err result
  pub left_grows : BeginsWith new.left.rows old.left.rows
  pub right_grows : BeginsWith new.right.rows old.right.rows
  pub left_over : old.left.ended ≡ true → new.left ≡ old.left
  pub right_over : old.right.ended ≡ true → new.right ≡ old.right
