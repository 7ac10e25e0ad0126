-- Where the parts of a join of two feeds stand, and what they do.
use Rattle.std.specs.Prelude.{ℕ, suc, ◌≡◌, ◌≤◌, ◌⊎◌, ◌+◌, ◌-◌, Bool, true, false, List, [], ◌∷◌, ◌++◌, length, Result, Ok, Err, is_err, Option, None, if◌then◌else◌}
use Rattle.std.specs.List.{AllByRecursion}
use Rattle.rs_feed.specs.declared.feed_row.FeedRow.{FeedRow}
use Rattle.rs_feed.specs.Feeds.{FeedState}
use Rattle.rs_feed_join.specs.declared.fault.JoinFault.{JoinFault}
use Rattle.rs_feed_join.specs.declared.fault.JoinFault.TheVariants.{Broken, Failed}
use Rattle.rs_feed_join.specs.declared.feed_pair.FeedPair.{FeedPair}
use Rattle.rs_feed_join.specs.declared.parts.JoinParts.{JoinParts}
use Rattle.rs_hrjn.specs.Hashed.{Hashed, joined_of, new_hashed}
use Rattle.rs_order.specs.Schedule.{JoinSide, Left, Right, SideAsk, asked}
use Rattle.rs_rank.specs.declared.ask.JoinAsk.TheVariants.{End}
use Rattle.rs_ripple.specs.Joined.{IsJoined, JoinStands}
use Rattle.rs_ripple.specs.Ripple.{ask_of}
use Rattle.rs_ripple.specs.Stands.{BeginsWith}
use Rattle.rs_value.specs.Outside.{Counts}
use Rattle.rs_feed_join.specs.Answers.{HasToldRefused, IsNext, MayBe}
use Rattle.rs_feed_join.specs.Joins.{Continues, FeedJoinState, IsKept, IsRefusal, given_after}
use Rattle.rs_feed_join.specs.Ranked.{feed_weights, hashed_left, hashed_right, join_of_rows, left_rows, left_side, numbered, right_rows, right_side}
use Rattle.rs_feed_join.specs.Sides.{AreTaken, Ended, FeedSide, HasCause, IsDrawnOf, Took, answered, new_side, side_of}
use Rattle.rs_value.specs.Faults.{raised}

-- the core, both sides, and how many pairs were given
pub record PartsState : Type 0 where
  pub core : Hashed
  pub left : FeedSide
  pub right : FeedSide
  pub given : ℕ

abbrev pub parts_of : JoinParts → PartsState
parts_of parts = record { core = parts.core; left = side_of parts.left; right = side_of parts.right; given = parts.given }

-- nothing is drawn
abbrev pub new_parts : PartsState
new_parts = record { core = new_hashed feed_weights left_side right_side; left = new_side; right = new_side; given = 0 }

-- what others see of the parts
abbrev pub join_state : PartsState → Bool → Bool → FeedJoinState
join_state parts finished broken =
    record { left = parts.left; right = parts.right; given = parts.given; finished = finished; broken = broken }

-- an ask was answered: by a row, or by the end of its side
abbrev pub IsAnsweredBy : FeedSide → ℕ → Type 0
IsAnsweredBy side number = (number ≤ length side.rows) ⊎ (side.ended ≡ true)

abbrev pub IsAnswered : FeedSide → FeedSide → SideAsk → Type 0
IsAnswered left right ask = elim ask.side as (λ _. Type 0) [ Left ↦ IsAnsweredBy left ask.number | Right ↦ IsAnsweredBy right ask.number ]

-- whatever the feeds have behind the rows that were drawn, the core stands at these asks and the pairs given
pub record StandsAt (made : List SideAsk) (parts : PartsState) : Type 0 where
  pub stands : (lefts rights : List FeedRow) → Continues parts.left lefts → Continues parts.right rights
      → JoinStands (join_of_rows lefts rights) (left_rows lefts) (right_rows rights) made parts.given (joined_of parts.core)
  pub joined : IsJoined (joined_of parts.core)
  pub lefts : parts.core.lefts ≡ numbered hashed_left 1 parts.left.rows
  pub rights : parts.core.rights ≡ numbered hashed_right 1 parts.right.rows
  pub left_taken : AreTaken parts.left.rows
  pub right_taken : AreTaken parts.right.rows
  pub left_asked : asked Left made ≡ answered parts.left
  pub right_asked : asked Right made ≡ answered parts.right
  pub left_draws : parts.left.draws ≡ asked Left made
  pub right_draws : parts.right.draws ≡ asked Right made
  pub answered : AllByRecursion (IsAnswered parts.left parts.right) made

pub record IsStanding (parts : PartsState) : Type 0 where
  pub made : List SideAsk
  pub at : StandsAt made parts

-- with the next ask of a side
abbrev pub asked_once_more : JoinSide → List SideAsk → List SideAsk
asked_once_more side made = made ++ record { side = side; number = suc (asked side made) } ∷ []

-- what a draw of a side does to it: a row for which there is no memory isn't taken
abbrev pub SideDrew : ℕ → Option (List FeedRow) → FeedSide → Result Unit JoinFault → FeedSide → Type 0
SideDrew number told old (Ok done) new = Took number told old new ⊎ Ended told old new
SideDrew number told old (Err fault) new = HasCause number told old fault × (new ≡ record old { draws = raised old.draws })

-- what drawing up to the next pair does
pub record Advanced (old new : PartsState) (left_old left_new right_old right_new : FeedState) (result : Result (Option FeedPair) JoinFault) : Type 0 where
  pub next : (lefts rights : List FeedRow) → MayBe 1 lefts new.left result → MayBe 2 rights new.right result
      → IsNext lefts rights old.given new.left new.right result
  pub left_refused : HasToldRefused 1 left_old.outside.told new.left result
  pub right_refused : HasToldRefused 2 right_old.outside.told new.right result
  pub given : new.given ≡ given_after result old.given
  pub standing : is_err result ≡ false → IsStanding new
  pub kept : IsKept (join_state new false false)
  pub end : result ≡ Ok None → (ask_of new.core.ripple ≡ End) × IsKept (join_state new true false)
  pub still : ask_of old.core.ripple ≡ End → (result ≡ Ok None) × (new ≡ old) × (left_new ≡ left_old) × (right_new ≡ right_old)
  pub refused : IsRefusal (join_state new false false) result
  pub unbroken : result ≡ Err Broken → ⊥
  pub left_drawn : IsDrawnOf (is_err result) left_new new.left
  pub right_drawn : IsDrawnOf (is_err result) right_new new.right
  pub left_told : left_new.outside.told ≡ left_old.outside.told
  pub right_told : right_new.outside.told ≡ right_old.outside.told
  pub left_counts : Counts (result ≡ Err (Failed 1)) left_old.outside left_new.outside
  pub right_counts : Counts (result ≡ Err (Failed 2)) right_old.outside right_new.outside
  pub left_grows : BeginsWith new.left.rows old.left.rows
  pub right_grows : BeginsWith new.right.rows old.right.rows
  pub left_over : old.left.ended ≡ true → new.left ≡ old.left
  pub right_over : old.right.ended ≡ true → new.right ≡ old.right

-- between two asks
pub record Turn (old new : PartsState) (left_old left_new right_old right_new : FeedState) : Type 0 where
  pub standing : IsStanding new
  pub given : new.given ≡ old.given
  pub still : ask_of old.core.ripple ≡ End → (new ≡ old) × (left_new ≡ left_old) × (right_new ≡ right_old)
  pub left_drawn : IsDrawnOf false left_new new.left
  pub right_drawn : IsDrawnOf false right_new new.right
  pub left_told : left_new.outside.told ≡ left_old.outside.told
  pub right_told : right_new.outside.told ≡ right_old.outside.told
  pub left_counts : Counts ⊥ left_old.outside left_new.outside
  pub right_counts : Counts ⊥ right_old.outside right_new.outside
  pub left_grows : BeginsWith new.left.rows old.left.rows
  pub right_grows : BeginsWith new.right.rows old.right.rows
  pub left_over : old.left.ended ≡ true → new.left ≡ old.left
  pub right_over : old.right.ended ≡ true → new.right ≡ old.right

-- the most draws of a side that are left
abbrev pub draws_left : FeedSide → ℕ
draws_left side = (131072 - length side.rows) + (if side.ended then 0 else 1)
