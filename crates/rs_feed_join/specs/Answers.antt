-- What the next call of a join of two feeds answers, and how often it draws.
use Rattle.std.specs.Prelude.{ℕ, suc, ◌≡◌, ◌<◌, ◌==◌, ◌&&◌, Bool, true, nat_lt, List, [], ◌∷◌, find, length, option_map, slice_get, unwrap_or, Option, Some, None, Result, Ok, Err, if◌then◌else◌}
use Rattle.rs_feed.specs.declared.feed_row.FeedRow.{FeedRow}
use Rattle.rs_feed_join.specs.declared.fault.JoinFault.{JoinFault}
use Rattle.rs_feed_join.specs.declared.fault.JoinFault.TheVariants.{OutOfOrder, TooLong, Failed, Memory, Broken}
use Rattle.rs_feed_join.specs.declared.feed_pair.FeedPair.{FeedPair}
use Rattle.rs_order.specs.Last.{last_of}
use Rattle.rs_order.specs.Schedule.{JoinSide, Left, Right, SideAsk, asked}
use Rattle.rs_ripple.specs.Stands.{BeginsWith}
use Rattle.rs_feed_join.specs.Cuts.{HaveScores, cut, last_score, most_rows}
use Rattle.rs_feed_join.specs.Pairs.{joined_pairs}
use Rattle.rs_feed_join.specs.Ranked.{asks_of_rows}
use Rattle.rs_feed_join.specs.Sides.{FeedSide}

-- an ask lies past the end of a cut that isn't the whole feed
abbrev pub lies_past : List FeedRow → ℕ → Bool
lies_past rows number = nat_lt (length (cut rows)) number && nat_lt (length (cut rows)) (length rows)

abbrev pub is_refused : List FeedRow → List FeedRow → SideAsk → Bool
is_refused lefts rights ask = elim ask.side as (λ _. Bool) [ Left ↦ lies_past lefts ask.number | Right ↦ lies_past rights ask.number ]

-- the items up to the first one that passes, and with it
abbrev pub up_to : {X : Type 0} → (X → Bool) → List X → List X
up_to passes [] = []
up_to passes (x ∷ xs) = if passes x then x ∷ [] else x ∷ up_to passes xs

-- the asks of the join of both cuts that the next pair behind n pairs takes
abbrev pub asks_of_cuts : List FeedRow → List FeedRow → ℕ → List SideAsk
asks_of_cuts lefts rights n = asks_of_rows (cut lefts) (cut rights) (suc n)

-- those that are made: up to the first that is refused
abbrev pub draws_for : List FeedRow → List FeedRow → ℕ → List SideAsk
draws_for lefts rights n = up_to (is_refused lefts rights) (asks_of_cuts lefts rights n)

-- why the row behind a cut is refused
abbrev pub fault_behind : ℕ → List FeedRow → JoinFault
fault_behind side rows =
    if length (cut rows) == most_rows
    then TooLong side
    else OutOfOrder side (suc (length (cut rows))) (unwrap_or (last_score (cut rows)) 0) (unwrap_or (option_map (λ (row : FeedRow). row.score) (slice_get rows (length (cut rows)))) 0)

abbrev pub fault_at : List FeedRow → List FeedRow → SideAsk → JoinFault
fault_at lefts rights ask = elim ask.side as (λ _. JoinFault) [ Left ↦ fault_behind 1 lefts | Right ↦ fault_behind 2 rights ]

-- the answer: the fault of an ask that is refused, or the next pair, or none at the end
abbrev pub answer_by : List FeedRow → List FeedRow → ℕ → Option SideAsk → Result (Option FeedPair) JoinFault
answer_by lefts rights n None = Ok (slice_get (joined_pairs (cut lefts) (cut rights)) n)
answer_by lefts rights n (Some ask) = Err (fault_at lefts rights ask)

-- the next pair behind n pairs, none, or why a row is refused, over the finished lists of rows
abbrev pub next_answer : List FeedRow → List FeedRow → ℕ → Result (Option FeedPair) JoinFault
next_answer lefts rights n = answer_by lefts rights n (find (is_refused lefts rights) (asks_of_cuts lefts rights n))

-- so often both sides were drawn
pub record HasDrawn (made : List SideAsk) (left right : FeedSide) : Type 0 where
  pub left_draws : left.draws ≡ asked Left made
  pub right_draws : right.draws ≡ asked Right made

-- this is the answer, and all these draws were made
pub record Answers (lefts rights : List FeedRow) (n : ℕ) (left right : FeedSide) (result : Result (Option FeedPair) JoinFault) : Type 0 where
  pub answer : result ≡ next_answer lefts rights n
  pub drawn : HasDrawn (draws_for lefts rights n) left right

-- only a front of these draws was made
pub record BreaksOff (lefts rights : List FeedRow) (n : ℕ) (left right : FeedSide) : Type 0 where
  pub made : List SideAsk
  pub begins : BeginsWith (draws_for lefts rights n) made
  pub drawn : HasDrawn made left right

-- the same, and the last draw is one of this side
abbrev pub number_of : JoinSide → ℕ
number_of side = elim side as (λ _. ℕ) [ Left ↦ 1 | Right ↦ 2 ]

pub record Fails (lefts rights : List FeedRow) (n side : ℕ) (left right : FeedSide) : Type 0 where
  pub breaks : BreaksOff lefts rights n left right
  pub last : option_map (λ (ask : SideAsk). number_of ask.side) (last_of breaks.made) ≡ Some side

-- what a call is behind n pairs, of feeds with these rows
abbrev pub IsNext : List FeedRow → List FeedRow → ℕ → FeedSide → FeedSide → Result (Option FeedPair) JoinFault → Type 0
IsNext lefts rights n left right (Ok pair) = Answers lefts rights n left right (Ok pair)
IsNext lefts rights n left right (Err (OutOfOrder side row before got)) = Answers lefts rights n left right (Err (OutOfOrder side row before got))
IsNext lefts rights n left right (Err (TooLong side)) = Answers lefts rights n left right (Err (TooLong side))
IsNext lefts rights n left right (Err (Failed side)) = Fails lefts rights n side left right
IsNext lefts rights n left right (Err Memory) = BreaksOff lefts rights n left right
IsNext lefts rights n left right (Err Broken) = Unit {0}

-- the row behind those of a side is the one that was refused, if one was
abbrev pub HasRefused : ℕ → List FeedRow → FeedSide → Result (Option FeedPair) JoinFault → Type 0
HasRefused number rows side (Ok pair) = Unit {0}
HasRefused number rows side (Err (OutOfOrder refused row before got)) =
    refused ≡ number → option_map (λ (row : FeedRow). row.score) (slice_get rows (length side.rows)) ≡ Some got
HasRefused number rows side (Err (TooLong refused)) = refused ≡ number → length side.rows < length rows
HasRefused number rows side (Err (Failed refused)) = Unit {0}
HasRefused number rows side (Err Memory) = Unit {0}
HasRefused number rows side (Err Broken) = Unit {0}

-- a feed that tells its rows has that row there
abbrev pub HasToldRefused : ℕ → Option (List FeedRow) → FeedSide → Result (Option FeedPair) JoinFault → Type 0
HasToldRefused number told side result = (rows : List FeedRow) → told ≡ Some rows → HasRefused number rows side result

-- rows that a feed may have, of which this side was drawn up to this answer
pub record MayBe (number : ℕ) (rows : List FeedRow) (side : FeedSide) (result : Result (Option FeedPair) JoinFault) : Type 0 where
  pub scores : HaveScores rows
  pub begins : BeginsWith rows side.rows
  pub ends : side.ended ≡ true → rows ≡ side.rows
  pub refused : HasRefused number rows side result
