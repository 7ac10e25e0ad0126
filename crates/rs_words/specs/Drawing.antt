-- How often two feeds were drawn for the pairs that were put, also where a put failed.
use Rattle.std.specs.Prelude.{ℕ, suc, ◌≡◌, ◌<◌, ◌⊎◌, min, List, [], ◌∷◌, length, map, Some, Result, Ok, Err}
use Rattle.rs_feed.specs.declared.feed_row.FeedRow.{FeedRow}
use Rattle.rs_table_feed.specs.TableFeeds.{TableFeedState}
use Rattle.rs_feed_join.specs.declared.feed_pair.FeedPair.{FeedPair}
use Rattle.rs_feed_join.specs.Answers.{asks_of_cuts, draws_for, next_answer}
use Rattle.rs_order.specs.Schedule.{Left, Right, SideAsk, asked}
use Rattle.rs_ripple.specs.Stands.{BeginsWith}
use Rattle.rs_events.specs.Environment.{Environment}
use Rattle.rs_events.specs.Events.{Put}
use Rattle.rs_events.specs.Run.{lines_run}
use Rattle.rs_events.specs.Running.{HasDone, Ran}
use Rattle.rs_words.specs.declared.fault.WordFault.{WordFault}
use Rattle.rs_words.specs.declared.fault.WordFault.TheVariants.{Memory, Order}
use Rattle.rs_words.specs.Faults.{put_faults}
use Rattle.rs_words.specs.Feeding.{draws_run}
use Rattle.rs_words.specs.Lines.{pair_line}
use Rattle.rs_words.specs.Putting.{AreAnswered, draws_in_all, first_lines, pairs_of}

-- so often both feeds were drawn
pub record AreDrawn (made : List SideAsk) (left right : TableFeedState) : Type 0 where
  pub left_draws : left.draws ≡ asked Left made
  pub right_draws : right.draws ≡ asked Right made

-- a front of these draws was made
pub record DrewFront (all : List SideAsk) (left right : TableFeedState) : Type 0 where
  pub made : List SideAsk
  pub begins : BeginsWith all made
  pub drawn : AreDrawn made left right

-- what a call of the join drew that ended with this fault behind n pairs: all up to the row out of order; or, where there was no memory, a front of what
-- the next pair takes
abbrev pub DrewUntil : List FeedRow → List FeedRow → ℕ → WordFault → TableFeedState → TableFeedState → Type 0
DrewUntil lefts rights n (Order side row before got) left right = AreDrawn (draws_for lefts rights n) left right
DrewUntil lefts rights n fault left right = DrewFront (draws_for lefts rights n) left right

-- behind n pairs a call of the join ended with this fault, and nothing more was put
pub record StopsAtCall (lefts rights : List FeedRow) (n : ℕ) (fault : WordFault) (left right : TableFeedState) (old new : Environment) : Type 0 where
  pub drew : DrewUntil lefts rights n fault left right
  pub put : HasDone [] old new

-- behind n pairs the put of the next one ended with this fault; the draws are those that this pair takes
pub record StopsAtPair (lefts rights : List FeedRow) (n : ℕ) (fault : WordFault) (left right : TableFeedState) (old new : Environment) : Type 0 where
  pub pair : FeedPair
  pub next : next_answer lefts rights n ≡ Ok (Some pair)
  pub drawn : AreDrawn (asks_of_cuts lefts rights n) left right
  pub put : Ran put_faults (lines_run (pair_line (suc n) pair ∷ [])) (Err fault) old new

abbrev pub StopsAt : List FeedRow → List FeedRow → ℕ → WordFault → TableFeedState → TableFeedState → Environment → Environment → Type 0
StopsAt lefts rights n fault left right old new = StopsAtCall lefts rights n fault left right old new ⊎ StopsAtPair lefts rights n fault left right old new

-- n pairs are out, of as many as are wanted, and then a fault ended it
pub record StopsBehind (lefts rights : List FeedRow) (count : ℕ) (fault : WordFault) (left right : TableFeedState) (old new : Environment) : Type 0 where
  pub n : ℕ
  pub within : n < count
  pub middle : Environment
  pub lines : HasDone (map Put (first_lines (pairs_of lefts rights) n)) old middle
  pub stops : StopsAt lefts rights n fault left right middle new

-- all pairs are out, and the put of the line of the draws ended with this fault
pub record StopsAtDraws (lefts rights : List FeedRow) (count : ℕ) (fault : WordFault) (left right : TableFeedState) (old new : Environment) : Type 0 where
  pub drawn : AreDrawn (draws_in_all lefts rights count) left right
  pub middle : Environment
  pub lines : HasDone (map Put (first_lines (pairs_of lefts rights) (min count (length (pairs_of lefts rights))))) old middle
  pub put : Ran put_faults (draws_run (draws_in_all lefts rights count)) (Err fault) middle new

-- what both feeds were drawn where this many pairs were wanted: no more than what was put takes, and the pair whose put failed
abbrev pub DrawsAsPut : List FeedRow → List FeedRow → ℕ → Result (Unit {0}) WordFault → TableFeedState → TableFeedState → Environment → Environment → Type 0
DrawsAsPut lefts rights count (Ok done) left right old new = AreDrawn (draws_in_all lefts rights count) left right
DrawsAsPut lefts rights count (Err fault) left right old new =
    StopsBehind lefts rights count fault left right old new ⊎ StopsAtDraws lefts rights count fault left right old new

-- behind n pairs, of as many as a certificate is to have, a call of the join ended with this fault
pub record StopsCertifying (lefts rights : List FeedRow) (count : ℕ) (fault : WordFault) (left right : TableFeedState) : Type 0 where
  pub n : ℕ
  pub within : n < count
  pub answered : AreAnswered lefts rights n
  pub drew : DrewUntil lefts rights n fault left right

-- what both feeds were drawn for a certificate of this many pairs: all that it shows, also where it is too long or its put failed; else all up to the row out of order;
-- or, where there was no memory, what the first pairs take and a front of what the next one takes
abbrev pub DrawsAsCertified : {A : Type 0} → List FeedRow → List FeedRow → ℕ → Result A WordFault → TableFeedState → TableFeedState → Type 0
DrawsAsCertified lefts rights count (Ok done) left right = AreDrawn (draws_in_all lefts rights count) left right
DrawsAsCertified lefts rights count (Err (Order side row before got)) left right = StopsCertifying lefts rights count (Order side row before got) left right
DrawsAsCertified lefts rights count (Err Memory) left right =
    StopsCertifying lefts rights count Memory left right ⊎ AreDrawn (draws_in_all lefts rights count) left right
DrawsAsCertified lefts rights count (Err fault) left right = AreDrawn (draws_in_all lefts rights count) left right
