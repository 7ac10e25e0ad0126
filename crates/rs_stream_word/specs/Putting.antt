-- What joining two streams puts.
use Rattle.std.specs.Prelude.{ℕ, ◌≡◌, List, [], ◌∷◌, Option, Some, Result, Ok, Err}
use Rattle.rs_events.specs.Environment.{Environment}
use Rattle.rs_events.specs.Run.{lines_run}
use Rattle.rs_events.specs.Running.{Ran}
use Rattle.rs_feed.specs.declared.feed_row.FeedRow.{FeedRow}
use Rattle.rs_feed_join.specs.Joins.{FeedJoinState}
use Rattle.rs_stream.specs.declared.fault.StreamFault.{StreamFault}
use Rattle.rs_stream.specs.Rows.{Stream}
use Rattle.rs_stream.specs.StreamFeeds.{EndsAs}
use Rattle.rs_words.specs.declared.fault.PairsFault.{PairsFault}
use Rattle.rs_words.specs.declared.fault.PairsFault.TheVariants as pairs
use Rattle.rs_words.specs.declared.fault.PutFault.{PutFault}
use Rattle.rs_words.specs.Lines.{draws_line}
use Rattle.rs_words.specs.Putting.{PutsPairs, pair_faults}
use Rattle.rs_stream_word.specs.declared.fault.StreamsFault.{StreamsFault}
use Rattle.rs_stream_word.specs.Faults.{join_fault, put_fault}

-- how the fault of the pairs is told, with the causes of both streams
abbrev pub pairs_fault : PairsFault → Option StreamFault → Option StreamFault → StreamsFault
pairs_fault (pairs.Join why) left right = join_fault why left right
pairs_fault (pairs.Put why) left right = put_fault why

-- what a put answered, by the faults of the word
abbrev pub put_answer : Result (Unit {0}) PutFault → Result (Unit {0}) StreamsFault
put_answer (Ok done) = Ok done
put_answer (Err why) = Err (put_fault why)

-- the line of the draws was put, or its put failed
pub record PutsDraws (join : FeedJoinState) (result : Result (Unit {0}) StreamsFault) (old new : Environment) : Type 0 where
  pub put : Result (Unit {0}) PutFault
  pub ran : Ran pair_faults (lines_run (draws_line join.left.draws join.right.draws ∷ [])) put old new
  pub answer : result ≡ put_answer put

-- behind the pairs comes the line of the draws; where the pairs ended with a fault, nothing comes
abbrev pub Behind : Result (Unit {0}) PairsFault → Option StreamFault → Option StreamFault → FeedJoinState → Result (Unit {0}) StreamsFault → Environment → Environment → Type 0
Behind (Ok done) left right join result old new = PutsDraws join result old new
Behind (Err why) left right join result old new = (result ≡ Err (pairs_fault why left right)) × (new ≡ old)

-- the first pairs of feeds with these rows were put, as many as are wanted, each before any later draw, and behind them how often both were drawn
pub record PutsStreams (lefts rights : List FeedRow) (count : ℕ) (result : Result (Unit {0}) StreamsFault) (left right : Option StreamFault) (old new : Environment) : Type 0 where
  pub pairs : Result (Unit {0}) PairsFault
  pub join : FeedJoinState
  pub middle : Environment
  pub puts : PutsPairs lefts rights count pairs join old middle
  pub behind : Behind pairs left right join result middle new

-- the same of two streams: where one gave no more rows though it didn't end, that is how it ends
pub record FeedsStreams (lefts rights : Stream) (count : ℕ) (result : Result (Unit {0}) StreamsFault) (old new : Environment) : Type 0 where
  pub left : Option StreamFault
  pub right : Option StreamFault
  pub puts : PutsStreams lefts.rows rights.rows count result left right old new
  pub left_ends : EndsAs left (Some lefts)
  pub right_ends : EndsAs right (Some rights)
