-- The pairs of two feeds that are put as they come, and how often both feeds are drawn for them, also where a put failed.
use Rattle.std.specs.Prelude.{ℕ, zero, suc, ◌≡◌, ◌<◌, ◌≤◌, nat_lt, min, List, [], ◌∷◌, ◌++◌, length, map, slice_get, Bool, true, false, Option, Some, None, Result, Ok, Err}
use Rattle.rs_expr.specs.declared.scorer.Call.{Call}
use Rattle.rs_feed.specs.declared.feed_row.FeedRow.{FeedRow}
use Rattle.rs_feed_join.specs.declared.fault.JoinFault.{JoinFault}
use Rattle.rs_feed_join.specs.declared.feed_pair.FeedPair.{FeedPair}
use Rattle.rs_feed_join.specs.Answers.{HasDrawn, IsNext, asks_of_cuts, next_answer}
use Rattle.rs_feed_join.specs.Cuts.{cut}
use Rattle.rs_feed_join.specs.Joins.{FeedJoinState, IsAfter}
use Rattle.rs_feed_join.specs.Pairs.{joined_pairs}
use Rattle.rs_feed_join.specs.Ranked.{asks_of_rows}
use Rattle.rs_feed_join.specs.Sides.{FeedSide}
use Rattle.rs_order.specs.Schedule.{SideAsk}
use Rattle.rs_events.specs.Environment.{Environment}
use Rattle.rs_events.specs.Events.{Put}
use Rattle.rs_events.specs.HaltFaults.{HaltFaults}
use Rattle.rs_events.specs.Run.{lines_run}
use Rattle.rs_events.specs.Running.{HasDone, Ran}
use Rattle.rs_words.specs.declared.fault.PairsFault.{PairsFault}
use Rattle.rs_words.specs.declared.fault.PairsFault.TheVariants as pairs
use Rattle.rs_words.specs.declared.fault.PutFault.{PutFault}
use Rattle.rs_words.specs.declared.fault.PutFault.TheVariants.{Memory, Write}
use Rattle.rs_words.specs.Lines.{pair_line}

-- with which faults the halts of puts are told
abbrev pub pair_faults : HaltFaults PutFault
pair_faults = record {
  memory = Memory;
  write = Write;
  failed_call = λ (call : Call). Memory;
  IsFailedFetch = λ (name : List ℕ) (fault : PutFault). ⊥;
}

-- the pairs of both fronts
abbrev pub pairs_of : List FeedRow → List FeedRow → List FeedPair
pairs_of lefts rights = joined_pairs (cut lefts) (cut rights)

-- the draws that this many pairs take, or all pairs and the end behind them, where there are fewer
abbrev pub draws_in_all : List FeedRow → List FeedRow → ℕ → List SideAsk
draws_in_all lefts rights count = asks_of_rows (cut lefts) (cut rights) (min count (suc (length (pairs_of lefts rights))))

-- the line of a pair, where there is one
abbrev pub line_at : ℕ → Option FeedPair → List (List ℕ)
line_at rank None = []
line_at rank (Some pair) = pair_line rank pair ∷ []

-- the lines of the first n pairs
abbrev pub first_lines : List FeedPair → ℕ → List (List ℕ)
first_lines pairs zero = []
first_lines pairs (suc n) = first_lines pairs n ++ line_at (suc n) (slice_get pairs n)

-- the first n calls of a join meet no row that is refused, and each answers the pair at its place, if there is one
abbrev pub AreAnswered : List FeedRow → List FeedRow → ℕ → Type 0
AreAnswered lefts rights n = (i : ℕ) → i < n → next_answer lefts rights i ≡ Ok (slice_get (pairs_of lefts rights) i)

-- the first n pairs are out, each in a put of its own
pub record AreOut (lefts rights : List FeedRow) (n : ℕ) (old new : Environment) : Type 0 where
  pub within : n ≤ length (pairs_of lefts rights)
  pub answered : AreAnswered lefts rights n
  pub lines : HasDone (map Put (first_lines (pairs_of lefts rights) n)) old new

-- the pairs that were wanted are out, or all that there are, where they are fewer; and the draws are those that they take, in the last case
-- with those that show that there are no more
pub record PutsAll (lefts rights : List FeedRow) (count : ℕ) (join : FeedJoinState) (old new : Environment) : Type 0 where
  pub answered : AreAnswered lefts rights (min count (suc (length (pairs_of lefts rights))))
  pub lines : HasDone (map Put (first_lines (pairs_of lefts rights) (min count (length (pairs_of lefts rights))))) old new
  pub drawn : HasDrawn (draws_in_all lefts rights count) join.left join.right
  pub given : join.given ≡ min count (length (pairs_of lefts rights))
  pub finished : join.finished ≡ nat_lt (length (pairs_of lefts rights)) count

-- n pairs are out, of as many as are wanted, and then a call of the join ended with this fault; nothing was drawn behind that call
pub record StopsAtJoin (lefts rights : List FeedRow) (count : ℕ) (why : JoinFault) (join : FeedJoinState) (old new : Environment) : Type 0 where
  pub n : ℕ
  pub within : n < count
  pub out : AreOut lefts rights n old new
  pub next : IsNext lefts rights n join.left join.right (Err why)
  pub given : join.given ≡ n

-- n pairs are out, of as many as are wanted, and then the put of the next one ended with this fault; the draws are those that this pair takes
pub record StopsAtPut (lefts rights : List FeedRow) (count : ℕ) (why : PutFault) (join : FeedJoinState) (old new : Environment) : Type 0 where
  pub n : ℕ
  pub within : n < count
  pub middle : Environment
  pub out : AreOut lefts rights n old middle
  pub pair : FeedPair
  pub next : next_answer lefts rights n ≡ Ok (Some pair)
  pub drawn : HasDrawn (asks_of_cuts lefts rights n) join.left join.right
  pub given : join.given ≡ suc n
  pub put : Ran pair_faults (lines_run (pair_line (suc n) pair ∷ [])) (Err why) middle new

-- what puts the first pairs of feeds with these rows did, as many as are wanted, each before any later draw
abbrev pub PutsPairs : List FeedRow → List FeedRow → ℕ → Result (Unit {0}) PairsFault → FeedJoinState → Environment → Environment → Type 0
PutsPairs lefts rights count (Ok done) join old new = PutsAll lefts rights count join old new
PutsPairs lefts rights count (Err (pairs.Join why)) join old new = StopsAtJoin lefts rights count why join old new
PutsPairs lefts rights count (Err (pairs.Put why)) join old new = StopsAtPut lefts rights count why join old new

-- what the last call of the join answered, as far as it failed: it went well where a put failed
abbrev pub call_before : PairsFault → Result (Option FeedPair) JoinFault
call_before (pairs.Join why) = Err why
call_before (pairs.Put why) = Ok None

abbrev pub call_of : {A : Type 0} → Result A PairsFault → Result (Option FeedPair) JoinFault
call_of (Ok done) = Ok None
call_of (Err fault) = call_before fault

-- the pair n + 1 was not put: it is the one that the join gave, and the draws are those that it takes
pub record BreaksAtPut (lefts rights : List FeedRow) (n : ℕ) (why : PutFault) (left right : FeedSide) (old new : Environment) : Type 0 where
  pub pair : FeedPair
  pub next : next_answer lefts rights n ≡ Ok (Some pair)
  pub drawn : HasDrawn (asks_of_cuts lefts rights n) left right
  pub put : Ran pair_faults (lines_run (pair_line (suc n) pair ∷ [])) (Err why) old new

-- the pair n + 1 was put
pub record PutsOne (lefts rights : List FeedRow) (n : ℕ) (left right : FeedSide) (old new : Environment) : Type 0 where
  pub pair : FeedPair
  pub next : next_answer lefts rights n ≡ Ok (Some pair)
  pub drawn : HasDrawn (asks_of_cuts lefts rights n) left right
  pub put : HasDone (Put (pair_line (suc n) pair) ∷ []) old new

-- there is none behind n pairs
pub record PutsNone (lefts rights : List FeedRow) (n : ℕ) (left right : FeedSide) (old new : Environment) : Type 0 where
  pub next : next_answer lefts rights n ≡ Ok None
  pub drawn : HasDrawn (asks_of_cuts lefts rights n) left right
  pub put : HasDone [] old new

-- what one call of the join did that puts its pair before any later draw
abbrev pub PutsNext : List FeedRow → List FeedRow → ℕ → Result Bool PairsFault → FeedSide → FeedSide → Environment → Environment → Type 0
PutsNext lefts rights n (Ok true) left right old new = PutsOne lefts rights n left right old new
PutsNext lefts rights n (Ok false) left right old new = PutsNone lefts rights n left right old new
PutsNext lefts rights n (Err (pairs.Join why)) left right old new = IsNext lefts rights n left right (Err why) × HasDone [] old new
PutsNext lefts rights n (Err (pairs.Put why)) left right old new = BreaksAtPut lefts rights n why left right old new

-- what that call leaves of the join
abbrev pub IsAfterPut : FeedJoinState → FeedJoinState → Result Bool PairsFault → Type 0
IsAfterPut old new (Ok true) = (pair : FeedPair) × IsAfter old new (Ok (Some pair))
IsAfterPut old new (Ok false) = IsAfter old new (Ok None)
IsAfterPut old new (Err (pairs.Join why)) = IsAfter old new (Err why)
IsAfterPut old new (Err (pairs.Put why)) = (pair : FeedPair) × IsAfter old new (Ok (Some pair))
