-- How often two feeds of tables were drawn for the pairs that were put.
use Rattle.std.proofs.Common.{ℕ, suc, ◌≡◌, ◌∙◌, inl, inr, min, List, [], ◌∷◌, length, map, Result, Ok, Err, refl, subst, sym}
use Rattle.rs_value.specs.Outside.{Outside}
use Rattle.rs_feed.specs.declared.feed_row.FeedRow.{FeedRow}
use Rattle.rs_table_feed.specs.TableFeeds.{TableFeedState}
use Rattle.rs_feed_join.specs.declared.fault.JoinFault.{JoinFault}
use Rattle.rs_feed_join.specs.declared.fault.JoinFault.TheVariants as join
use Rattle.rs_feed_join.specs.Answers.{HasDrawn, IsNext, asks_of_cuts, draws_for}
use Rattle.rs_feed_join.specs.Joins.{FeedJoinState}
use Rattle.rs_feed_join.specs.Sides.{FeedSide}
use Rattle.rs_order.specs.Schedule.{SideAsk}
use Rattle.rs_ripple.proofs.ScheduleFacts.{BeginsWith-itself}
use Rattle.rs_events.specs.Environment.{Environment}
use Rattle.rs_events.specs.Events.{Put}
use Rattle.rs_events.specs.HaltFaults.{TellAs}
use Rattle.rs_events.specs.Run.{lines_run}
use Rattle.rs_events.specs.Running.{HasDone, Ran}
use Rattle.rs_events.proofs.RanFacts.{HasDone-none}
use Rattle.rs_events.proofs.ToldFacts.{Ran-told_err}
use Rattle.rs_words.specs.declared.fault.PairsFault.{PairsFault}
use Rattle.rs_words.specs.declared.fault.PairsFault.TheVariants as pairs
use Rattle.rs_words.specs.declared.fault.PutFault.{PutFault}
use Rattle.rs_words.specs.declared.fault.WordFault.{WordFault}
use Rattle.rs_words.specs.declared.fault.WordFault.TheVariants as word
use Rattle.rs_words.specs.Drawing.{AreDrawn, DrawsAsCertified, DrawsAsPut, DrewUntil, StopsCertifying}
use Rattle.rs_words.specs.Faults.{put_fault, put_faults}
use Rattle.rs_words.specs.Feeding.{draws_run}
use Rattle.rs_words.specs.Gathering.{GivesAll, StopsAtCall, StopsAtPair, StopsShort}
use Rattle.rs_words.specs.Joining.{IsOfTables, join_fault}
use Rattle.rs_words.specs.Lines.{pair_line}
use Rattle.rs_words.specs.Putting.{PutsAll, PutsPairs, StopsAtJoin, StopsAtPut, draws_in_all, first_lines, pair_faults, pairs_of}

-- the draws of both feeds are those that the join made
pub drawn-of : (made : List SideAsk) (left right : FeedSide) (left_feed right_feed : TableFeedState) → left_feed.draws ≡ left.draws → right_feed.draws ≡ right.draws → HasDrawn made left right
    → AreDrawn made left_feed right_feed
drawn-of made left right left_feed right_feed l r drawn = record { left_draws = l ∙ drawn.left_draws; right_draws = r ∙ drawn.right_draws }

-- what a call of the join drew that came to a fault
pub drew-until : (lefts rights : List FeedRow) (n : ℕ) (left right : FeedSide) (left_feed right_feed : TableFeedState) (why : JoinFault) → left_feed.draws ≡ left.draws → right_feed.draws ≡ right.draws
    → IsOfTables why → IsNext lefts rights n left right (Err why) → DrewUntil lefts rights n (join_fault why) left_feed right_feed
drew-until lefts rights n left right left_feed right_feed (join.OutOfOrder side row before got) l r of next = drawn-of (draws_for lefts rights n) left right left_feed right_feed l r next.drawn
drew-until lefts rights n left right left_feed right_feed (join.TooLong side) l r of next = absurd of
drew-until lefts rights n left right left_feed right_feed (join.Failed side) l r of next = absurd of
drew-until lefts rights n left right left_feed right_feed join.Memory l r of next =
    record { made = next.made; begins = next.begins; drawn = drawn-of next.made left right left_feed right_feed l r next.drawn }
drew-until lefts rights n left right left_feed right_feed join.Broken l r of next = absurd of

-- where all pairs are out, what the put of the line of the draws answers
pub draws-told_so : (lefts rights : List FeedRow) (count n : ℕ) (asks : List SideAsk) (result : Result (Unit {0}) WordFault) (left right : TableFeedState) (old middle new : Environment)
    → asks ≡ draws_in_all lefts rights count → min count (length (pairs_of lefts rights)) ≡ n
    → AreDrawn asks left right → HasDone (map Put (first_lines (pairs_of lefts rights) n)) old middle → Ran put_faults (draws_run asks) result middle new
    → DrawsAsPut lefts rights count result left right old new
draws-told_so lefts rights count n asks (Ok done) left right old middle new same all drawn lines ran = subst (λ made. AreDrawn made left right) same drawn
draws-told_so lefts rights count n asks (Err fault) left right old middle new same all drawn lines ran = inr (record {
  drawn = subst (λ made. AreDrawn made left right) same drawn;
  middle = middle;
  lines = subst (λ m. HasDone (map Put (first_lines (pairs_of lefts rights) m)) old middle) (sym all) lines;
  put = subst (λ made. Ran put_faults (draws_run made) (Err fault) middle new) same ran;
})

-- a put of a pair, as a word tells it
pub puts-alike : TellAs put_fault pair_faults put_faults
puts-alike = record { memory = refl; write = refl; failed_call = λ call. refl; failed_fetch = λ name fault none. absurd none }

pub put-told : (line : List ℕ) (why : PutFault) (old new : Environment) → Ran pair_faults (lines_run (line ∷ [])) (Err why) old new → Ran put_faults (lines_run (line ∷ [])) (Err (put_fault why)) old new
put-told line why old new ran = Ran-told_err put_fault pair_faults put_faults puts-alike (lines_run (line ∷ [])) old new why ran

-- what is told of a join is told of both feeds
module _ (lefts rights : List FeedRow) (count : ℕ) (state : FeedJoinState) (left right : TableFeedState) (l : left.draws ≡ state.left.draws) (r : right.draws ≡ state.right.draws) where
  pub drawn-feeds : (made : List SideAsk) → HasDrawn made state.left state.right → AreDrawn made left right
  drawn-feeds made drawn = drawn-of made state.left state.right left right l r drawn

  module _ (old new : Environment) where
    pub draws-stopped : (why : JoinFault) → IsOfTables why → StopsAtJoin lefts rights count why state old new → DrawsAsPut lefts rights count (Err (join_fault why)) left right old new
    draws-stopped why of stops = inl (record {
      n = stops.n;
      within = stops.within;
      middle = new;
      lines = stops.out.lines;
      stops = inl (record { drew = drew-until lefts rights stops.n state.left state.right left right why l r of stops.next; put = HasDone-none new });
    })

    pub draws-unput : (why : PutFault) → StopsAtPut lefts rights count why state old new → DrawsAsPut lefts rights count (Err (put_fault why)) left right old new
    draws-unput why stops = inl (record {
      n = stops.n;
      within = stops.within;
      middle = stops.middle;
      lines = stops.out.lines;
      stops = inr (record { pair = stops.pair; next = stops.next; drawn = drawn-feeds (asks_of_cuts lefts rights stops.n) stops.drawn; put = put-told (pair_line (suc stops.n) stops.pair) why stops.middle new stops.put });
    })

    pub draws-ended : (last : Environment) (result : Result (Unit {0}) WordFault) → PutsAll lefts rights count state old new → Ran put_faults (draws_run (draws_in_all lefts rights count)) result new last
        → DrawsAsPut lefts rights count result left right old last
    draws-ended last result puts ran =
        draws-told_so lefts rights count (min count (length (pairs_of lefts rights))) (draws_in_all lefts rights count) result left right old new last refl refl
        (drawn-feeds (draws_in_all lefts rights count) puts.drawn) puts.lines ran

  -- and for a certificate
  pub draws-certified : (pairs : List (ℕ × ℕ)) → GivesAll lefts rights count pairs state → AreDrawn (draws_in_all lefts rights count) left right
  draws-certified pairs gives = drawn-feeds (draws_in_all lefts rights count) gives.drawn

  stops-certifying : (why : JoinFault) → IsOfTables why → StopsAtCall lefts rights count why state → StopsCertifying lefts rights count (join_fault why) left right
  stops-certifying why of stops = record { n = stops.n; within = stops.within; answered = stops.answered; drew = drew-until lefts rights stops.n state.left state.right left right why l r of stops.next }

  stops-behind : StopsAtPair lefts rights count state → StopsCertifying lefts rights count word.Memory left right
  stops-behind stops =
      let made = draws_for lefts rights stops.n in record {
        n = stops.n;
        within = stops.within;
        answered = stops.answered;
        drew = record { made = made; begins = BeginsWith-itself made; drawn = drawn-feeds made stops.next.drawn };
      }

  pub draws-short : (A : Type 0) (why : JoinFault) → IsOfTables why → StopsShort lefts rights count why state → DrawsAsCertified {A = A} lefts rights count (Err (join_fault why)) left right
  draws-short A (join.OutOfOrder side row before got) of (inl stops) = stops-certifying (join.OutOfOrder side row before got) of stops
  draws-short A (join.OutOfOrder side row before got) of (inr short) = absurd (let e = short.0 in cc)
  draws-short A (join.TooLong side) of stops = absurd of
  draws-short A (join.Failed side) of stops = absurd of
  draws-short A join.Memory of (inl stops) = inl (stops-certifying join.Memory of stops)
  draws-short A join.Memory of (inr (short, inl stops)) = inl (stops-behind stops)
  draws-short A join.Memory of (inr (short, inr stops)) = inr (drawn-feeds (draws_in_all lefts rights count) stops.drawn)
  draws-short A join.Broken of stops = absurd of

-- where all of a certificate is drawn, also where its bytes or its put came to a fault
pub draws-of_bytes : (A : Type 0) (lefts rights : List FeedRow) (count : ℕ) (fault : WordFault) (left right : TableFeedState) → ((side row before got : ℕ) → fault ≡ word.Order side row before got → ⊥)
    → AreDrawn (draws_in_all lefts rights count) left right → DrawsAsCertified {A = A} lefts rights count (Err fault) left right
draws-of_bytes A lefts rights count (word.Order side row before got) left right never drawn = absurd (never side row before got refl)
draws-of_bytes A lefts rights count word.Memory left right never drawn = inr drawn
draws-of_bytes A lefts rights count (word.Read file fault) left right never drawn = drawn
draws-of_bytes A lefts rights count word.Write left right never drawn = drawn
draws-of_bytes A lefts rights count (word.Table file fault) left right never drawn = drawn
draws-of_bytes A lefts rights count (word.Range file fault) left right never drawn = drawn
draws-of_bytes A lefts rights count (word.CertTooLong file) left right never drawn = drawn
draws-of_bytes A lefts rights count (word.CertForm place) left right never drawn = drawn

-- what is told of the fault that ended the puts
module _ (left right : TableFeedState) (count : ℕ) (state : FeedJoinState) (old new : Outside (List (List ℕ))) (fault : PairsFault) where
  pub stops-join : (why : JoinFault) → fault ≡ pairs.Join why
      → ((beside : Environment) → PutsPairs left.rows right.rows count (Err fault) state (record beside { out = old }) (record beside { out = new }))
      → (beside : Environment) → StopsAtJoin left.rows right.rows count why state (record beside { out = old }) (record beside { out = new })
  stops-join why is told beside = subst (λ f. PutsPairs left.rows right.rows count (Err f) state (record beside { out = old }) (record beside { out = new })) is (told beside)

  pub stops-put : (why : PutFault) → fault ≡ pairs.Put why
      → ((beside : Environment) → PutsPairs left.rows right.rows count (Err fault) state (record beside { out = old }) (record beside { out = new }))
      → (beside : Environment) → StopsAtPut left.rows right.rows count why state (record beside { out = old }) (record beside { out = new })
  stops-put why is told beside = subst (λ f. PutsPairs left.rows right.rows count (Err f) state (record beside { out = old }) (record beside { out = new })) is (told beside)
