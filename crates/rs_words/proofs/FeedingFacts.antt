-- The run over the pairs of two feeds of tables, by what was put and drawn.
use Rattle.std.proofs.Common.{ℕ, zero, suc, ◌≡◌, ◌∙◌, ◌⊎◌, inl, inr, ◌++◌, ◌-◌, ◌<◌, ◌≤◌, nat_lt, min, Bool, true, false, List, [], ◌∷◌, length, map, slice_get, Some, None, Result, Ok, Err, refl, sym, ap, subst, append_assoc, arith}
use Rattle.std.proofs.lemmas.List.{map-append}
use Rattle.rs_feed.specs.declared.feed_row.FeedRow.{FeedRow}
use Rattle.rs_feed_join.specs.declared.fault.JoinFault.{JoinFault}
use Rattle.rs_feed_join.specs.declared.feed_pair.FeedPair.{FeedPair}
use Rattle.rs_feed_join.specs.Answers.{asks_of_cuts, next_answer}
use Rattle.rs_feed_join.specs.Cuts.{cut}
use Rattle.rs_feed_join.specs.Joins.{FeedJoinState}
use Rattle.rs_feed_join.specs.Ranked.{asks_of_rows}
use Rattle.rs_order.specs.Schedule.{Left, Right, SideAsk, asked}
use Rattle.rs_events.specs.Environment.{Environment}
use Rattle.rs_events.specs.Events.{Event, Put}
use Rattle.rs_events.specs.Run.{Run, behind, fails, lines_run}
use Rattle.rs_events.specs.Running.{HasDone, Ran}
use Rattle.rs_events.proofs.RanFacts.{HasDone-none, Ran-all, Ran-behind, Ran-first, Ran-longer}
use Rattle.rs_words.specs.declared.fault.PutFault.{PutFault}
use Rattle.rs_words.specs.declared.fault.WordFault.{WordFault}
use Rattle.rs_words.specs.declared.fault.WordFault.TheVariants.{Memory}
use Rattle.rs_words.specs.Faults.{put_fault, put_faults}
use Rattle.rs_words.specs.Feeding.{call_run, draws_run, run_behind, pairs_run}
use Rattle.rs_words.specs.Joining.{IsOfTables, fault_of, join_fault}
use Rattle.rs_words.specs.Lines.{draws_line, pair_line}
use Rattle.rs_words.specs.Putting.{AreAnswered, AreOut, PutsAll, StopsAtJoin, StopsAtPut, draws_in_all, first_lines, line_at, pairs_of}
use Rattle.rs_words.proofs.CallFacts.{call-fails, fault-told}
use Rattle.rs_words.proofs.DrawingFacts.{put-told}
use Rattle.rs_words.proofs.PuttingFacts.{get-behind, less-is, less-not, some-pair}

-- the two cases of the definition
pub pairs-none : (lefts rights : List FeedRow) (n : ℕ) → run_behind lefts rights n zero ≡ draws_run (asks_of_rows (cut lefts) (cut rights) n)
unfolding run_behind
pairs-none lefts rights n = refl

pub pairs-more : (lefts rights : List FeedRow) (n more : ℕ) → run_behind lefts rights n (suc more) ≡ call_run lefts rights n (next_answer lefts rights n) (run_behind lefts rights (suc n) more)
unfolding run_behind
pairs-more lefts rights n more = refl

-- of a run these events were done, and this run is left
pub record IsDoneUpTo (whole left : Run WordFault) (old new : Environment) : Type 0 where
  pub made : List Event
  pub is : whole ≡ behind made left
  pub has : HasDone made old new

-- what was left was done
pub up-to-ends : (whole left : Run WordFault) (result : Result (Unit {0}) WordFault) (old middle new : Environment) → IsDoneUpTo whole left old middle → Ran put_faults left result middle new
    → Ran put_faults whole result old new
up-to-ends whole left result old middle new done ran =
    subst (λ run. Ran put_faults run result old new) (sym done.is) (Ran-behind done.made left result old middle new done.has ran)

module _ (lefts rights : List FeedRow) (n : ℕ) (whole : Run WordFault) (old middle new : Environment) where
  -- there was no pair more, and the line of the draws was put
  pub up-to-end : (more : ℕ) (result : Result (Unit {0}) WordFault) → next_answer lefts rights n ≡ Ok None → IsDoneUpTo whole (run_behind lefts rights n (suc more)) old middle
      → Ran put_faults (draws_run (asks_of_cuts lefts rights n)) result middle new → Ran put_faults whole result old new
  up-to-end more result answer done ran =
      up-to-ends whole (run_behind lefts rights n (suc more)) result old middle new done
      (subst (λ run. Ran put_faults run result middle new) (sym (pairs-more lefts rights n more ∙ ap (λ a. call_run lefts rights n a (run_behind lefts rights (suc n) more)) answer)) ran)

  -- the call ended with a fault
  pub up-to-fault : (more : ℕ) (fault : WordFault) → IsDoneUpTo whole (run_behind lefts rights n (suc more)) old middle
      → ((rest : Run WordFault) → Ran put_faults (call_run lefts rights n (next_answer lefts rights n) rest) (Err fault) middle new) → Ran put_faults whole (Err fault) old new
  up-to-fault more fault done ran =
      up-to-ends whole (run_behind lefts rights n (suc more)) (Err fault) old middle new done
      (subst (λ run. Ran put_faults run (Err fault) middle new) (sym (pairs-more lefts rights n more)) (ran (run_behind lefts rights (suc n) more)))

-- all that were wanted were put, and then the line of the draws
pub all-put : (lefts rights : List FeedRow) (count place : ℕ) (result : Result (Unit {0}) WordFault) (old middle new : Environment) → place ≡ count
    → IsDoneUpTo (pairs_run lefts rights count) (run_behind lefts rights place (count - place)) old middle
    → Ran put_faults (draws_run (asks_of_rows (cut lefts) (cut rights) place)) result middle new → Ran put_faults (pairs_run lefts rights count) result old new
all-put lefts rights count place result old middle new all done ran =
    let none : count - place ≡ 0 = omega arith in
    up-to-ends (pairs_run lefts rights count) (run_behind lefts rights place (count - place)) result old middle new done
    (subst (λ run. Ran put_faults run result middle new) (sym (ap (run_behind lefts rights place) none ∙ pairs-none lefts rights place)) ran)

-- a call of the join that answers a fault, and one whose pair isn't put
module _ (lefts rights : List FeedRow) (n : ℕ) where
  pub call-broken : (fault : WordFault) (more : Run WordFault) (at : Environment) → (fault ≡ Memory) ⊎ (fault_of (next_answer lefts rights n) ≡ Some fault)
      → Ran put_faults (call_run lefts rights n (next_answer lefts rights n) more) (Err fault) at at
  call-broken fault more at (inl e) =
      subst (λ f. Ran put_faults (call_run lefts rights n (next_answer lefts rights n) more) (Err f) at at) (sym e) (Ran-first (call_run lefts rights n (next_answer lefts rights n) more) at)
  call-broken fault more at (inr e) =
      subst (λ run. Ran put_faults run (Err fault) at at) (sym (call-fails lefts rights n (next_answer lefts rights n) more fault e))
      (Ran-all (fails fault) (Err fault) at at (HasDone-none at) (inl refl))

  pub put-broken : (pair : FeedPair) (old new : Environment) (fault : WordFault) (more : Run WordFault) → next_answer lefts rights n ≡ Ok (Some pair)
      → Ran put_faults (lines_run (pair_line (suc n) pair ∷ [])) (Err fault) old new → Ran put_faults (call_run lefts rights n (next_answer lefts rights n) more) (Err fault) old new
  put-broken pair old new fault more answer ran =
      subst (λ a. Ran put_faults (call_run lefts rights n a more) (Err fault) old new) (sym answer) (Ran-longer (Put (pair_line (suc n) pair) ∷ []) more fault old new ran)

-- the run behind n pairs, of as many as are wanted, that come without a fault
module _ (lefts rights : List FeedRow) where
  one-more : (n more : ℕ) (pair : FeedPair) → slice_get (pairs_of lefts rights) n ≡ Some pair → next_answer lefts rights n ≡ Ok (Some pair)
      → behind (map Put (first_lines (pairs_of lefts rights) n)) (run_behind lefts rights n (suc more))
      ≡ behind (map Put (first_lines (pairs_of lefts rights) (suc n))) (run_behind lefts rights (suc n) more)
  one-more n more pair at answer =
      let rest = run_behind lefts rights (suc n) more in
      let lines = first_lines (pairs_of lefts rights) n in
      let line = pair_line (suc n) pair in
      ap (behind (map Put lines)) (pairs-more lefts rights n more ∙ ap (λ a. call_run lefts rights n a rest) answer)
      ∙ ap (λ (events : List Event). record { events = events; fault = rest.fault }) (sym (append_assoc (map Put lines) (Put line ∷ []) rest.events))
      ∙ ap (λ (events : List Event). behind events rest) (sym (map-append Put lines (line ∷ [])))
      ∙ ap (λ o. behind (map Put (lines ++ line_at (suc n) o)) rest) (sym at)

  run-from : (count n : ℕ) → n ≤ count → n ≤ length (pairs_of lefts rights) → AreAnswered lefts rights n
      → pairs_run lefts rights count ≡ behind (map Put (first_lines (pairs_of lefts rights) n)) (run_behind lefts rights n (count - n))
  run-from count zero within gave answered = let all : count ≡ count - 0 = omega arith in ap (run_behind lefts rights 0) all
  run-from count (suc n) within gave answered =
      let found = some-pair (pairs_of lefts rights) n (omega (arith, gave)) in
      let left : count - n ≡ suc (count - suc n) = omega (arith, within) in
      run-from count n (omega (arith, within)) (omega (arith, gave)) (λ i h. answered i (omega (arith, h)))
      ∙ ap (λ m. behind (map Put (first_lines (pairs_of lefts rights) n)) (run_behind lefts rights n m)) left
      ∙ one-more n (count - suc n) found.0 found.1 (answered n (omega arith) ∙ ap Ok found.1)

  module _ (count : ℕ) (old : Environment) where
    done-at : (n : ℕ) (middle : Environment) → n ≤ count → AreOut lefts rights n old middle → IsDoneUpTo (pairs_run lefts rights count) (run_behind lefts rights n (count - n)) old middle
    done-at n middle within out = record { made = map Put (first_lines (pairs_of lefts rights) n); is = run-from count n within out.within out.answered; has = out.lines }

    here : (n : ℕ) (middle : Environment) → n < count → AreOut lefts rights n old middle → IsDoneUpTo (pairs_run lefts rights count) (run_behind lefts rights n (suc (count - suc n))) old middle
    here n middle within out =
        let left : count - n ≡ suc (count - suc n) = omega (arith, within) in
        subst (λ m. IsDoneUpTo (pairs_run lefts rights count) (run_behind lefts rights n m) old middle) left (done-at n middle (omega (arith, within)) out)

    -- a call of the join ended it
    pub run-stopped : (why : JoinFault) (state : FeedJoinState) (new : Environment) → IsOfTables why → StopsAtJoin lefts rights count why state old new → Ran put_faults (pairs_run lefts rights count) (Err (join_fault why)) old new
    run-stopped why state new of stops =
        up-to-fault lefts rights stops.n (pairs_run lefts rights count) old new new (count - suc stops.n) (join_fault why) (here stops.n new stops.within stops.out)
        (λ rest. call-broken lefts rights stops.n (join_fault why) rest new (fault-told lefts rights stops.n state.left state.right why of stops.next))

    -- a put ended it
    pub run-unput : (why : PutFault) (state : FeedJoinState) (new : Environment) → StopsAtPut lefts rights count why state old new → Ran put_faults (pairs_run lefts rights count) (Err (put_fault why)) old new
    run-unput why state new stops =
        up-to-fault lefts rights stops.n (pairs_run lefts rights count) old stops.middle new (count - suc stops.n) (put_fault why) (here stops.n stops.middle stops.within stops.out)
        (λ rest. put-broken lefts rights stops.n stops.pair stops.middle new (put_fault why) rest stops.next (put-told (pair_line (suc stops.n) stops.pair) why stops.middle new stops.put))

    -- the line of the draws ended it
    pub run-ended : (result : Result (Unit {0}) WordFault) (state : FeedJoinState) (middle new : Environment) → PutsAll lefts rights count state old middle
        → Ran put_faults (draws_run (draws_in_all lefts rights count)) result middle new → Ran put_faults (pairs_run lefts rights count) result old new
    run-ended result state middle new puts ran = go (nat_lt (length pairs) count) refl where
      pairs : List FeedPair
      pairs = pairs_of lefts rights

      go : (fewer : Bool) → nat_lt (length pairs) count ≡ fewer → Ran put_faults (pairs_run lefts rights count) result old new
      go false is =
          let most = less-not (length pairs) count is in
          let wanted : min count (suc (length pairs)) ≡ count = omega (arith, most) in
          let lines : min count (length pairs) ≡ count = omega (arith, most) in
          all-put lefts rights count count result old middle new refl
          (done-at count middle (omega arith) (record {
            within = most;
            answered = subst (AreAnswered lefts rights) wanted puts.answered;
            lines = subst (λ m. HasDone (map Put (first_lines pairs m)) old middle) lines puts.lines;
          }))
          (subst (λ m. Ran put_faults (draws_run (asks_of_rows (cut lefts) (cut rights) m)) result middle new) wanted ran)
      go true is =
          let few = less-is (length pairs) count is in
          let wanted : min count (suc (length pairs)) ≡ suc (length pairs) = omega (arith, few) in
          let lines : min count (length pairs) ≡ length pairs = omega (arith, few) in
          let answered = subst (AreAnswered lefts rights) wanted puts.answered in
          up-to-end lefts rights (length pairs) (pairs_run lefts rights count) old middle new (count - suc (length pairs)) result
          (answered (length pairs) (omega arith) ∙ ap Ok (get-behind pairs))
          (here (length pairs) middle few (record {
            within = omega arith;
            answered = λ i h. answered i (omega (arith, h));
            lines = subst (λ m. HasDone (map Put (first_lines pairs m)) old middle) lines puts.lines;
          }))
          (subst (λ m. Ran put_faults (draws_run (asks_of_rows (cut lefts) (cut rights) m)) result middle new) wanted ran)

-- the line of the draws of both feeds
pub draws-line : (asks : List SideAsk) (left right l r : ℕ) (result : Result (Unit {0}) WordFault) (old new : Environment) → l ≡ left → r ≡ right → left ≡ asked Left asks → right ≡ asked Right asks
    → Ran put_faults (lines_run (draws_line l r ∷ [])) result old new → Ran put_faults (draws_run asks) result old new
draws-line asks left right l r result old new l_is r_is left_is right_is ran =
    subst (λ n. Ran put_faults (lines_run (draws_line n (asked Right asks) ∷ [])) result old new) (l_is ∙ left_is)
    (subst (λ n. Ran put_faults (lines_run (draws_line l n ∷ [])) result old new) (r_is ∙ right_is) ran)
