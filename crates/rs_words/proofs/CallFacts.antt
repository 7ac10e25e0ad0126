-- What follows of a call of the join of two feeds of tables.
use Rattle.std.proofs.Common.{ℕ, ◌≡◌, ◌∙◌, ◌≤◌, ◌⊎◌, Bool, true, false, cond, List, [], ◌∷◌, find, length, Option, Some, None, Result, Ok, Err, refl, sym, ap, subst, inl, inr, arith}
use Rattle.std.specs.Prelude.{option_map}
use Rattle.rs_feed.specs.declared.feed_row.FeedRow.{FeedRow}
use Rattle.rs_feed_join.specs.declared.fault.JoinFault.{JoinFault}
use Rattle.rs_feed_join.specs.declared.fault.JoinFault.TheVariants as join
use Rattle.rs_feed_join.specs.declared.feed_pair.FeedPair.{FeedPair}
use Rattle.rs_feed_join.specs.Answers.{Answers, Fails, HasDrawn, HasToldRefused, IsNext, answer_by, asks_of_cuts, is_refused, next_answer, number_of, up_to}
use Rattle.rs_table_feed.specs.TableFeeds.{TableFeedState, table_feed_state}
use Rattle.rs_feed_join.specs.Cuts.{HaveScores, most_rows}
use Rattle.rs_feed_join.specs.Joins.{FeedJoinState, IsRefusal, side_in}
use Rattle.rs_feed_join.specs.Sides.{FeedSide, IsDrawnOf, new_side}
use Rattle.rs_order.specs.Last.{last_of}
use Rattle.rs_order.specs.Schedule.{JoinSide, Left, Right, SideAsk, asked}
use Rattle.rs_events.specs.Run.{Run, fails}
use Rattle.rs_words.specs.declared.fault.WordFault.{WordFault}
use Rattle.rs_words.specs.declared.fault.WordFault.TheVariants.{Memory}
use Rattle.rs_words.specs.Feeding.{call_run}
use Rattle.rs_words.specs.Gathering.{StopsShort}
use Rattle.rs_words.specs.Joining.{IsDrawnOfTable, IsJoining, IsOfTables, IsUndrawn, JoinLeaves, fault_of, join_fault}

-- where no item passes, all come
up_to-all : {X : Type 0} (passes : X → Bool) (xs : List X) → find passes xs ≡ None → up_to passes xs ≡ xs
up_to-all passes [] e = refl
up_to-all passes (x ∷ xs) e = go (passes x) e (λ none. up_to-all passes xs none) where
  go : (b : Bool) → cond b (Some x) (find passes xs) ≡ None → (find passes xs ≡ None → up_to passes xs ≡ xs) → cond b (x ∷ []) (x ∷ up_to passes xs) ≡ x ∷ xs
  go true e rest = absurd cc
  go false e rest = ap (λ ys. x ∷ ys) (rest e)

unrefused : (lefts rights : List FeedRow) (n : ℕ) (pair : Option FeedPair) (ask : Option SideAsk) → Ok pair ≡ answer_by lefts rights n ask → ask ≡ None
unrefused lefts rights n pair None e = refl
unrefused lefts rights n pair (Some ask) e = absurd cc

-- a call that answers without a fault made all asks that its answer takes
pub all-drawn : (lefts rights : List FeedRow) (n : ℕ) (left right : FeedSide) (pair : Option FeedPair) → Answers lefts rights n left right (Ok pair) → HasDrawn (asks_of_cuts lefts rights n) left right
all-drawn lefts rights n left right pair answers =
    let none = unrefused lefts rights n pair (find (is_refused lefts rights) (asks_of_cuts lefts rights n)) answers.answer in
    let all = up_to-all (is_refused lefts rights) (asks_of_cuts lefts rights n) none in
    record { left_draws = answers.drawn.left_draws ∙ ap (asked Left) all; right_draws = answers.drawn.right_draws ∙ ap (asked Right) all }

-- a side is 1 or 2 where a draw of it failed
failed-side : (lefts rights : List FeedRow) (n side : ℕ) (left right : FeedSide) → Fails lefts rights n side left right → (side ≡ 1) ⊎ (side ≡ 2)
failed-side lefts rights n side left right fails = go (last_of fails.breaks.made) fails.last where
  of-side : (s : JoinSide) → number_of s ≡ side → (side ≡ 1) ⊎ (side ≡ 2)
  of-side Left e = inl (sym e)
  of-side Right e = inr (sym e)

  go : (last : Option SideAsk) → option_map (λ (ask : SideAsk). number_of ask.side) last ≡ Some side → (side ≡ 1) ⊎ (side ≡ 2)
  go None e = absurd cc
  go (Some ask) e = of-side ask.side cc

-- a table is never too long
module _ (lefts rights : List FeedRow) (few : length lefts ≤ most_rows) (few_others : length rights ≤ most_rows) (state : FeedJoinState) where
  not-too-long : (side : ℕ) → IsRefusal state (Err (join.TooLong side)) → HasToldRefused 1 (Some lefts) state.left (Err (join.TooLong side)) → HasToldRefused 2 (Some rights) state.right (Err (join.TooLong side)) → ⊥
  not-too-long side refused left right = elim refused.0 [
    | inl e ↦ let all : length state.left.rows ≡ most_rows = subst (λ s. length (side_in s state).rows ≡ most_rows) e refused.2 in
        let more = left lefts refl e in omega (arith, all, more, few)
    | inr e ↦ let all : length state.right.rows ≡ most_rows = subst (λ s. length (side_in s state).rows ≡ most_rows) e refused.2 in
        let more = right rights refl e in omega (arith, all, more, few_others)
  ]

  pub of-tables : (n : ℕ) (why : JoinFault) → IsNext lefts rights n state.left state.right (Err why) → IsRefusal state (Err why)
      → HasToldRefused 1 (Some lefts) state.left (Err why) → HasToldRefused 2 (Some rights) state.right (Err why)
      → (why ≡ join.Broken → ⊥) → (why ≡ join.Failed 1 → ⊥) → (why ≡ join.Failed 2 → ⊥) → IsOfTables why
  of-tables n (join.OutOfOrder side row before got) next refused left right unbroken one two = tt
  of-tables n (join.TooLong side) next refused left right unbroken one two = not-too-long side refused left right
  of-tables n (join.Failed side) next refused left right unbroken one two =
      elim (failed-side lefts rights n side state.left state.right next) [ inl e ↦ one (ap join.Failed e) | inr e ↦ two (ap join.Failed e) ]
  of-tables n join.Memory next refused left right unbroken one two = tt
  of-tables n join.Broken next refused left right unbroken one two = unbroken refl

-- the fault of a call is that of its answer, but for want of memory
pub fault-told : (lefts rights : List FeedRow) (n : ℕ) (left right : FeedSide) (why : JoinFault) → IsOfTables why → IsNext lefts rights n left right (Err why)
    → (join_fault why ≡ Memory) ⊎ (fault_of (next_answer lefts rights n) ≡ Some (join_fault why))
fault-told lefts rights n left right (join.OutOfOrder side row before got) of next = inr (ap fault_of (sym next.answer))
fault-told lefts rights n left right (join.TooLong side) of next = absurd of
fault-told lefts rights n left right (join.Failed side) of next = absurd of
fault-told lefts rights n left right join.Memory of next = inl refl
fault-told lefts rights n left right join.Broken of next = absurd of

-- a fault ends the run
pub call-fails : (lefts rights : List FeedRow) (n : ℕ) (answer : Result (Option FeedPair) JoinFault) (more : Run WordFault) (fault : WordFault) → fault_of answer ≡ Some fault
    → call_run lefts rights n answer more ≡ fails fault
call-fails lefts rights n (Ok pair) more fault e = absurd cc
call-fails lefts rights n (Err why) more fault e = ap fails (let same : join_fault why ≡ fault = cc in same)

-- a feed keeps its rows, and stays drawn by the join
pub rows-kept : (before after : List FeedRow) → ◌≡◌ {A = Option (List FeedRow)} (Some after) (Some before) → after ≡ before
rows-kept before after e = cc

-- two feeds of tables of which nothing is drawn, and what calls of a join leave of them
module _ (left right left_after right_after : TableFeedState) (left_is : IsUndrawn left) (right_is : IsUndrawn right) (state : FeedJoinState) (last : Result (Option FeedPair) JoinFault)
    (leaves : JoinLeaves state (table_feed_state left) (table_feed_state left_after) (table_feed_state right) (table_feed_state right_after) last) where
  pub of-leaves : (n : ℕ) (why : JoinFault) → last ≡ Err why → IsNext left.rows right.rows n state.left state.right (Err why) → IsOfTables why
  of-leaves n why is next =
      of-tables left.rows right.rows left_is.few right_is.few state n why next (subst (IsRefusal state) is leaves.refused) (subst (HasToldRefused 1 (Some left.rows) state.left) is leaves.left_refused)
      (subst (HasToldRefused 2 (Some right.rows) state.right) is leaves.right_refused)
      (λ e. leaves.unbroken (is ∙ ap Err e)) (λ e. (leaves.left_counts.sure refl).1 (is ∙ ap Err e)) (λ e. (leaves.right_counts.sure refl).1 (is ∙ ap Err e))

  pub of-short : (count : ℕ) (why : JoinFault) → last ≡ Err why → StopsShort left.rows right.rows count why state → IsOfTables why
  of-short count why is (inl stops) = of-leaves stops.n why is stops.next
  of-short count why is (inr short) = subst IsOfTables (sym short.0) tt

  pub joining-after : state.broken ≡ false → IsJoining state left_after right_after
  joining-after whole = record {
    unbroken = whole;
    left_feed = after left left_after state.left left_is leaves.left_drawn leaves.left_told;
    right_feed = after right right_after state.right right_is leaves.right_drawn leaves.right_told;
  } where
    after : (old new : TableFeedState) (side : FeedSide) → IsUndrawn old → IsDrawnOf state.broken (table_feed_state new) side → ◌≡◌ {A = Option (List FeedRow)} (Some new.rows) (Some old.rows) → IsDrawnOfTable new side
    after old new side is drawn told =
        let same = rows-kept old.rows new.rows told in record {
          drawn = subst (λ b. IsDrawnOf b (table_feed_state new) side) whole drawn;
          scores = subst (λ rows. HaveScores rows) (sym same) is.scores;
          few = subst (λ rows. length rows ≤ most_rows) (sym same) is.few;
        }

-- a feed of a table of which nothing is drawn
pub undrawn : (feed : TableFeedState) (broken : Bool) → IsUndrawn feed → IsDrawnOf broken (table_feed_state feed) new_side
undrawn feed broken is = record {
  draws = ap (λ (f : TableFeedState). f.draws) is.new;
  given = λ _. ap (λ (f : TableFeedState). f.given) is.new;
  rows = refl;
  ended = λ e. absurd cc;
}
