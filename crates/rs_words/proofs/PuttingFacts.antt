-- What calls of a join leave, one behind another, and the pairs that are put as they come.
use Rattle.std.proofs.Common.{ℕ, zero, suc, append-nil, ◌≡◌, ◌∙◌, ◌+◌, ◌<◌, ◌≤◌, ◌⊎◌, ◌++◌, nat_lt, inl, inr, min, Bool, true, false, List, [], ◌∷◌, length, map, drop, find, is_err, slice_get, Option, Some, None, Result, Ok, Err, refl, sym, ap, subst, arith}
use Rattle.std.proofs.lemmas.Bool.Decides.{nat_tests}
use Rattle.std.proofs.lemmas.List.{map-append}
use Rattle.rs_feed.specs.declared.feed_row.FeedRow.{FeedRow}
use Rattle.rs_feed.specs.Feeds.{FeedState}
use Rattle.rs_feed_join.specs.declared.fault.JoinFault.{JoinFault}
use Rattle.rs_feed_join.specs.declared.fault.JoinFault.TheVariants as join
use Rattle.rs_feed_join.specs.declared.feed_pair.FeedPair.{FeedPair}
use Rattle.rs_feed_join.specs.Answers.{HasDrawn, HasToldRefused, IsNext, MayBe, answer_by, asks_of_cuts, is_refused, next_answer}
use Rattle.rs_feed_join.specs.Cuts.{HaveScores, cut}
use Rattle.rs_feed_join.specs.Joins.{FeedJoinState, IsAfter, IsKept, IsRefusal, new_feed_join}
use Rattle.rs_feed_join.specs.Parts.{new_parts}
use Rattle.rs_feed_join.specs.Ranked.{asks_of_rows}
use Rattle.rs_feed_join.specs.Sides.{FeedSide, IsCounted, IsDrawnOf}
use Rattle.rs_feed_join.proofs.AnswerFacts.{get-length}
use Rattle.rs_feed_join.proofs.CallFacts.{counts-from}
use Rattle.rs_feed_join.proofs.KeptFacts.{is-kept}
use Rattle.rs_feed_join.proofs.NextFacts.{may-tell}
use Rattle.rs_feed_join.proofs.RowFacts.{split}
use Rattle.rs_feed_join.proofs.StandFacts.{begins-front, new-stands-at}
use Rattle.rs_feed_join.proofs.TurnFacts.{counts-none, counts-then}
use Rattle.rs_order.specs.Schedule.{SideAsk}
use Rattle.rs_ripple.specs.Stands.{BeginsWith}
use Rattle.rs_ripple.proofs.LawFacts.{slice_get_none}
use Rattle.rs_events.specs.Environment.{Environment}
use Rattle.rs_events.specs.Events.{Event, Put}
use Rattle.rs_events.specs.Run.{lines_run}
use Rattle.rs_events.specs.Running.{HasDone, Ran}
use Rattle.rs_events.proofs.RanFacts.{HasDone-append, HasDone-none, Ran-done}
use Rattle.rs_words.specs.declared.fault.PairsFault.{PairsFault}
use Rattle.rs_words.specs.declared.fault.PairsFault.TheVariants as pairs
use Rattle.rs_words.specs.declared.fault.PutFault.{PutFault}
use Rattle.rs_words.specs.Joining.{JoinLeaves}
use Rattle.rs_words.specs.Lines.{pair_line}
use Rattle.rs_words.specs.Putting.{AreAnswered, AreOut, BreaksAtPut, IsAfterPut, PutsAll, PutsNext, PutsNone, PutsOne, PutsPairs, StopsAtJoin, StopsAtPut, call_before, draws_in_all, first_lines, line_at, pair_faults, pairs_of}
use Rattle.rs_words.proofs.CallFacts.{all-drawn}

-- a call that went well
abbrev pub went_well : Result (Option FeedPair) JoinFault
went_well = Ok None

abbrev pub ended_by : JoinFault → Result (Option FeedPair) JoinFault
ended_by why = Err why

-- what a call leaves of both sides
pub record Grown (old new : FeedJoinState) : Type 0 where
  pub left_grows : BeginsWith new.left.rows old.left.rows
  pub right_grows : BeginsWith new.right.rows old.right.rows
  pub left_over : old.left.ended ≡ true → new.left ≡ old.left
  pub right_over : old.right.ended ≡ true → new.right ≡ old.right

pub after-grown : (old new : FeedJoinState) (answer : Result (Option FeedPair) JoinFault) → IsAfter old new answer → Grown old new
after-grown old new answer after = record { left_grows = after.left_grows; right_grows = after.right_grows; left_over = after.left_over; right_over = after.right_over }

pub after-put : (old new : FeedJoinState) (result : Result Bool PairsFault) → IsAfterPut old new result → Grown old new
after-put old new (Ok true) after = after-grown old new (Ok (Some after.0)) after.1
after-put old new (Ok false) after = after-grown old new (Ok None) after
after-put old new (Err (pairs.Join why)) after = after-grown old new (Err why) after
after-put old new (Err (pairs.Put why)) after = after-grown old new (Ok (Some after.0)) after.1

-- rows that a feed may have behind a call are rows that it may have before it
pub may-before : (number : ℕ) (rows : List FeedRow) (old new : FeedSide) (last : Result (Option FeedPair) JoinFault) → BeginsWith new.rows old.rows → (old.ended ≡ true → new ≡ old) → MayBe number rows new last
    → MayBe number rows old went_well
may-before number rows old new last grows over may = record {
  scores = may.scores;
  begins = begins-front rows old.rows (drop (length old.rows) new.rows) (subst (BeginsWith rows) (split new.rows old.rows grows) may.begins);
  ends = λ e. may.ends (ap (λ (side : FeedSide). side.ended) (over e) ∙ e) ∙ ap (λ (side : FeedSide). side.rows) (over e);
  refused = tt;
}

-- where a call went well it is of no matter what it answered
pub may-well : (number : ℕ) (rows : List FeedRow) (side : FeedSide) (pair : Option FeedPair) → MayBe number rows side went_well → MayBe number rows side (Ok pair)
may-well number rows side pair may = record { scores = may.scores; begins = may.begins; ends = may.ends; refused = tt }

pub may-short : (number : ℕ) (rows : List FeedRow) (side : FeedSide) → MayBe number rows side (ended_by join.Memory) → MayBe number rows side went_well
may-short number rows side may = record { scores = may.scores; begins = may.begins; ends = may.ends; refused = tt }

-- nothing is drawn yet
new-kept : IsKept new_feed_join
new-kept = is-kept [] new_parts new-stands-at

pub leaves-none : (state : FeedJoinState) (left right : FeedState) → state ≡ new_feed_join → IsDrawnOf state.broken left state.left → IsDrawnOf state.broken right state.right → JoinLeaves state left left right right went_well
leaves-none state left right is left_drawn right_drawn = record {
  refused = tt;
  left_refused = λ rows told. tt;
  right_refused = λ rows told. tt;
  unbroken = λ e. absurd cc;
  kept = subst IsKept (sym is) new-kept;
  counted = λ e. (subst (λ (s : FeedJoinState). IsCounted s.left) (sym is) refl, subst (λ (s : FeedJoinState). IsCounted s.right) (sym is) refl);
  left_drawn = left_drawn;
  right_drawn = right_drawn;
  left_told = refl;
  right_told = refl;
  left_counts = counts-from left.outside left.outside (counts-none left.outside) (λ e. absurd cc);
  right_counts = counts-from right.outside right.outside (counts-none right.outside) (λ e. absurd cc);
}

-- a call behind others that went well
pub leaves-then : (old new : FeedJoinState) (l0 l1 l2 r0 r1 r2 : FeedState) (last : Result (Option FeedPair) JoinFault) → JoinLeaves old l0 l1 r0 r1 went_well → JoinLeaves new l1 l2 r1 r2 last → JoinLeaves new l0 l2 r0 r2 last
leaves-then old new l0 l1 l2 r0 r1 r2 last a b = record {
  refused = b.refused;
  left_refused = subst (λ told. HasToldRefused 1 told new.left last) a.left_told b.left_refused;
  right_refused = subst (λ told. HasToldRefused 2 told new.right last) a.right_told b.right_refused;
  unbroken = b.unbroken;
  kept = b.kept;
  counted = b.counted;
  left_drawn = b.left_drawn;
  right_drawn = b.right_drawn;
  left_told = b.left_told ∙ a.left_told;
  right_told = b.right_told ∙ a.right_told;
  left_counts = counts-then l0.outside l1.outside l2.outside (counts-from l0.outside l1.outside a.left_counts (λ (none : ⊥). absurd none)) b.left_counts (λ e. e);
  right_counts = counts-then r0.outside r1.outside r2.outside (counts-from r0.outside r1.outside a.right_counts (λ (none : ⊥). absurd none)) b.right_counts (λ e. e);
}

-- a call that went well, whatever it answered, also where there was no memory behind it
module _ (state : FeedJoinState) (l0 l1 r0 r1 : FeedState) (pair : Option FeedPair) (well : JoinLeaves state l0 l1 r0 r1 (Ok pair)) where
  leaves-as : (last : Result (Option FeedPair) JoinFault) → IsRefusal state last → HasToldRefused 1 l0.outside.told state.left last → HasToldRefused 2 r0.outside.told state.right last
      → ((why : JoinFault) → last ≡ Err why → why ≡ join.Memory) → JoinLeaves state l0 l1 r0 r1 last
  leaves-as last refused left_refused right_refused only = record {
    refused = refused;
    left_refused = left_refused;
    right_refused = right_refused;
    unbroken = λ e. absurd (let is = only join.Broken e in cc);
    kept = well.kept;
    counted = well.counted;
    left_drawn = well.left_drawn;
    right_drawn = well.right_drawn;
    left_told = well.left_told;
    right_told = well.right_told;
    left_counts = counts-from l0.outside l1.outside well.left_counts (λ e. absurd (let is = only (join.Failed 1) e in cc));
    right_counts = counts-from r0.outside r1.outside well.right_counts (λ e. absurd (let is = only (join.Failed 2) e in cc));
  }

  pub leaves-well : JoinLeaves state l0 l1 r0 r1 went_well
  leaves-well = leaves-as went_well tt (λ rows told. tt) (λ rows told. tt) (λ why e. absurd cc)

  pub leaves-short : JoinLeaves state l0 l1 r0 r1 (ended_by join.Memory)
  leaves-short = leaves-as (ended_by join.Memory) tt (λ rows told. tt) (λ rows told. tt) (λ why e. cc)

-- what is so of all rows that feeds may have is so of those that they tell
pub told-of : (P : List FeedRow → List FeedRow → Type 0) (state : FeedJoinState) (l0 l1 r0 r1 : FeedState) (last : Result (Option FeedPair) JoinFault) → JoinLeaves state l0 l1 r0 r1 last
    → ((lefts rights : List FeedRow) → MayBe 1 lefts state.left last → MayBe 2 rights state.right last → P lefts rights)
    → (lefts rights : List FeedRow) → l0.outside.told ≡ Some lefts → r0.outside.told ≡ Some rights → HaveScores lefts → HaveScores rights → P lefts rights
told-of P state l0 l1 r0 r1 last leaves all lefts rights told telling scores scoring =
    all lefts rights
    (may-tell 1 state.broken l1 state.left last lefts (leaves.left_told ∙ told) scores leaves.left_drawn (leaves.left_refused lefts told))
    (may-tell 2 state.broken r1 state.right last rights (leaves.right_told ∙ telling) scoring leaves.right_drawn (leaves.right_refused rights telling))

-- the items of a list: there is one at each place, and none at its end
pub some-pair : (pairs : List FeedPair) (n : ℕ) → n < length pairs → (pair : FeedPair) × (slice_get pairs n ≡ Some pair)
some-pair pairs n h = go (slice_get pairs n) refl where
  go : (o : Option FeedPair) → slice_get pairs n ≡ o → (pair : FeedPair) × (slice_get pairs n ≡ Some pair)
  go (Some pair) e = (pair, e)
  go None e = absurd (let over = slice_get_none pairs n e in omega (arith, over, h))

pub get-behind : (pairs : List FeedPair) → slice_get pairs (length pairs) ≡ None
get-behind [] = refl
get-behind (pair ∷ pairs) = get-behind pairs

-- an answer that is a pair is the one at its place
last-or : (n i : ℕ) → i < n + 1 → (i < n) ⊎ (i ≡ n)
last-or zero i h = inr (omega (arith, h))
last-or (suc n) zero h = inl (omega arith)
last-or (suc n) (suc i) h = elim (last-or n i (omega (arith, h))) [ inl e ↦ inl (omega (arith, e)) | inr e ↦ inr (ap suc e) ]

not-less : (a b : ℕ) → b ≤ a → nat_lt a b ≡ false
not-less a b h = grind (arith, nat_tests, h)

is-less : (a b : ℕ) → a < b → nat_lt a b ≡ true
is-less a b h = grind (arith, nat_tests, h)

-- and the other way round
pub less-not : (a b : ℕ) → nat_lt a b ≡ false → b ≤ a
less-not a b is = grind (arith, nat_tests, is)

pub less-is : (a b : ℕ) → nat_lt a b ≡ true → a < b
less-is a b is = grind (arith, nat_tests, is)

module _ (lefts rights : List FeedRow) (n : ℕ) where
  answer-at : (given : Option FeedPair) (ask : Option SideAsk) → answer_by lefts rights n ask ≡ Ok given → slice_get (pairs_of lefts rights) n ≡ given
  answer-at given None e = same e where
    same : {x y : Option FeedPair} → ◌≡◌ {A = Result (Option FeedPair) JoinFault} (Ok x) (Ok y) → x ≡ y
    same e = cc
  answer-at given (Some ask) e = absurd cc

  pub answer-pair : (given : Option FeedPair) → next_answer lefts rights n ≡ Ok given → slice_get (pairs_of lefts rights) n ≡ given
  answer-pair given = answer-at given (find (is_refused lefts rights) (asks_of_cuts lefts rights n))

  -- a pair that was given is one of all
  pub gave-next : (pair : FeedPair) → next_answer lefts rights n ≡ Ok (Some pair) → n + 1 ≤ length (pairs_of lefts rights)
  gave-next pair answer = let more = get-length (pairs_of lefts rights) n pair (answer-pair (Some pair) answer) in omega arith

  -- where none was given all were
  pub gave-all : next_answer lefts rights n ≡ Ok None → length (pairs_of lefts rights) ≤ n
  gave-all answer = slice_get_none (pairs_of lefts rights) n (answer-pair None answer)

  -- one call more
  pub answered-next : (given : Option FeedPair) → AreAnswered lefts rights n → next_answer lefts rights n ≡ Ok given → AreAnswered lefts rights (n + 1)
  answered-next given before answer = λ i h. elim (last-or n i h) [
    | inl e ↦ before i e
    | inr e ↦ subst (λ m. next_answer lefts rights m ≡ Ok (slice_get (pairs_of lefts rights) m)) (sym e) (answer ∙ ap Ok (sym (answer-pair given answer)))
  ]

  pub drawn-next : (left right : FeedSide) → HasDrawn (asks_of_cuts lefts rights n) left right → HasDrawn (asks_of_rows (cut lefts) (cut rights) (n + 1)) left right
  drawn-next left right drawn =
      let next : suc n ≡ n + 1 = omega arith in
      subst (λ n. HasDrawn (asks_of_rows (cut lefts) (cut rights) n) left right) next drawn

  -- where n pairs were given, of as many as are wanted
  module _ (count : ℕ) (gave : n ≤ length (pairs_of lefts rights)) (answered : AreAnswered lefts rights n) (left right : FeedSide) where
    -- the draws for as many as were wanted
    pub wanted-all : n ≡ count → n ≡ min count (suc (length (pairs_of lefts rights)))
    wanted-all all = omega arith

    pub lines-all : n ≡ count → n ≡ min count (length (pairs_of lefts rights))
    lines-all all = omega arith

    pub answered-all : n ≡ count → AreAnswered lefts rights (min count (suc (length (pairs_of lefts rights))))
    answered-all all = subst (AreAnswered lefts rights) (wanted-all all) answered

    pub drawn-all : n ≡ count → HasDrawn (asks_of_rows (cut lefts) (cut rights) n) left right → HasDrawn (draws_in_all lefts rights count) left right
    drawn-all all drawn = subst (λ m. HasDrawn (asks_of_rows (cut lefts) (cut rights) m) left right) (wanted-all all) drawn

    pub unfinished-all : n ≡ count → nat_lt (length (pairs_of lefts rights)) count ≡ false
    unfinished-all all = not-less (length (pairs_of lefts rights)) count (omega arith)

    -- and those for all that there are, and the end
    module _ (within : n < count) (answer : next_answer lefts rights n ≡ Ok None) where
      pub wanted-end : n + 1 ≡ min count (suc (length (pairs_of lefts rights)))
      wanted-end = let last = gave-all answer in omega arith

      pub lines-end : n ≡ min count (length (pairs_of lefts rights))
      lines-end = let last = gave-all answer in omega arith

      pub answered-end : AreAnswered lefts rights (min count (suc (length (pairs_of lefts rights))))
      answered-end = subst (AreAnswered lefts rights) wanted-end (answered-next None answered answer)

      pub drawn-end : HasDrawn (asks_of_cuts lefts rights n) left right → HasDrawn (draws_in_all lefts rights count) left right
      drawn-end drawn = subst (λ m. HasDrawn (asks_of_rows (cut lefts) (cut rights) m) left right) wanted-end (drawn-next left right drawn)

      pub finished-end : nat_lt (length (pairs_of lefts rights)) count ≡ true
      finished-end = let last = gave-all answer in is-less (length (pairs_of lefts rights)) count (omega arith)

-- one line more is out
lines-next : (lefts rights : List FeedRow) (n : ℕ) (pair : FeedPair) (old middle new : Environment) → next_answer lefts rights n ≡ Ok (Some pair)
    → HasDone (map Put (first_lines (pairs_of lefts rights) n)) old middle → HasDone (Put (pair_line (suc n) pair) ∷ []) middle new
    → HasDone (map Put (first_lines (pairs_of lefts rights) (n + 1))) old new
lines-next lefts rights n pair old middle new answer done put =
    let pairs = pairs_of lefts rights in
    let next : suc n ≡ n + 1 = omega arith in
    subst (λ m. HasDone (map Put (first_lines pairs m)) old new) next
    (subst (λ given. HasDone (map Put (first_lines pairs n ++ line_at (suc n) given)) old new) (sym (answer-pair lefts rights n (Some pair) answer))
    (subst (λ (events : List Event). HasDone events old new) (sym (map-append Put (first_lines pairs n) (pair_line (suc n) pair ∷ [])))
    (HasDone-append (map Put (first_lines pairs n)) (Put (pair_line (suc n) pair) ∷ []) old middle new done put)))

-- events, and nothing behind them
pub lines-kept : (events : List Event) (old middle new : Environment) → HasDone events old middle → HasDone [] middle new → HasDone events old new
lines-kept events old middle new done none = subst (λ (all : List Event). HasDone all old new) (append-nil events) (HasDone-append events [] old middle new done none)

-- n pairs are out, and the draws are those that they take
pub record SoFar (lefts rights : List FeedRow) (n : ℕ) (left right : FeedSide) (old new : Environment) : Type 0 where
  pub out : AreOut lefts rights n old new
  pub drawn : HasDrawn (asks_of_rows (cut lefts) (cut rights) n) left right

pub so-far-none : (lefts rights : List FeedRow) (state : FeedJoinState) (at : Environment) → state ≡ new_feed_join → SoFar lefts rights 0 state.left state.right at at
so-far-none lefts rights state at is = record {
  out = record { within = omega arith; answered = λ i h. absurd (omega (arith, h)); lines = HasDone-none at };
  drawn = record { left_draws = ap (λ (s : FeedJoinState). s.left.draws) is; right_draws = ap (λ (s : FeedJoinState). s.right.draws) is };
}

-- the join behind a put, or a call
module _ (lefts rights : List FeedRow) (n : ℕ) (left right : FeedSide) (old middle : Environment) (so_far : SoFar lefts rights n left right old middle) where
  pub so-far-more : (left' right' : FeedSide) (new : Environment) → PutsOne lefts rights n left' right' middle new → SoFar lefts rights (n + 1) left' right' old new
  so-far-more left' right' new puts = record {
    out = record {
      within = gave-next lefts rights n puts.pair puts.next;
      answered = answered-next lefts rights n (Some puts.pair) so_far.out.answered puts.next;
      lines = lines-next lefts rights n puts.pair old middle new puts.next so_far.out.lines puts.put;
    };
    drawn = drawn-next lefts rights n left' right' puts.drawn;
  }

  module _ (count : ℕ) where
    pub puts-all : (state : FeedJoinState) → state.left ≡ left → state.right ≡ right → n ≡ count → state.given ≡ n → state.finished ≡ false → PutsAll lefts rights count state old middle
    puts-all state l r all given finished = record {
      answered = answered-all lefts rights n count so_far.out.within so_far.out.answered left right all;
      lines = subst (λ m. HasDone (map Put (first_lines (pairs_of lefts rights) m)) old middle) (lines-all lefts rights n count so_far.out.within so_far.out.answered left right all) so_far.out.lines;
      drawn = subst (λ (side : FeedSide). HasDrawn (draws_in_all lefts rights count) side state.right) (sym l)
          (subst (λ (side : FeedSide). HasDrawn (draws_in_all lefts rights count) left side) (sym r)
          (drawn-all lefts rights n count so_far.out.within so_far.out.answered left right all so_far.drawn));
      given = given ∙ lines-all lefts rights n count so_far.out.within so_far.out.answered left right all;
      finished = finished ∙ sym (unfinished-all lefts rights n count so_far.out.within so_far.out.answered left right all);
    }

    module _ (within : n < count) (state : FeedJoinState) (new : Environment) where
      pub puts-end : PutsNone lefts rights n state.left state.right middle new → state.given ≡ n → state.finished ≡ true → PutsAll lefts rights count state old new
      puts-end puts given finished = record {
        answered = answered-end lefts rights n count so_far.out.within so_far.out.answered state.left state.right within puts.next;
        lines = subst (λ m. HasDone (map Put (first_lines (pairs_of lefts rights) m)) old new) (lines-end lefts rights n count so_far.out.within so_far.out.answered state.left state.right within puts.next)
            (lines-kept (map Put (first_lines (pairs_of lefts rights) n)) old middle new so_far.out.lines puts.put);
        drawn = drawn-end lefts rights n count so_far.out.within so_far.out.answered state.left state.right within puts.next puts.drawn;
        given = given ∙ lines-end lefts rights n count so_far.out.within so_far.out.answered state.left state.right within puts.next;
        finished = finished ∙ sym (finished-end lefts rights n count so_far.out.within so_far.out.answered state.left state.right within puts.next);
      }

      pub stops-at-join : (why : JoinFault) → PutsNext lefts rights n (Err (pairs.Join why)) state.left state.right middle new → state.given ≡ n → StopsAtJoin lefts rights count why state old new
      stops-at-join why puts given = record {
        n = n;
        within = within;
        out = record {
          within = so_far.out.within;
          answered = so_far.out.answered;
          lines = lines-kept (map Put (first_lines (pairs_of lefts rights) n)) old middle new so_far.out.lines puts.1;
        };
        next = puts.0;
        given = given;
      }

      pub stops-at-put : (why : PutFault) → BreaksAtPut lefts rights n why state.left state.right middle new → state.given ≡ suc n → StopsAtPut lefts rights count why state old new
      stops-at-put why puts given = record {
        n = n;
        within = within;
        middle = middle;
        out = so_far.out;
        pair = puts.pair;
        next = puts.next;
        drawn = puts.drawn;
        given = given;
        put = puts.put;
      }

-- a call of the join that gave a pair, and what comes of its put
module _ (lefts rights : List FeedRow) (n : ℕ) (left right : FeedSide) (pair : Option FeedPair) (next : IsNext lefts rights n left right (Ok pair)) where
  pub next-is : next_answer lefts rights n ≡ Ok pair
  next-is = sym next.answer

  pub next-drawn : HasDrawn (asks_of_cuts lefts rights n) left right
  next-drawn = all-drawn lefts rights n left right pair next

module _ (lefts rights : List FeedRow) (n rank : ℕ) (left right : FeedSide) (pair : FeedPair) (is : rank ≡ suc n) (old new : Environment) (next : IsNext lefts rights n left right (Ok (Some pair))) where
  pub put-one : Ran pair_faults (lines_run (pair_line rank pair ∷ [])) (Ok tt) old new → PutsOne lefts rights n left right old new
  put-one ran = record {
    pair = pair;
    next = next-is lefts rights n left right (Some pair) next;
    drawn = next-drawn lefts rights n left right (Some pair) next;
    put = subst (λ r. HasDone (Put (pair_line r pair) ∷ []) old new) is (Ran-done (lines_run (pair_line rank pair ∷ [])) old new ran).has;
  }

  pub put-breaks : (why : PutFault) → Ran pair_faults (lines_run (pair_line rank pair ∷ [])) (Err why) old new → BreaksAtPut lefts rights n why left right old new
  put-breaks why ran = record {
    pair = pair;
    next = next-is lefts rights n left right (Some pair) next;
    drawn = next-drawn lefts rights n left right (Some pair) next;
    put = subst (λ r. Ran pair_faults (lines_run (pair_line r pair ∷ [])) (Err why) old new) is ran;
  }

pub put-none : (lefts rights : List FeedRow) (n : ℕ) (left right : FeedSide) (at : Environment) → IsNext lefts rights n left right (Ok None) → PutsNone lefts rights n left right at at
put-none lefts rights n left right at next =
    record { next = next-is lefts rights n left right None next; drawn = next-drawn lefts rights n left right None next; put = HasDone-none at }

-- a fault that ends the puts
module _ (count n : ℕ) (old new : FeedJoinState) (within : n < count) (given : old.given ≡ n) where
  module _ (lefts rights : List FeedRow) (first middle last : Environment) where
    pub puts-fault : (fault : PairsFault) → IsAfterPut old new (Err fault)
        → (MayBe 1 lefts old.left went_well → MayBe 2 rights old.right went_well → SoFar lefts rights n old.left old.right first middle)
        → MayBe 1 lefts new.left (call_before fault) → MayBe 2 rights new.right (call_before fault)
        → PutsNext lefts rights old.given (Err fault) new.left new.right middle last → PutsPairs lefts rights count (Err fault) new first last
    puts-fault fault after so_far left right puts = go fault (after-put old new (Err fault) after) after left right (subst (λ m. PutsNext lefts rights m (Err fault) new.left new.right middle last) given puts) where
      before : (why : Result (Option FeedPair) JoinFault) → Grown old new → MayBe 1 lefts new.left why → MayBe 2 rights new.right why → SoFar lefts rights n old.left old.right first middle
      before why grown left right =
          so_far (may-before 1 lefts old.left new.left why grown.left_grows grown.left_over left) (may-before 2 rights old.right new.right why grown.right_grows grown.right_over right)

      go : (why : PairsFault) → Grown old new → IsAfterPut old new (Err why) → MayBe 1 lefts new.left (call_before why) → MayBe 2 rights new.right (call_before why)
          → PutsNext lefts rights n (Err why) new.left new.right middle last → PutsPairs lefts rights count (Err why) new first last
      go (pairs.Join why) grown after left right puts =
          stops-at-join lefts rights n old.left old.right first middle (before (Err why) grown left right) count within new last why puts (after.given ∙ given)
      go (pairs.Put why) grown after left right puts =
          stops-at-put lefts rights n old.left old.right first middle (before (Ok None) grown left right) count within new last why puts (after.1.given ∙ ap suc given)

pub broken-after : (old new : FeedJoinState) (fault : PairsFault) → IsAfterPut old new (Err fault) → new.broken ≡ is_err (call_before fault)
broken-after old new (pairs.Join why) after = after.broken
broken-after old new (pairs.Put why) after = after.1.broken
