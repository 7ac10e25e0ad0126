-- From one ask to the next, and where a join of two feeds stops.
use Rattle.std.proofs.Common.{◌≡◌, ℕ, zero, suc, ◌<◌, ◌≤◌, ◌==◌, Bool, true, false, cond, nat_lt, List, [], ◌∷◌, ◌++◌, length, option_map, unwrap_or, Option, Some, None, Result, Ok, Err, slice_get, refl, sym, ◌∙◌, ap, subst, ◌⊎◌, inl, inr, arith}
use Rattle.std.proofs.lemmas.Bool.{true≢false}
use Rattle.std.proofs.lemmas.Bool.Decides.{nat_tests}
use Rattle.std.specs.Option.{IfSome}
use Rattle.std.specs.Prelude.{IfOk, OnErr, OnOk}
use Rattle.rs_feed.specs.declared.feed_row.FeedRow.{FeedRow}
use Rattle.rs_feed.specs.Feeds.{FeedState}
use Rattle.rs_order.specs.Last.{last_from, last_of}
use Rattle.rs_order.specs.Schedule.{Left, Right, SideAsk, asked}
use Rattle.rs_rank.specs.declared.ask.JoinAsk.{JoinAsk}
use Rattle.rs_rank.specs.declared.ask.JoinAsk.TheVariants.{NeedLeft, NeedRight, Ready, End}
use Rattle.rs_ripple.specs.Ripple.{ask_of}
use Rattle.rs_ripple.specs.Stands.{BeginsWith}
use Rattle.rs_ripple.proofs.ScheduleFacts.{BeginsWith-append, BeginsWith-itself}
use Rattle.rs_value.specs.Faults.{raised}
use Rattle.rs_value.specs.Outside.{Counts, Outside}
use Rattle.rs_value.proofs.OutsideFacts.{Keeps-refl, Keeps-then, Rose-from}
use Rattle.rs_feed_join.specs.declared.fault.JoinFault.{JoinFault}
use Rattle.rs_feed_join.specs.declared.fault.JoinFault.TheVariants.{OutOfOrder, TooLong, Failed, Memory, Broken}
use Rattle.rs_feed_join.specs.declared.feed_pair.FeedPair.{FeedPair}
use Rattle.rs_feed_join.specs.Answers.{Answers, HasToldRefused, IsNext, MayBe, lies_past, number_of}
use Rattle.rs_feed_join.specs.Cuts.{last_score, most_rows, refusal, rises}
use Rattle.rs_feed_join.specs.Joins.{FeedJoinState, IsKept, IsRefusal, IsRise, IsSide, given_after, pairs_drawn, side_in}
use Rattle.rs_feed_join.specs.Parts.{Advanced, IsStanding, PartsState, StandsAt, Turn, asked_once_more, join_state}
use Rattle.rs_feed_join.specs.Sides.{AreTaken, Ended, FeedSide, HasCause, IsDrawnOf, Took}
use Rattle.rs_feed_join.proofs.AnswerFacts.{end-answers, get-length, left-breaks, left-refused, length-refused, next-there, order-refused, ready-answers, ready-breaks, right-breaks, right-refused}
use Rattle.rs_feed_join.proofs.KeptFacts.{is-kept, is-whole}
use Rattle.rs_feed_join.proofs.CallFacts.{counts-from, err-same, failed_with, ok_err}
use Rattle.rs_feed_join.proofs.RowFacts.{none_at, same_at}
use Rattle.rs_feed_join.proofs.StandFacts.{left-raised, left-rows, left-unended, right-raised, right-rows, right-unended}

-- calls, one after another
pub counts-none : (object : Outside (List FeedRow)) → Counts ⊥ object object
counts-none object = record { keeps = Keeps-refl object; failed = λ f. absurd f; sure = λ e. (refl, λ f. f) }

pub counts-then : {F G : Type 0} (a b c : Outside (List FeedRow)) → Counts ⊥ a b → Counts F b c → (G → F) → Counts G a c
counts-then a b c one two to = record {
  keeps = Keeps-then a b c one.keeps two.keeps;
  failed = λ g. Rose-from a.faults b.faults c.faults one.keeps.grows (two.failed (to g));
  sure = λ e. ((two.sure (one.keeps.steady ∙ e)).0 ∙ (one.sure e).0, λ g. (two.sure (one.keeps.steady ∙ e)).1 (to g));
}

last-push : (made : List SideAsk) (ask : SideAsk) → last_of (made ++ ask ∷ []) ≡ Some ask
last-push [] ask = refl
last-push (x ∷ xs) ask = go x xs where
  go : (y : SideAsk) (ys : List SideAsk) → Some (last_from y (ys ++ ask ∷ [])) ≡ Some ask
  go y [] = refl
  go y (z ∷ zs) = go z zs

-- what a refusal says
refused-order : (number : ℕ) (rows : List FeedRow) (score side row before got : ℕ) → refusal number rows score ≡ Some (OutOfOrder side row before got)
    → ((length rows == most_rows) ≡ false) × (rises (last_score rows) score ≡ true) × (OutOfOrder side row before got ≡ OutOfOrder number (suc (length rows)) (unwrap_or (last_score rows) 0) score)
refused-order number rows score side row before got e = go (length rows == most_rows) (rises (last_score rows) score) e where
  go : (a b : Bool) → cond a (Some (TooLong number)) (cond b (Some (OutOfOrder number (suc (length rows)) (unwrap_or (last_score rows) 0) score)) None) ≡ Some (OutOfOrder side row before got)
      → (a ≡ false) × (b ≡ true) × (OutOfOrder side row before got ≡ OutOfOrder number (suc (length rows)) (unwrap_or (last_score rows) 0) score)
  go true b f = absurd (cc)
  go false true f = (refl, refl, sym (same_at f))
  go false false f = absurd (none_at f)

refused-length : (number : ℕ) (rows : List FeedRow) (score side : ℕ) → refusal number rows score ≡ Some (TooLong side) → ((length rows == most_rows) ≡ true) × (TooLong side ≡ TooLong number)
refused-length number rows score side e = go (length rows == most_rows) (rises (last_score rows) score) e where
  go : (a b : Bool) → cond a (Some (TooLong number)) (cond b (Some (OutOfOrder number (suc (length rows)) (unwrap_or (last_score rows) 0) score)) None) ≡ Some (TooLong side) → (a ≡ true) × (TooLong side ≡ TooLong number)
  go true b f = (refl, sym (same_at f))
  go false true f = absurd (cc)
  go false false f = absurd (none_at f)

some-row : (rows : List FeedRow) (n got : ℕ) → option_map (λ (r : FeedRow). r.score) (slice_get rows n) ≡ Some got → (row : FeedRow) × (slice_get rows n ≡ Some row) × (row.score ≡ got)
some-row rows n got e = go (slice_get rows n) refl e where
  go : (o : Option FeedRow) → slice_get rows n ≡ o → option_map (λ (r : FeedRow). r.score) o ≡ Some got → (row : FeedRow) × (slice_get rows n ≡ Some row) × (row.score ≡ got)
  go None f g = absurd (none_at g)
  go (Some row) f g = (row, f, same_at g)

order-side : {side row before got number rows first score : ℕ} → OutOfOrder side row before got ≡ OutOfOrder number rows first score → side ≡ number
order-side e = cc

order-got : {side row before got number rows first score : ℕ} → OutOfOrder side row before got ≡ OutOfOrder number rows first score → got ≡ score
order-got e = cc

long-side : {side number : ℕ} → TooLong side ≡ TooLong number → side ≡ number
long-side e = cc

one-two : {G : Type 0} → suc zero ≡ suc (suc zero) → G
one-two e = absurd (omega (arith, e))

-- rows that a feed tells, of which one was refused
told-refused : (number : ℕ) (told : Option (List FeedRow)) (side : FeedSide) (fault : JoinFault) → HasCause number told side fault → (after : FeedSide) → after.rows ≡ side.rows → HasToldRefused number told after (Err fault)
told-refused number told side (OutOfOrder s row before got) cause after same = λ rows e own.
    let at : slice_get rows (length side.rows) ≡ Some cause.row = subst (λ t. IfSome t (λ rows. slice_get rows (length side.rows) ≡ Some cause.row)) e cause.next in
    let facts = refused-order number side.rows cause.row.score s row before got cause.refused in
    ap (λ (xs : List FeedRow). option_map (λ (r : FeedRow). r.score) (slice_get rows (length xs))) same ∙ ap (option_map (λ (r : FeedRow). r.score)) at ∙ ap Some (sym (order-got facts.2))
told-refused number told side (TooLong s) cause after same = λ rows e own.
    let at : slice_get rows (length side.rows) ≡ Some cause.row = subst (λ t. IfSome t (λ rows. slice_get rows (length side.rows) ≡ Some cause.row)) e cause.next in
    subst (λ (xs : List FeedRow). length xs < length rows) (sym same) (get-length rows (length side.rows) cause.row at)
told-refused number told side (Failed s) cause after same = λ rows e. tt
told-refused number told side Memory cause after same = λ rows e. tt
told-refused number told side Broken cause after same = absurd cause

-- what a fault says of a row that was refused
score-rises : (before : Option ℕ) (score : ℕ) → rises before score ≡ true → (before ≡ Some (unwrap_or before 0)) × (unwrap_or before 0 < score)
score-rises None score e = cc
score-rises (Some b) score e = (refl, more b score e) where
  more : (m n : ℕ) → nat_lt m n ≡ true → m < n
  more m n f = grind (arith, nat_tests)

fewer : (n : ℕ) → n ≤ 131072 → (n == 131072) ≡ false → n < 131072
fewer n h e = grind (arith, nat_tests)

as-many : (n : ℕ) → (n == 131072) ≡ true → n ≡ 131072
as-many n e = grind (arith, nat_tests)

cause-refusal : (number : ℕ) (told : Option (List FeedRow)) (side : FeedSide) (fault : JoinFault) → HasCause number told side fault → AreTaken side.rows → (state : FeedJoinState) → IsSide number → (side_in number state).rows ≡ side.rows → (side_in number state).ended ≡ false
    → IsRefusal state (Err fault)
cause-refusal number told side (OutOfOrder s row before got) cause taken state is rows going =
    let facts = refused-order number side.rows cause.row.score s row before got cause.refused in
    let rise = score-rises (last_score side.rows) cause.row.score facts.1 in
    subst (λ fault. IsRefusal state (Err fault)) (sym facts.2) (
      is,
      going,
      subst (λ (xs : List FeedRow). IsRise xs (suc (length side.rows)) (unwrap_or (last_score side.rows) 0) cause.row.score) (sym rows)
          (record { few = fewer (length side.rows) taken.few facts.0; number = refl; last = rise.0; more = rise.1 }),
    )
cause-refusal number told side (TooLong s) cause taken state is rows going =
    let facts = refused-length number side.rows cause.row.score s cause.refused in
    subst (λ fault. IsRefusal state (Err fault)) (sym facts.1)
    (is, going, ap (λ (xs : List FeedRow). length xs) rows ∙ as-many (length side.rows) facts.0)
cause-refusal number told side (Failed s) cause taken state is rows going = tt
cause-refusal number told side Memory cause taken state is rows going = tt
cause-refusal number told side Broken cause taken state is rows going = tt

-- the other feed refused none
other-refused : (number other : ℕ) → (number ≡ other → ⊥) → (told from : Option (List FeedRow)) (side after : FeedSide) (fault : JoinFault) → HasCause number from side fault → HasToldRefused other told after (Err fault)
other-refused number other apart told from side after (OutOfOrder s row before got) cause = λ rows e own.
    absurd (apart (sym (order-side (refused-order number side.rows cause.row.score s row before got cause.refused).2) ∙ own))
other-refused number other apart told from side after (TooLong s) cause = λ rows e own.
    absurd (apart (sym (long-side (refused-length number side.rows cause.row.score s cause.refused).1) ∙ own))
other-refused number other apart told from side after (Failed s) cause = λ rows e. tt
other-refused number other apart told from side after Memory cause = λ rows e. tt
other-refused number other apart told from side after Broken cause = absurd cause

no-broken : (number : ℕ) (told : Option (List FeedRow)) (side : FeedSide) (fault : JoinFault) → HasCause number told side fault → fault ≡ Broken → ⊥
no-broken number told side fault cause e = subst (HasCause number told side) e cause

abbrev pub done_with : Option FeedPair → Result (Option FeedPair) JoinFault
done_with pair = Ok pair

failed-side : (number : ℕ) (told : Option (List FeedRow)) (side : FeedSide) (fault : JoinFault) (n : ℕ) → HasCause number told side fault → fault ≡ Failed n → n ≡ number
failed-side number told side fault n cause e = subst (HasCause number told side) e cause

module _ (made : List SideAsk) (parts : PartsState) (s : StandsAt made parts) where
  -- a side after a draw that took no row
  abbrev pub left_drawn_once : FeedSide
  left_drawn_once = record { rows = parts.left.rows; ended = parts.left.ended; draws = raised parts.left.draws }

  abbrev pub right_drawn_once : FeedSide
  right_drawn_once = record { rows = parts.right.rows; ended = parts.right.ended; draws = raised parts.right.draws }

  pub left-stop : ask_of parts.core.ripple ≡ NeedLeft → (told : Option (List FeedRow)) (fault : JoinFault) → HasCause 1 told parts.left fault → (lefts rights : List FeedRow)
      → MayBe 1 lefts (record { rows = parts.left.rows; ended = parts.left.ended; draws = raised parts.left.draws }) (Err fault) → MayBe 2 rights parts.right (Err fault)
      → IsNext lefts rights parts.given (record { rows = parts.left.rows; ended = parts.left.ended; draws = raised parts.left.draws }) parts.right (Err fault)
  left-stop need told (OutOfOrder side row before got) cause lefts rights may other =
      let facts = refused-order 1 parts.left.rows cause.row.score side row before got cause.refused in
      let found = some-row lefts (length parts.left.rows) got (may.refused (order-side facts.2)) in
      let score : found.0.score ≡ cause.row.score = found.2 ∙ order-got facts.2 in
      let both = order-refused 1 parts.left.rows lefts found.0 s.left_taken may.begins found.1 facts.0 (ap (rises (last_score parts.left.rows)) score ∙ facts.1) in
      subst (λ fault. Answers lefts rights parts.given (record { rows = parts.left.rows; ended = parts.left.ended; draws = raised parts.left.draws }) parts.right (Err fault))
      (both.1 ∙ ap (OutOfOrder 1 (suc (length parts.left.rows)) (unwrap_or (last_score parts.left.rows) 0)) score ∙ sym facts.2)
      (left-refused made parts s lefts rights may.scores other.scores may.begins other.begins may.ends other.ends need (record { rows = parts.left.rows; ended = parts.left.ended; draws = raised parts.left.draws }) (left-raised made parts s)
      (ap (λ n. lies_past lefts (suc n)) (left-rows made parts s (left-unended made parts s need)) ∙ both.0))
  left-stop need told (TooLong side) cause lefts rights may other =
      let facts = refused-length 1 parts.left.rows cause.row.score side cause.refused in
      let both = length-refused 1 parts.left.rows lefts s.left_taken may.begins (may.refused (long-side facts.1)) facts.0 in
      subst (λ fault. Answers lefts rights parts.given (record { rows = parts.left.rows; ended = parts.left.ended; draws = raised parts.left.draws }) parts.right (Err fault))
      (both.1 ∙ sym facts.1)
      (left-refused made parts s lefts rights may.scores other.scores may.begins other.begins may.ends other.ends need (record { rows = parts.left.rows; ended = parts.left.ended; draws = raised parts.left.draws }) (left-raised made parts s)
      (ap (λ n. lies_past lefts (suc n)) (left-rows made parts s (left-unended made parts s need)) ∙ both.0))
  left-stop need told (Failed side) cause lefts rights may other =
      let breaks = left-breaks made parts s lefts rights may.scores other.scores may.begins other.begins may.ends other.ends need (record { rows = parts.left.rows; ended = parts.left.ended; draws = raised parts.left.draws }) (left-raised made parts s) in
      record {
        breaks = record { made = asked_once_more Left made; begins = breaks.0; drawn = breaks.1 };
        last = ap (option_map (λ (ask : SideAsk). number_of ask.side)) (last-push made (record { side = Left; number = suc (asked Left made) })) ∙ ap Some (sym cause);
      }
  left-stop need told Memory cause lefts rights may other =
      let breaks = left-breaks made parts s lefts rights may.scores other.scores may.begins other.begins may.ends other.ends need (record { rows = parts.left.rows; ended = parts.left.ended; draws = raised parts.left.draws }) (left-raised made parts s) in
      record { made = asked_once_more Left made; begins = breaks.0; drawn = breaks.1 }
  left-stop need told Broken cause lefts rights may other = tt

  pub right-stop : ask_of parts.core.ripple ≡ NeedRight → (told : Option (List FeedRow)) (fault : JoinFault) → HasCause 2 told parts.right fault → (lefts rights : List FeedRow)
      → MayBe 1 lefts parts.left (Err fault) → MayBe 2 rights (record { rows = parts.right.rows; ended = parts.right.ended; draws = raised parts.right.draws }) (Err fault)
      → IsNext lefts rights parts.given parts.left (record { rows = parts.right.rows; ended = parts.right.ended; draws = raised parts.right.draws }) (Err fault)
  right-stop need told (OutOfOrder side row before got) cause lefts rights other may =
      let facts = refused-order 2 parts.right.rows cause.row.score side row before got cause.refused in
      let found = some-row rights (length parts.right.rows) got (may.refused (order-side facts.2)) in
      let score : found.0.score ≡ cause.row.score = found.2 ∙ order-got facts.2 in
      let both = order-refused 2 parts.right.rows rights found.0 s.right_taken may.begins found.1 facts.0 (ap (rises (last_score parts.right.rows)) score ∙ facts.1) in
      subst (λ fault. Answers lefts rights parts.given parts.left (record { rows = parts.right.rows; ended = parts.right.ended; draws = raised parts.right.draws }) (Err fault))
      (both.1 ∙ ap (OutOfOrder 2 (suc (length parts.right.rows)) (unwrap_or (last_score parts.right.rows) 0)) score ∙ sym facts.2)
      (right-refused made parts s lefts rights other.scores may.scores other.begins may.begins other.ends may.ends need (record { rows = parts.right.rows; ended = parts.right.ended; draws = raised parts.right.draws }) (right-raised made parts s)
      (ap (λ n. lies_past rights (suc n)) (right-rows made parts s (right-unended made parts s need)) ∙ both.0))
  right-stop need told (TooLong side) cause lefts rights other may =
      let facts = refused-length 2 parts.right.rows cause.row.score side cause.refused in
      let both = length-refused 2 parts.right.rows rights s.right_taken may.begins (may.refused (long-side facts.1)) facts.0 in
      subst (λ fault. Answers lefts rights parts.given parts.left (record { rows = parts.right.rows; ended = parts.right.ended; draws = raised parts.right.draws }) (Err fault))
      (both.1 ∙ sym facts.1)
      (right-refused made parts s lefts rights other.scores may.scores other.begins may.begins other.ends may.ends need (record { rows = parts.right.rows; ended = parts.right.ended; draws = raised parts.right.draws }) (right-raised made parts s)
      (ap (λ n. lies_past rights (suc n)) (right-rows made parts s (right-unended made parts s need)) ∙ both.0))
  right-stop need told (Failed side) cause lefts rights other may =
      let breaks = right-breaks made parts s lefts rights other.scores may.scores other.begins may.begins other.ends may.ends need (record { rows = parts.right.rows; ended = parts.right.ended; draws = raised parts.right.draws }) (right-raised made parts s) in
      record {
        breaks = record { made = asked_once_more Right made; begins = breaks.0; drawn = breaks.1 };
        last = ap (option_map (λ (ask : SideAsk). number_of ask.side)) (last-push made (record { side = Right; number = suc (asked Right made) })) ∙ ap Some (sym cause);
      }
  right-stop need told Memory cause lefts rights other may =
      let breaks = right-breaks made parts s lefts rights other.scores may.scores other.begins may.begins other.ends may.ends need (record { rows = parts.right.rows; ended = parts.right.ended; draws = raised parts.right.draws }) (right-raised made parts s) in
      record { made = asked_once_more Right made; begins = breaks.0; drawn = breaks.1 }
  right-stop need told Broken cause lefts rights other may = tt

need-end : (ask : JoinAsk) → ask ≡ NeedLeft → ask ≡ End → ⊥
need-end ask e f = differ (sym e ∙ f) where
  differ : NeedLeft ≡ End → ⊥
  differ g = cc

need-end-right : (ask : JoinAsk) → ask ≡ NeedRight → ask ≡ End → ⊥
need-end-right ask e f = differ (sym e ∙ f) where
  differ : NeedRight ≡ End → ⊥
  differ g = cc

ready-end : (ask : JoinAsk) → ask ≡ Ready → ask ≡ End → ⊥
ready-end ask e f = differ (sym e ∙ f) where
  differ : Ready ≡ End → ⊥
  differ g = cc

counts-weaker : {G : Type 0} (a b : Outside (List FeedRow)) → (G → ⊥) → Counts ⊥ a b → Counts G a b
counts-weaker a b never counts = counts-from a b counts never

drawn-weaker : (feed : FeedState) (side : FeedSide) → IsDrawnOf false feed side → IsDrawnOf true feed side
drawn-weaker feed side drawn = record { draws = drawn.draws; given = λ e. absurd (true≢false e); rows = drawn.rows; ended = drawn.ended }

grows-step : (number : ℕ) (told : Option (List FeedRow)) (old mid new : FeedSide) → BeginsWith mid.rows old.rows → Took number told mid new ⊎ Ended told mid new → BeginsWith new.rows old.rows
grows-step number told old mid new begins (inl took) =
    subst (λ (side : FeedSide). BeginsWith side.rows old.rows) (sym took.after) (BeginsWith-append old.rows mid.rows (took.row ∷ []) begins)
grows-step number told old mid new begins (inr ended) = subst (λ (side : FeedSide). BeginsWith side.rows old.rows) (sym ended.after) begins

-- draws change nothing of what a join keeps
kept-drawn : (state : FeedJoinState) (left_draws right_draws : ℕ) → IsKept state → IsKept (record {
  left = record { rows = state.left.rows; ended = state.left.ended; draws = left_draws };
  right = record { rows = state.right.rows; ended = state.right.ended; draws = right_draws };
  given = state.given;
  finished = state.finished;
  broken = state.broken;
})
kept-drawn state left_draws right_draws kept = record {
  left_rows = kept.left_rows;
  right_rows = kept.right_rows;
  within = kept.within;
  certain = λ lefts rights c d. kept.certain lefts rights
      (record { falls = c.falls; scores = c.scores; begins = c.begins; ends = c.ends })
      (record { falls = d.falls; scores = d.scores; begins = d.begins; ends = d.ends });
  left_reached = kept.left_reached;
  right_reached = kept.right_reached;
  all = kept.all;
  over = kept.over;
}

-- nor does that a call failed
pub kept-broken : (state : FeedJoinState) (broken : Bool) → IsKept state → IsKept (record { left = state.left; right = state.right; given = state.given; finished = state.finished; broken = broken })
kept-broken state broken kept = record {
  left_rows = kept.left_rows;
  right_rows = kept.right_rows;
  within = kept.within;
  certain = kept.certain;
  left_reached = kept.left_reached;
  right_reached = kept.right_reached;
  all = kept.all;
  over = kept.over;
}

abbrev state_with : FeedSide → FeedSide → ℕ → FeedJoinState
state_with left right given = record { left = left; right = right; given = given; finished = false; broken = false }

-- the first turn
pub turn-begins : (parts : PartsState) (left right : FeedState) → IsStanding parts → IsDrawnOf false left parts.left → IsDrawnOf false right parts.right → Turn parts parts left left right right
turn-begins parts left right standing drawn other = record {
  standing = standing;
  given = refl;
  still = λ e. (refl, refl, refl);
  left_drawn = drawn;
  right_drawn = other;
  left_told = refl;
  right_told = refl;
  left_counts = counts-none left.outside;
  right_counts = counts-none right.outside;
  left_grows = BeginsWith-itself parts.left.rows;
  right_grows = BeginsWith-itself parts.right.rows;
  left_over = λ e. refl;
  right_over = λ e. refl;
}

module _ (old mid : PartsState) (l0 l1 r0 r1 : FeedState) (t : Turn old mid l0 l1 r0 r1) where
  not-end-left : ask_of mid.core.ripple ≡ NeedLeft → ask_of old.core.ripple ≡ End → ⊥
  not-end-left need end = need-end (ask_of mid.core.ripple) need (ap (λ (p : PartsState). ask_of p.core.ripple) (t.still end).0 ∙ end)

  not-end-right : ask_of mid.core.ripple ≡ NeedRight → ask_of old.core.ripple ≡ End → ⊥
  not-end-right need end = need-end-right (ask_of mid.core.ripple) need (ap (λ (p : PartsState). ask_of p.core.ripple) (t.still end).0 ∙ end)

  not-end-ready : ask_of mid.core.ripple ≡ Ready → ask_of old.core.ripple ≡ End → ⊥
  not-end-ready need end = ready-end (ask_of mid.core.ripple) need (ap (λ (p : PartsState). ask_of p.core.ripple) (t.still end).0 ∙ end)

  -- a side that is drawn hadn't ended
  going-left : ask_of mid.core.ripple ≡ NeedLeft → old.left.ended ≡ true → ⊥
  going-left need e = true≢false (sym (ap (λ (side : FeedSide). side.ended) (t.left_over e) ∙ e) ∙ left-unended t.standing.made mid t.standing.at need)

  going-right : ask_of mid.core.ripple ≡ NeedRight → old.right.ended ≡ true → ⊥
  going-right need e = true≢false (sym (ap (λ (side : FeedSide). side.ended) (t.right_over e) ∙ e) ∙ right-unended t.standing.made mid t.standing.at need)

  -- a draw that went well
  pub turn-left : {F : Type 0} (new : PartsState) (l2 : FeedState) → ask_of mid.core.ripple ≡ NeedLeft → ((made : List SideAsk) → StandsAt made mid → StandsAt (asked_once_more Left made) new)
      → Took 1 l1.outside.told mid.left new.left ⊎ Ended l1.outside.told mid.left new.left → new.right ≡ mid.right → new.given ≡ mid.given
      → IsDrawnOf false l2 new.left → l2.outside.told ≡ l1.outside.told → Counts F l1.outside l2.outside → Turn old new l0 l2 r0 r1
  turn-left new l2 need stands step other given drawn told counts = record {
    standing = record { made = asked_once_more Left t.standing.made; at = stands t.standing.made t.standing.at };
    given = given ∙ t.given;
    still = λ end. absurd (not-end-left need end);
    left_drawn = drawn;
    right_drawn = subst (IsDrawnOf false r1) (sym other) t.right_drawn;
    left_told = told ∙ t.left_told;
    right_told = t.right_told;
    left_counts = counts-then l0.outside l1.outside l2.outside t.left_counts counts (λ g. absurd g);
    right_counts = t.right_counts;
    left_grows = grows-step 1 l1.outside.told old.left mid.left new.left t.left_grows step;
    right_grows = subst (λ (side : FeedSide). BeginsWith side.rows old.right.rows) (sym other) t.right_grows;
    left_over = λ e. absurd (going-left need e);
    right_over = λ e. other ∙ t.right_over e;
  }

  pub turn-right : {F : Type 0} (new : PartsState) (r2 : FeedState) → ask_of mid.core.ripple ≡ NeedRight → ((made : List SideAsk) → StandsAt made mid → StandsAt (asked_once_more Right made) new)
      → Took 2 r1.outside.told mid.right new.right ⊎ Ended r1.outside.told mid.right new.right → new.left ≡ mid.left → new.given ≡ mid.given
      → IsDrawnOf false r2 new.right → r2.outside.told ≡ r1.outside.told → Counts F r1.outside r2.outside → Turn old new l0 l1 r0 r2
  turn-right new r2 need stands step other given drawn told counts = record {
    standing = record { made = asked_once_more Right t.standing.made; at = stands t.standing.made t.standing.at };
    given = given ∙ t.given;
    still = λ end. absurd (not-end-right need end);
    left_drawn = subst (IsDrawnOf false l1) (sym other) t.left_drawn;
    right_drawn = drawn;
    left_told = t.left_told;
    right_told = told ∙ t.right_told;
    left_counts = t.left_counts;
    right_counts = counts-then r0.outside r1.outside r2.outside t.right_counts counts (λ g. absurd g);
    left_grows = subst (λ (side : FeedSide). BeginsWith side.rows old.left.rows) (sym other) t.left_grows;
    right_grows = grows-step 2 r1.outside.told old.right mid.right new.right t.right_grows step;
    left_over = λ e. other ∙ t.left_over e;
    right_over = λ e. absurd (going-right need e);
  }

  -- a draw that took no row
  pub stopped-left : (fault : JoinFault) (new : PartsState) (l2 : FeedState) → ask_of mid.core.ripple ≡ NeedLeft
      → HasCause 1 l1.outside.told mid.left fault → new.left ≡ record { rows = mid.left.rows; ended = mid.left.ended; draws = raised mid.left.draws } → new.right ≡ mid.right → new.given ≡ mid.given
      → IsDrawnOf true l2 new.left → l2.outside.told ≡ l1.outside.told → Counts (failed_with Unit fault ≡ failed_with Unit (Failed 1)) l1.outside l2.outside → Advanced old new l0 l2 r0 r1 (Err fault)
  stopped-left fault new l2 need cause left right given drawn told counts = record {
    next = λ lefts rights may other.
        subst (λ side. IsNext lefts rights old.given side new.right (Err fault)) (sym left)
        (subst (λ side. IsNext lefts rights old.given (record { rows = mid.left.rows; ended = mid.left.ended; draws = raised mid.left.draws }) side (Err fault)) (sym right)
        (subst (λ n. IsNext lefts rights n (record { rows = mid.left.rows; ended = mid.left.ended; draws = raised mid.left.draws }) mid.right (Err fault)) t.given
        (left-stop t.standing.made mid t.standing.at need l1.outside.told fault cause lefts rights (subst (λ side. MayBe 1 lefts side (Err fault)) left may) (subst (λ side. MayBe 2 rights side (Err fault)) right other))));
    left_refused = λ rows e. told-refused 1 l1.outside.told mid.left fault cause new.left (ap (λ (side : FeedSide). side.rows) left) rows (t.left_told ∙ e);
    right_refused = other-refused 1 2 (λ e. one-two e) r0.outside.told l1.outside.told mid.left new.right fault cause;
    given = given ∙ t.given;
    standing = λ e. absurd (true≢false e);
    kept =
        subst (λ side. IsKept (state_with side new.right new.given)) (sym left)
        (subst (λ side. IsKept (state_with (record { rows = mid.left.rows; ended = mid.left.ended; draws = raised mid.left.draws }) side new.given)) (sym right)
        (subst (λ n. IsKept (state_with (record { rows = mid.left.rows; ended = mid.left.ended; draws = raised mid.left.draws }) mid.right n)) (sym given)
        (kept-drawn (state_with mid.left mid.right mid.given) (raised mid.left.draws) mid.right.draws (is-kept t.standing.made mid t.standing.at))));
    end = λ e. ok_err (sym e);
    still = λ end. absurd (not-end-left need end);
    unbroken = λ e. no-broken 1 l1.outside.told mid.left fault cause (err-same fault Broken e);
    left_drawn = drawn;
    right_drawn = subst (IsDrawnOf true r1) (sym right) (drawn-weaker r1 mid.right t.right_drawn);
    left_told = told ∙ t.left_told;
    right_told = t.right_told;
    left_counts = counts-then l0.outside l1.outside l2.outside t.left_counts counts (λ e. ap (failed_with Unit) (err-same fault (Failed 1) e));
    right_counts = counts-weaker r0.outside r1.outside (λ e. one-two (sym (failed-side 1 l1.outside.told mid.left fault 2 cause (err-same fault (Failed 2) e)))) t.right_counts;
    left_grows = subst (λ (side : FeedSide). BeginsWith side.rows old.left.rows) (sym left) t.left_grows;
    right_grows = subst (λ (side : FeedSide). BeginsWith side.rows old.right.rows) (sym right) t.right_grows;
    left_over = λ e. absurd (going-left need e);
    right_over = λ e. right ∙ t.right_over e;
    refused = cause-refusal 1 l1.outside.told mid.left fault cause t.standing.at.left_taken (join_state new false false) (inl refl) (ap (λ (side : FeedSide). side.rows) left) (ap (λ (side : FeedSide). side.ended) left ∙ left-unended t.standing.made mid t.standing.at need);
  }

  pub stopped-right : (fault : JoinFault) (new : PartsState) (r2 : FeedState) → ask_of mid.core.ripple ≡ NeedRight
      → HasCause 2 r1.outside.told mid.right fault → new.right ≡ record { rows = mid.right.rows; ended = mid.right.ended; draws = raised mid.right.draws } → new.left ≡ mid.left → new.given ≡ mid.given
      → IsDrawnOf true r2 new.right → r2.outside.told ≡ r1.outside.told → Counts (failed_with Unit fault ≡ failed_with Unit (Failed 2)) r1.outside r2.outside → Advanced old new l0 l1 r0 r2 (Err fault)
  stopped-right fault new r2 need cause right left given drawn told counts = record {
    next = λ lefts rights other may.
        subst (λ side. IsNext lefts rights old.given new.left side (Err fault)) (sym right)
        (subst (λ side. IsNext lefts rights old.given side (record { rows = mid.right.rows; ended = mid.right.ended; draws = raised mid.right.draws }) (Err fault)) (sym left)
        (subst (λ n. IsNext lefts rights n mid.left (record { rows = mid.right.rows; ended = mid.right.ended; draws = raised mid.right.draws }) (Err fault)) t.given
        (right-stop t.standing.made mid t.standing.at need r1.outside.told fault cause lefts rights (subst (λ side. MayBe 1 lefts side (Err fault)) left other) (subst (λ side. MayBe 2 rights side (Err fault)) right may))));
    left_refused = other-refused 2 1 (λ e. one-two (sym e)) l0.outside.told r1.outside.told mid.right new.left fault cause;
    right_refused = λ rows e. told-refused 2 r1.outside.told mid.right fault cause new.right (ap (λ (side : FeedSide). side.rows) right) rows (t.right_told ∙ e);
    given = given ∙ t.given;
    standing = λ e. absurd (true≢false e);
    kept =
        subst (λ side. IsKept (state_with new.left side new.given)) (sym right)
        (subst (λ side. IsKept (state_with side (record { rows = mid.right.rows; ended = mid.right.ended; draws = raised mid.right.draws }) new.given)) (sym left)
        (subst (λ n. IsKept (state_with mid.left (record { rows = mid.right.rows; ended = mid.right.ended; draws = raised mid.right.draws }) n)) (sym given)
        (kept-drawn (state_with mid.left mid.right mid.given) mid.left.draws (raised mid.right.draws) (is-kept t.standing.made mid t.standing.at))));
    end = λ e. ok_err (sym e);
    still = λ end. absurd (not-end-right need end);
    unbroken = λ e. no-broken 2 r1.outside.told mid.right fault cause (err-same fault Broken e);
    left_drawn = subst (IsDrawnOf true l1) (sym left) (drawn-weaker l1 mid.left t.left_drawn);
    right_drawn = drawn;
    left_told = t.left_told;
    right_told = told ∙ t.right_told;
    left_counts = counts-weaker l0.outside l1.outside (λ e. one-two (failed-side 2 r1.outside.told mid.right fault 1 cause (err-same fault (Failed 1) e))) t.left_counts;
    right_counts = counts-then r0.outside r1.outside r2.outside t.right_counts counts (λ e. ap (failed_with Unit) (err-same fault (Failed 2) e));
    left_grows = subst (λ (side : FeedSide). BeginsWith side.rows old.left.rows) (sym left) t.left_grows;
    right_grows = subst (λ (side : FeedSide). BeginsWith side.rows old.right.rows) (sym right) t.right_grows;
    left_over = λ e. left ∙ t.left_over e;
    right_over = λ e. absurd (going-right need e);
    refused = cause-refusal 2 r1.outside.told mid.right fault cause t.standing.at.right_taken (join_state new false false) (inr refl) (ap (λ (side : FeedSide). side.rows) right) (ap (λ (side : FeedSide). side.ended) right ∙ right-unended t.standing.made mid t.standing.at need);
  }

  -- a pair was given
  pub gave : (pair : Option FeedPair) (new : PartsState) → ask_of mid.core.ripple ≡ Ready → new.left ≡ mid.left → new.right ≡ mid.right → pair ≡ slice_get (pairs_drawn mid.left mid.right) mid.given
      → new.given ≡ given_after (Ok pair) mid.given → ((made : List SideAsk) → StandsAt made mid → StandsAt made new) → Advanced old new l0 l1 r0 r1 (Ok pair)
  gave pair new ready left right is given stands = record {
    next = λ lefts rights may other.
        subst (λ side. IsNext lefts rights old.given side new.right (Ok pair)) (sym left)
        (subst (λ side. IsNext lefts rights old.given mid.left side (Ok pair)) (sym right)
        (subst (λ n. IsNext lefts rights n mid.left mid.right (Ok pair)) t.given
        (let one = subst (λ side. MayBe 1 lefts side (Ok pair)) left may in
        let two = subst (λ side. MayBe 2 rights side (Ok pair)) right other in
        ready-answers t.standing.made mid t.standing.at lefts rights one.scores two.scores one.begins two.begins one.ends two.ends ready pair is)));
    left_refused = λ rows e. tt;
    right_refused = λ rows e. tt;
    given = given ∙ ap (given_after (Ok pair)) t.given;
    standing = λ e. record { made = t.standing.made; at = stands t.standing.made t.standing.at };
    kept = is-kept t.standing.made new (stands t.standing.made t.standing.at);
    end = λ e. absurd (next-there t.standing.made mid t.standing.at ready (sym is ∙ ok-same pair e));
    still = λ end. absurd (not-end-ready ready end);
    unbroken = λ e. ok_err e;
    left_drawn = subst (IsDrawnOf false l1) (sym left) t.left_drawn;
    right_drawn = subst (IsDrawnOf false r1) (sym right) t.right_drawn;
    left_told = t.left_told;
    right_told = t.right_told;
    left_counts = counts-weaker l0.outside l1.outside (λ e. ok_err e) t.left_counts;
    right_counts = counts-weaker r0.outside r1.outside (λ e. ok_err e) t.right_counts;
    left_grows = subst (λ (side : FeedSide). BeginsWith side.rows old.left.rows) (sym left) t.left_grows;
    right_grows = subst (λ (side : FeedSide). BeginsWith side.rows old.right.rows) (sym right) t.right_grows;
    left_over = λ e. left ∙ t.left_over e;
    right_over = λ e. right ∙ t.right_over e;
    refused = tt;
  } where
    ok-same : (p : Option FeedPair) → done_with p ≡ done_with None → p ≡ None
    ok-same p e = cc

  -- there was no memory for it
  pub gave-none : (new : PartsState) → ask_of mid.core.ripple ≡ Ready → new.left ≡ mid.left → new.right ≡ mid.right → new.given ≡ mid.given → Advanced old new l0 l1 r0 r1 (Err Memory)
  gave-none new ready left right given = record {
    next = λ lefts rights may other.
        subst (λ side. IsNext lefts rights old.given side new.right (Err Memory)) (sym left)
        (subst (λ side. IsNext lefts rights old.given mid.left side (Err Memory)) (sym right)
        (subst (λ n. IsNext lefts rights n mid.left mid.right (Err Memory)) t.given
        (let one = subst (λ side. MayBe 1 lefts side (Err Memory)) left may in
        let two = subst (λ side. MayBe 2 rights side (Err Memory)) right other in
        ready-breaks t.standing.made mid t.standing.at lefts rights one.scores two.scores one.begins two.begins one.ends two.ends ready)));
    left_refused = λ rows e. tt;
    right_refused = λ rows e. tt;
    given = given ∙ t.given;
    standing = λ e. absurd (true≢false e);
    kept =
        subst (λ side. IsKept (state_with side new.right new.given)) (sym left)
        (subst (λ side. IsKept (state_with mid.left side new.given)) (sym right)
        (subst (λ n. IsKept (state_with mid.left mid.right n)) (sym given) (is-kept t.standing.made mid t.standing.at)));
    end = λ e. ok_err (sym e);
    still = λ end. absurd (not-end-ready ready end);
    unbroken = λ e. memory-broken (err-same Memory Broken e);
    left_drawn = subst (IsDrawnOf true l1) (sym left) (drawn-weaker l1 mid.left t.left_drawn);
    right_drawn = subst (IsDrawnOf true r1) (sym right) (drawn-weaker r1 mid.right t.right_drawn);
    left_told = t.left_told;
    right_told = t.right_told;
    left_counts = counts-weaker l0.outside l1.outside (λ e. memory-failed (err-same Memory (Failed 1) e)) t.left_counts;
    right_counts = counts-weaker r0.outside r1.outside (λ e. memory-failed (err-same Memory (Failed 2) e)) t.right_counts;
    left_grows = subst (λ (side : FeedSide). BeginsWith side.rows old.left.rows) (sym left) t.left_grows;
    right_grows = subst (λ (side : FeedSide). BeginsWith side.rows old.right.rows) (sym right) t.right_grows;
    left_over = λ e. left ∙ t.left_over e;
    right_over = λ e. right ∙ t.right_over e;
    refused = tt;
  } where
    memory-broken : Memory ≡ Broken → ⊥
    memory-broken e = cc

    memory-failed : {n : ℕ} → Memory ≡ Failed n → ⊥
    memory-failed e = cc

  -- either, by the answer
  pub gave-by : (result : Result (Option FeedPair) JoinFault) (new : PartsState) → ask_of mid.core.ripple ≡ Ready → new.left ≡ mid.left → new.right ≡ mid.right
      → IfOk result (λ pair. pair ≡ slice_get (pairs_drawn mid.left mid.right) mid.given) → new.given ≡ given_after result mid.given
      → OnOk result ((made : List SideAsk) → StandsAt made mid → StandsAt made new) → OnErr result (result ≡ Err Memory) → Advanced old new l0 l1 r0 r1 result
  gave-by (Ok pair) new ready left right is given stands err = gave pair new ready left right is given stands
  gave-by (Err fault) new ready left right is given stands err = subst (λ (r : Result (Option FeedPair) JoinFault). Advanced old new l0 l1 r0 r1 r) (sym err) (gave-none new ready left right given)

  -- there is none
  pub ended : ask_of mid.core.ripple ≡ End → Advanced old mid l0 l1 r0 r1 (Ok None)
  ended end = record {
    next = λ lefts rights may other.
        subst (λ n. IsNext lefts rights n mid.left mid.right (Ok None)) t.given
        (end-answers t.standing.made mid t.standing.at lefts rights may.scores other.scores may.begins other.begins may.ends other.ends end);
    left_refused = λ rows e. tt;
    right_refused = λ rows e. tt;
    given = t.given;
    standing = λ e. t.standing;
    kept = is-kept t.standing.made mid t.standing.at;
    end = λ e. (end, is-whole t.standing.made mid t.standing.at end);
    still = λ e. (refl, (t.still e).0, (t.still e).1, (t.still e).2);
    unbroken = λ e. ok_err e;
    left_drawn = t.left_drawn;
    right_drawn = t.right_drawn;
    left_told = t.left_told;
    right_told = t.right_told;
    left_counts = counts-weaker l0.outside l1.outside (λ e. ok_err e) t.left_counts;
    right_counts = counts-weaker r0.outside r1.outside (λ e. ok_err e) t.right_counts;
    left_grows = t.left_grows;
    right_grows = t.right_grows;
    left_over = t.left_over;
    right_over = t.right_over;
    refused = tt;
  }
