-- What a call of a join of two feeds leaves, by what drawing up to the next pair does.
use Rattle.std.proofs.Common.{◌≡◌, ℕ, Bool, true, false, List, Option, Some, None, Result, Ok, Err, is_err, refl, sym, ◌∙◌, subst}
use Rattle.std.proofs.lemmas.Bool.{true≢false}
use Rattle.std.specs.Option.{IfSome}
use Rattle.std.specs.Prelude.{◌↔◌}
use Rattle.rs_feed.specs.declared.feed_row.FeedRow.{FeedRow}
use Rattle.rs_feed.specs.Feeds.{FeedState}
use Rattle.rs_rank.specs.declared.ask.JoinAsk.TheVariants.{End}
use Rattle.rs_ripple.specs.Ripple.{ask_of}
use Rattle.rs_ripple.specs.Stands.{BeginsWith}
use Rattle.rs_value.specs.Outside.{Counts, Outside}
use Rattle.rs_feed_join.specs.declared.fault.JoinFault.{JoinFault}
use Rattle.rs_feed_join.specs.declared.fault.JoinFault.TheVariants.{Broken, Failed}
use Rattle.rs_feed_join.specs.declared.feed_pair.FeedPair.{FeedPair}
use Rattle.rs_feed_join.specs.Answers.{HasRefused, IsNext, MayBe}
use Rattle.rs_feed_join.specs.Cuts.{HaveScores}
use Rattle.rs_feed_join.specs.Joins.{IsAfter, IsKept, finished_after}
use Rattle.rs_feed_join.specs.Parts.{Advanced, IsStanding, PartsState, join_state}
use Rattle.rs_feed_join.specs.Sides.{FeedSide, IsDrawnOf}
use Rattle.rs_feed_join.proofs.CallFacts.{counts-from, err-same, failed_with, ok_err}
use Rattle.rs_feed_join.proofs.TurnFacts.{counts-none, kept-broken}

abbrev pub answer : Option FeedPair → Result (Option FeedPair) JoinFault
answer pair = Ok pair

some-other : (pair : FeedPair) → answer (Some pair) ≡ answer None → ⊥
some-other pair e = cc

broken-failed : {side : ℕ} → Broken ≡ Failed side → ⊥
broken-failed e = cc

-- nothing is drawn of a join that is broken
pub still-counts : (side : ℕ) (object : Outside (List FeedRow)) → Counts (failed_with (Option FeedPair) Broken ≡ failed_with (Option FeedPair) (Failed side)) object object
still-counts side object = counts-from object object (counts-none object) (λ e. broken-failed (err-same Broken (Failed side) e))

-- a side of a feed that tells its rows
pub may-tell : (number : ℕ) (failed : Bool) (feed : FeedState) (side : FeedSide) (result : Result (Option FeedPair) JoinFault) (rows : List FeedRow) → feed.outside.told ≡ Some rows → HaveScores rows → IsDrawnOf failed feed side → HasRefused number rows side result → MayBe number rows side result
may-tell number failed feed side result rows told scores drawn refused = record {
  scores = scores;
  begins = subst (λ t. IfSome t (λ rows. BeginsWith rows side.rows)) told drawn.rows;
  ends = λ e. subst (λ t. IfSome t (λ rows. rows ≡ side.rows)) told (drawn.ended e);
  refused = refused;
}

module _ (old new : PartsState) (finished : Bool) (l0 l1 r0 r1 : FeedState) (result : Result (Option FeedPair) JoinFault) (a : Advanced old new l0 l1 r0 r1 result) (end : finished ≡ true → ask_of old.core.ripple ≡ End) where
  -- what is told of feeds that tell their rows
  pub next-told : (lefts rights : List FeedRow) → l0.outside.told ≡ Some lefts → r0.outside.told ≡ Some rights → HaveScores lefts → HaveScores rights → IsNext lefts rights old.given new.left new.right result
  next-told lefts rights told telling scores scoring =
      a.next lefts rights
      (may-tell 1 (is_err result) l1 new.left result lefts (a.left_told ∙ told) scores a.left_drawn (a.left_refused lefts told))
      (may-tell 2 (is_err result) r1 new.right result rights (a.right_told ∙ telling) scoring a.right_drawn (a.right_refused rights telling))

  pub next-after : IsAfter (join_state old finished false) (join_state new (finished_after result finished) (is_err result)) result
  next-after = record { given = a.given; finished = refl; broken = refl; left_grows = a.left_grows; right_grows = a.right_grows; left_over = a.left_over; right_over = a.right_over }

  pub next-broken : (result ≡ Err Broken) ↔ (false ≡ true)
  next-broken = (λ e. absurd (a.unbroken e), λ e. absurd (true≢false (sym e)))

  pub next-kept : IsKept (join_state new (finished_after result finished) (is_err result))
  next-kept = go result finished a.kept (λ e. (a.end e).1) (λ e. (a.still (end e)).0) where
    go : (r : Result (Option FeedPair) JoinFault) (f : Bool) → IsKept (join_state new false false) → (r ≡ answer None → IsKept (join_state new true false)) → (f ≡ true → r ≡ answer None) → IsKept (join_state new (finished_after r f) (is_err r))
    go (Ok (Some pair)) false kept whole over = kept
    go (Ok (Some pair)) true kept whole over = absurd (some-other pair (over refl))
    go (Ok None) f kept whole over = whole refl
    go (Err fault) false kept whole over = kept-broken (join_state new false false) true kept
    go (Err fault) true kept whole over = ok_err (sym (over refl))

  pub next-standing : is_err result ≡ false → IsStanding new
  next-standing = a.standing

  pub next-end : is_err result ≡ false → finished_after result finished ≡ true → ask_of new.core.ripple ≡ End
  next-end = go result finished (λ e. (a.end e).0) (λ e. (a.still (end e)).0) where
    go : (r : Result (Option FeedPair) JoinFault) (f : Bool) → (r ≡ answer None → ask_of new.core.ripple ≡ End) → (f ≡ true → r ≡ answer None) → is_err r ≡ false → finished_after r f ≡ true → ask_of new.core.ripple ≡ End
    go (Ok (Some pair)) f whole over e g = absurd (some-other pair (over g))
    go (Ok None) f whole over e g = whole refl
    go (Err fault) f whole over e g = absurd (true≢false e)
