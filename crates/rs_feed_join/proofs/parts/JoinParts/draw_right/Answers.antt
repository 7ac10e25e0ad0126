-- What came of the feed is told to the core: a row, which is taken back where there is no memory, or the end.
use Rattle.std.proofs.Common.{◌≡◌, ◌∙◌, Bool, true, Result, Ok, Err, refl, sym, ap, subst, inl, inr, arith}
use Rattle.std.specs.Prelude.{OnOk, is_ok, vec_len}
use Rattle.rs_value.proofs.ResultFacts.{given-err}
use Rattle.rs_feed_join.specs.declared.fault.JoinFault.TheVariants.{Failed, Memory}
use Rattle.rs_feed_join.specs.Parts.{parts_of}
use Rattle.rs_feed_join.specs.Sides.{FeedSide, IsDrawnOf, side_of}
use Rattle.rs_value.specs.Faults.{raised}
use Rattle.rs_feed_join.proofs.CallFacts.{counts-from, drawn-failed, err-same, failed_with, ok_err}
use Rattle.rs_feed_join.proofs.DrawFacts.{right-fed-can, right-fed-exact, right-fed-few, right-fed-fits, right-fed-last, right-fed-stands, right-fed-values, taken-back}
use Rattle.rs_feed_join.proofs.FeedingFacts.{drew-ended, drew-took, right-over-stands}
use Rattle.rs_feed_join.proofs.StandFacts.{can-end-right, right-unended}
use Rattle.rs_feed_join.proofs.parts.JoinParts.draw_right.Goals as goal

memory-failed : failed_with Unit Memory ≡ failed_with Unit (Failed 2) → ⊥
memory-failed e = let f = err-same Memory (Failed 2) e in cc

on_ok : {A E P : Type 0} (r : Result A E) → is_ok r ≡ true → OnOk r P → P
on_ok (Ok a) e p = p
on_ok (Err f) e p = absurd (cc)

pub draw-requires-clause-going : goal.draw-requires-clause-going
draw-requires-clause-going g c = right-unended c.requires.standing.made (parts_of c.args.self.now) c.requires.standing.at c.requires.need

pub draw-requires-clause-rows : goal.draw-requires-clause-rows
draw-requires-clause-rows g c = c.requires.standing.at.right_taken

-- no row was taken
pub returns-in_err-draw-clause-stands : goal.returns-in_err-draw-clause-stands
returns-in_err-draw-clause-stands g c = rw (given-err c.from_residual.result c.in_err-draw.field-0.0 c.from_residual.ensures) tt

pub returns-in_err-draw-clause-step : goal.returns-in_err-draw-clause-step
returns-in_err-draw-clause-step g c = rw (given-err c.from_residual.result c.in_err-draw.field-0.0 c.from_residual.ensures) c.in_err-draw.ensures.step

pub returns-in_err-draw-clause-drawn : goal.returns-in_err-draw-clause-drawn
returns-in_err-draw-clause-drawn g c = rw (given-err c.from_residual.result c.in_err-draw.field-0.0 c.from_residual.ensures) c.in_err-draw.ensures.drawn

pub returns-in_err-draw-clause-counts : goal.returns-in_err-draw-clause-counts
returns-in_err-draw-clause-counts g c =
    let fault = c.in_err-draw.field-0.0 in
    counts-from {F = failed_with Bool fault ≡ failed_with Bool (Failed 2)} _ _ c.in_err-draw.ensures.counts
    (λ e. ap (failed_with Bool) (err-same fault (Failed 2) (sym (given-err c.from_residual.result fault c.from_residual.ensures) ∙ e)))

-- there is none
pub right_ended-requires : goal.right_ended-requires
right_ended-requires g c = can-end-right c.requires.standing.made (parts_of c.args.self.now) c.requires.standing.at c.requires.need

pub returns-then-not-branch-clause-stands : goal.returns-then-not-branch-clause-stands
returns-then-not-branch-clause-stands g c = λ made s.
    right-over-stands made (parts_of c.args.self.now) s (g.F.Feed.state c.args.feed.now).outside.told c.requires.need c.right_ended.new.self _ _ _
    (drew-ended 2 (g.F.Feed.state c.args.feed.now).outside.told (side_of c.args.self.now.right) (side_of c.draw.new.self) c.in_ok-draw.field-0 c.if-not-branch.true c.in_ok-draw.ensures.step)
    c.right_ended.ensures.ended refl refl

pub returns-then-not-branch-clause-step : goal.returns-then-not-branch-clause-step
returns-then-not-branch-clause-step g c =
    inr (drew-ended 2 (g.F.Feed.state c.args.feed.now).outside.told (side_of c.args.self.now.right) (side_of c.draw.new.self) c.in_ok-draw.field-0 c.if-not-branch.true c.in_ok-draw.ensures.step)

pub returns-then-not-branch-clause-counts : goal.returns-then-not-branch-clause-counts
returns-then-not-branch-clause-counts g c = counts-from _ _ c.draw.ensures.counts (λ e. ok_err e)

-- a row came
pub feed_right-fed-requires : goal.feed_right-fed-requires
feed_right-fed-requires g c =
    let made = c.requires.standing.made in
    let parts = parts_of c.args.self.now in
    let s = c.requires.standing.at in
    let told = (g.F.Feed.state c.args.feed.now).outside.told in
    let drawn = side_of c.draw.new.self in record {
      last = right-fed-last made parts s told c.requires.need drawn (drew-took 2 (g.F.Feed.state c.args.feed.now).outside.told (side_of c.args.self.now.right) (side_of c.draw.new.self) c.in_ok-draw.field-0 c.if-not-branch.false c.in_ok-draw.ensures.step) c.deref.result.now c.deref-2.result.now (c.deref.ensures.value) (c.deref-2.ensures.value);
      can = right-fed-can made parts s told c.requires.need drawn (drew-took 2 (g.F.Feed.state c.args.feed.now).outside.told (side_of c.args.self.now.right) (side_of c.draw.new.self) c.in_ok-draw.field-0 c.if-not-branch.false c.in_ok-draw.ensures.step) c.deref.result.now c.deref-2.result.now (c.deref.ensures.value) (c.deref-2.ensures.value);
      fits = right-fed-fits made parts s told c.requires.need drawn (drew-took 2 (g.F.Feed.state c.args.feed.now).outside.told (side_of c.args.self.now.right) (side_of c.draw.new.self) c.in_ok-draw.field-0 c.if-not-branch.false c.in_ok-draw.ensures.step) c.deref.result.now c.deref-2.result.now (c.deref.ensures.value) (c.deref-2.ensures.value);
      values = right-fed-values made parts s told c.requires.need drawn (drew-took 2 (g.F.Feed.state c.args.feed.now).outside.told (side_of c.args.self.now.right) (side_of c.draw.new.self) c.in_ok-draw.field-0 c.if-not-branch.false c.in_ok-draw.ensures.step) c.deref.result.now c.deref-2.result.now (c.deref.ensures.value) (c.deref-2.ensures.value);
      exact = right-fed-exact made parts s told c.requires.need drawn (drew-took 2 (g.F.Feed.state c.args.feed.now).outside.told (side_of c.args.self.now.right) (side_of c.draw.new.self) c.in_ok-draw.field-0 c.if-not-branch.false c.in_ok-draw.ensures.step) c.deref.result.now c.deref-2.result.now (c.deref.ensures.value) (c.deref-2.ensures.value);
      few = right-fed-few made parts s told c.requires.need drawn (drew-took 2 (g.F.Feed.state c.args.feed.now).outside.told (side_of c.args.self.now.right) (side_of c.draw.new.self) c.in_ok-draw.field-0 c.if-not-branch.false c.in_ok-draw.ensures.step) c.deref.result.now c.deref-2.result.now (c.deref.ensures.value) (c.deref-2.ensures.value);
    }

-- there was no memory for it
pub returns-then-is_err-clause-step : goal.returns-then-is_err-clause-step
returns-then-is_err-clause-step g c = (tt, taken-back 2 (g.F.Feed.state c.args.feed.now).outside.told (side_of c.args.self.now.right) (side_of c.draw.new.self) (drew-took 2 (g.F.Feed.state c.args.feed.now).outside.told (side_of c.args.self.now.right) (side_of c.draw.new.self) c.in_ok-draw.field-0 c.if-not-branch.false c.in_ok-draw.ensures.step) c.pop.new.self.items (vec_len c.draw.new.self.rows) (omega (arith, c.draw.new.self.rows.ok.0)) c.pop.ensures.rest)

pub returns-then-is_err-clause-drawn : goal.returns-then-is_err-clause-drawn
returns-then-is_err-clause-drawn g c =
    subst (IsDrawnOf true (g.F.Feed.state c.draw.new.feed)) (sym (taken-back 2 (g.F.Feed.state c.args.feed.now).outside.told (side_of c.args.self.now.right) (side_of c.draw.new.self) (drew-took 2 (g.F.Feed.state c.args.feed.now).outside.told (side_of c.args.self.now.right) (side_of c.draw.new.self) c.in_ok-draw.field-0 c.if-not-branch.false c.in_ok-draw.ensures.step) c.pop.new.self.items (vec_len c.draw.new.self.rows) (omega (arith, c.draw.new.self.rows.ok.0)) c.pop.ensures.rest))
    (drawn-failed (g.F.Feed.state c.args.feed.now) (g.F.Feed.state c.draw.new.feed) (side_of c.args.self.now.right) c.requires.drawn (right-unended c.requires.standing.made (parts_of c.args.self.now) c.requires.standing.at c.requires.need) c.draw.ensures.told
    (c.in_ok-draw.ensures.drawn.draws ∙ ap (λ (s : FeedSide). s.draws) (drew-took 2 (g.F.Feed.state c.args.feed.now).outside.told (side_of c.args.self.now.right) (side_of c.draw.new.self) c.in_ok-draw.field-0 c.if-not-branch.false c.in_ok-draw.ensures.step).after ∙ ap raised (sym c.requires.drawn.draws)))

pub returns-then-is_err-clause-counts : goal.returns-then-is_err-clause-counts
returns-then-is_err-clause-counts g c = counts-from _ _ c.draw.ensures.counts (λ e. absurd (memory-failed e))

-- it was fed
pub returns-clause-stands : goal.returns-clause-stands
returns-clause-stands g c = λ made s.
    right-fed-stands made (parts_of c.args.self.now) s (g.F.Feed.state c.args.feed.now).outside.told c.requires.need (side_of c.draw.new.self) (drew-took 2 (g.F.Feed.state c.args.feed.now).outside.told (side_of c.args.self.now.right) (side_of c.draw.new.self) c.in_ok-draw.field-0 c.if-not-branch.false c.in_ok-draw.ensures.step) c.deref.result.now c.deref-2.result.now (c.deref.ensures.value) (c.deref-2.ensures.value)
    c.feed_right-fed.new.core _ _ (on_ok c.feed_right-fed.result c.if-is_err.ensures.negation c.feed_right-fed.ensures) refl refl

pub returns-clause-step : goal.returns-clause-step
returns-clause-step g c = inl (drew-took 2 (g.F.Feed.state c.args.feed.now).outside.told (side_of c.args.self.now.right) (side_of c.draw.new.self) c.in_ok-draw.field-0 c.if-not-branch.false c.in_ok-draw.ensures.step)

pub returns-clause-drawn : goal.returns-clause-drawn
returns-clause-drawn g c = c.in_ok-draw.ensures.drawn

pub returns-clause-counts : goal.returns-clause-counts
returns-clause-counts g c = counts-from _ _ c.draw.ensures.counts (λ e. ok_err e)
