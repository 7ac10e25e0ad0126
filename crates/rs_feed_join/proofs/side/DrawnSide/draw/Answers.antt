-- A row that was drawn is taken unless it is refused, and each answer of the feed is one draw.
use Rattle.std.proofs.Common.{◌≡◌, ◌∙◌, Bool, true, Some, None, Err, refl, sym, ap}
use Rattle.rs_value.proofs.ResultFacts.{given-err}
use Rattle.rs_feed_join.specs.declared.fault.JoinFault.TheVariants.{Failed, Memory}
use Rattle.rs_feed_join.specs.Sides.{side_of}
use Rattle.rs_feed_join.proofs.CallFacts.{cause-failed, cause-of, counts-from, ended-drawn, err-same, failed_with, next-is, ok_err, stopped-drawn, stopped-drew, took-drawn, took-drew}
use Rattle.rs_feed_join.proofs.side.DrawnSide.draw.Goals as goal

memory-failed : {side : _} → failed_with Bool Memory ≡ failed_with Bool (Failed side) → ⊥
memory-failed {side} e = let f = err-same Memory (Failed side) e in cc

-- the row wasn't taken
pub returns-in_err-take-in-Ok-Some-clause-step : goal.returns-in_err-take-in-Ok-Some-clause-step
returns-in_err-take-in-Ok-Some-clause-step g c =
    let feed = g.F.Feed.state c.args.feed.now in
    let fault = c.in_err-take-in-Ok-Some.field-0.0 in
    let gives = rw c.in-Ok-Some.field-0-is at c.in-Ok-Some.ensures.row in
    stopped-drew c.args.side feed (g.F.Feed.state c.draw.new.self) (side_of c.args.self.now) c.requires.drawn c.draw.ensures.told c.draw.ensures.draws (side_of c.take.new.self) c.saturating_add-self.result c.saturating_add-self.ensures
    fault c.from_residual.result (given-err c.from_residual.result fault c.from_residual.ensures)
    (cause-of c.args.side feed.outside.told (side_of c.args.self.now) c.in-Ok-Some.row fault (next-is feed (side_of c.args.self.now) (Some c.in-Ok-Some.row) c.requires.drawn gives) c.take.ensures.score c.in_err-take-in-Ok-Some.ensures.cause)
    c.in_err-take-in-Ok-Some.ensures.err

pub returns-in_err-take-in-Ok-Some-clause-drawn : goal.returns-in_err-take-in-Ok-Some-clause-drawn
returns-in_err-take-in-Ok-Some-clause-drawn g c =
    let fault = c.in_err-take-in-Ok-Some.field-0.0 in
    stopped-drawn c.args.side (g.F.Feed.state c.args.feed.now) (g.F.Feed.state c.draw.new.self) (side_of c.args.self.now) c.requires.drawn c.draw.ensures.told c.draw.ensures.draws (side_of c.take.new.self) c.saturating_add-self.result c.saturating_add-self.ensures
    c.requires.going fault c.from_residual.result (given-err c.from_residual.result fault c.from_residual.ensures) c.in_err-take-in-Ok-Some.ensures.err

pub returns-in_err-take-in-Ok-Some-clause-counts : goal.returns-in_err-take-in-Ok-Some-clause-counts
returns-in_err-take-in-Ok-Some-clause-counts g c =
    let fault = c.in_err-take-in-Ok-Some.field-0.0 in
    counts-from _ _ c.draw.ensures.counts
    (λ e. absurd (cause-failed c.args.side c.args.self.now.rows.items c.in-Ok-Some.row.score c.args.side fault c.in_err-take-in-Ok-Some.ensures.cause
    (err-same fault (Failed c.args.side) (sym (given-err c.from_residual.result fault c.from_residual.ensures) ∙ e))))

-- it was
pub returns-in_ok-take-in-Ok-Some-clause-step : goal.returns-in_ok-take-in-Ok-Some-clause-step
returns-in_ok-take-in-Ok-Some-clause-step g c =
    let gives = rw c.in-Ok-Some.field-0-is at c.in-Ok-Some.ensures.row in
    took-drew c.args.side (g.F.Feed.state c.args.feed.now) (g.F.Feed.state c.draw.new.self) (side_of c.args.self.now) c.requires.drawn c.draw.ensures.told c.draw.ensures.draws (side_of c.take.new.self) c.saturating_add-self.result c.saturating_add-self.ensures
    c.in-Ok-Some.row gives c.take.ensures.score c.in_ok-take-in-Ok-Some.ensures.ok c.in_ok-take-in-Ok-Some.ensures.rows

pub returns-in_ok-take-in-Ok-Some-clause-drawn : goal.returns-in_ok-take-in-Ok-Some-clause-drawn
returns-in_ok-take-in-Ok-Some-clause-drawn g c =
    let gives = rw c.in-Ok-Some.field-0-is at c.in-Ok-Some.ensures.row in
    let given = rw c.in-Ok-Some.field-0-is at c.in-Ok-Some.ensures.given in
    took-drawn c.args.side (g.F.Feed.state c.args.feed.now) (g.F.Feed.state c.draw.new.self) (side_of c.args.self.now) c.requires.drawn c.draw.ensures.told c.draw.ensures.draws (side_of c.take.new.self) c.saturating_add-self.result c.saturating_add-self.ensures
    c.requires.going c.requires.rows c.in-Ok-Some.row gives given c.in_ok-take-in-Ok-Some.ensures.rows

pub returns-in_ok-take-in-Ok-Some-clause-counts : goal.returns-in_ok-take-in-Ok-Some-clause-counts
returns-in_ok-take-in-Ok-Some-clause-counts g c = counts-from _ _ c.draw.ensures.counts (λ e. ok_err e)

-- there is none
pub returns-in-Ok-None-clause-step : goal.returns-in-Ok-None-clause-step
returns-in-Ok-None-clause-step g c =
    let gives = rw c.in-Ok-None.field-0-is at c.in-Ok-None.ensures.row in
    record { next = next-is (g.F.Feed.state c.args.feed.now) (side_of c.args.self.now) None c.requires.drawn gives; after = ap (λ n. record { rows = c.args.self.now.rows.items; ended = true; draws = n }) c.saturating_add-self.ensures }

pub returns-in-Ok-None-clause-drawn : goal.returns-in-Ok-None-clause-drawn
returns-in-Ok-None-clause-drawn g c =
    let gives = rw c.in-Ok-None.field-0-is at c.in-Ok-None.ensures.row in
    let given = rw c.in-Ok-None.field-0-is at c.in-Ok-None.ensures.given in
    ended-drawn c.args.side (g.F.Feed.state c.args.feed.now) (g.F.Feed.state c.draw.new.self) (side_of c.args.self.now) c.requires.drawn c.draw.ensures.told c.draw.ensures.draws _ c.saturating_add-self.result c.saturating_add-self.ensures gives given refl

pub returns-in-Ok-None-clause-counts : goal.returns-in-Ok-None-clause-counts
returns-in-Ok-None-clause-counts g c = counts-from _ _ c.draw.ensures.counts (λ e. ok_err e)

-- the draw failed
pub returns-in-Err-Failed-clause-step : goal.returns-in-Err-Failed-clause-step
returns-in-Err-Failed-clause-step g c = (refl, ap (λ n. record { rows = c.args.self.now.rows.items; ended = c.args.self.now.ended; draws = n }) c.saturating_add-self.ensures)

pub returns-in-Err-Failed-clause-drawn : goal.returns-in-Err-Failed-clause-drawn
returns-in-Err-Failed-clause-drawn g c =
    stopped-drawn c.args.side (g.F.Feed.state c.args.feed.now) (g.F.Feed.state c.draw.new.self) (side_of c.args.self.now) c.requires.drawn c.draw.ensures.told c.draw.ensures.draws _ c.saturating_add-self.result c.saturating_add-self.ensures
    c.requires.going (Failed c.args.side) (Err (Failed c.args.side)) refl refl

pub returns-in-Err-Failed-clause-counts : goal.returns-in-Err-Failed-clause-counts
returns-in-Err-Failed-clause-counts g c = counts-from _ _ c.in-Err-Failed.ensures.counts (λ e. ap Err c.in-Err-Failed.field-0-is)

-- or there was no memory
pub returns-in-Err-Memory-clause-step : goal.returns-in-Err-Memory-clause-step
returns-in-Err-Memory-clause-step g c = (tt, ap (λ n. record { rows = c.args.self.now.rows.items; ended = c.args.self.now.ended; draws = n }) c.saturating_add-self.ensures)

pub returns-in-Err-Memory-clause-drawn : goal.returns-in-Err-Memory-clause-drawn
returns-in-Err-Memory-clause-drawn g c =
    stopped-drawn c.args.side (g.F.Feed.state c.args.feed.now) (g.F.Feed.state c.draw.new.self) (side_of c.args.self.now) c.requires.drawn c.draw.ensures.told c.draw.ensures.draws _ c.saturating_add-self.result c.saturating_add-self.ensures
    c.requires.going Memory (Err Memory) refl refl

pub returns-in-Err-Memory-clause-counts : goal.returns-in-Err-Memory-clause-counts
returns-in-Err-Memory-clause-counts g c = counts-from _ _ c.draw.ensures.counts (λ e. absurd (memory-failed e))
