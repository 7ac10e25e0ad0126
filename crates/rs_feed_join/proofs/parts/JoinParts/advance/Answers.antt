-- Each draw leaves the join standing with one draw less to come; a pair is given once the join is ready.
use Rattle.std.proofs.Common.{sym}
use Rattle.rs_value.proofs.ResultFacts.{given-err}
use Rattle.rs_feed_join.specs.Parts.{parts_of}
use Rattle.rs_feed_join.specs.Sides.{side_of}
use Rattle.rs_feed_join.proofs.MeasureFacts.{left-fewer, right-fewer}
use Rattle.rs_feed_join.proofs.StandFacts.{alive, left-unended, right-unended}
use Rattle.rs_feed_join.proofs.TurnFacts.{ended, gave-by, stopped-left, stopped-right, turn-begins, turn-left, turn-right}
use Rattle.rs_feed_join.proofs.parts.JoinParts.advance.Goals as goal

pub loop-self-init : goal.loop-self-init
loop-self-init g c = turn-begins (parts_of c.args.self.now) (g.L.Feed.state c.args.left.now) (g.R.Feed.state c.args.right.now) c.requires.standing c.requires.left c.requires.right

pub ask-requires : goal.ask-requires
ask-requires g c = alive c.loop-self.invariant.standing.made (parts_of c.loop-self.self) c.loop-self.invariant.standing.at

-- a draw of the left feed
pub draw_left-requires : goal.draw_left-requires
draw_left-requires g c = record { standing = c.loop-self.invariant.standing; need = sym c.in-NeedLeft.ensures.ask; drawn = c.loop-self.invariant.left_drawn }

pub returns-in_err-draw_left-in-NeedLeft : goal.returns-in_err-draw_left-in-NeedLeft
returns-in_err-draw_left-in-NeedLeft g c =
    let step = c.in_err-draw_left-in-NeedLeft.ensures.step in
    rw (given-err c.from_residual.result c.in_err-draw_left-in-NeedLeft.field-0.0 c.from_residual.ensures)
    (stopped-left _ _ _ _ _ _ c.loop-self.invariant c.in_err-draw_left-in-NeedLeft.field-0.0 (parts_of c.draw_left.new.self) (g.L.Feed.state c.draw_left.new.feed) (sym c.in-NeedLeft.ensures.ask)
    step.0 step.1 c.draw_left.ensures.other c.draw_left.ensures.given c.in_err-draw_left-in-NeedLeft.ensures.drawn c.draw_left.ensures.told c.in_err-draw_left-in-NeedLeft.ensures.counts)

pub loop-self-preserved-in-Continue-1 : goal.loop-self-preserved-in-Continue-1
loop-self-preserved-in-Continue-1 g c =
    turn-left _ _ _ _ _ _ c.loop-self.invariant (parts_of c.draw_left.new.self) (g.L.Feed.state c.draw_left.new.feed) (sym c.in-NeedLeft.ensures.ask) c.in_ok-draw_left-in-NeedLeft.ensures.stands
    c.in_ok-draw_left-in-NeedLeft.ensures.step c.draw_left.ensures.other c.draw_left.ensures.given c.in_ok-draw_left-in-NeedLeft.ensures.drawn c.draw_left.ensures.told c.in_ok-draw_left-in-NeedLeft.ensures.counts

pub loop-self-smaller-in-Continue-1 : goal.loop-self-smaller-in-Continue-1
loop-self-smaller-in-Continue-1 g c =
    let standing = c.loop-self.invariant.standing in
    left-fewer 1 _ (side_of c.loop-self.self.left) (side_of c.draw_left.new.self.left) (side_of c.loop-self.self.right) (side_of c.draw_left.new.self.right)
    (left-unended standing.made (parts_of c.loop-self.self) standing.at (sym c.in-NeedLeft.ensures.ask)) standing.at.left_taken c.in_ok-draw_left-in-NeedLeft.ensures.step c.draw_left.ensures.other

-- a draw of the right feed
pub draw_right-requires : goal.draw_right-requires
draw_right-requires g c = record { standing = c.loop-self.invariant.standing; need = sym c.in-NeedRight.ensures.ask; drawn = c.loop-self.invariant.right_drawn }

pub returns-in_err-draw_right-in-NeedRight : goal.returns-in_err-draw_right-in-NeedRight
returns-in_err-draw_right-in-NeedRight g c =
    let step = c.in_err-draw_right-in-NeedRight.ensures.step in
    rw (given-err c.from_residual-in_err-draw_right-in-NeedRight.result c.in_err-draw_right-in-NeedRight.field-0.0 c.from_residual-in_err-draw_right-in-NeedRight.ensures)
    (stopped-right _ _ _ _ _ _ c.loop-self.invariant c.in_err-draw_right-in-NeedRight.field-0.0 (parts_of c.draw_right.new.self) (g.R.Feed.state c.draw_right.new.feed) (sym c.in-NeedRight.ensures.ask)
    step.0 step.1 c.draw_right.ensures.other c.draw_right.ensures.given c.in_err-draw_right-in-NeedRight.ensures.drawn c.draw_right.ensures.told c.in_err-draw_right-in-NeedRight.ensures.counts)

pub loop-self-preserved : goal.loop-self-preserved
loop-self-preserved g c =
    turn-right _ _ _ _ _ _ c.loop-self.invariant (parts_of c.draw_right.new.self) (g.R.Feed.state c.draw_right.new.feed) (sym c.in-NeedRight.ensures.ask) c.in_ok-draw_right-in-NeedRight.ensures.stands
    c.in_ok-draw_right-in-NeedRight.ensures.step c.draw_right.ensures.other c.draw_right.ensures.given c.in_ok-draw_right-in-NeedRight.ensures.drawn c.draw_right.ensures.told c.in_ok-draw_right-in-NeedRight.ensures.counts

pub loop-self-smaller : goal.loop-self-smaller
loop-self-smaller g c =
    let standing = c.loop-self.invariant.standing in
    right-fewer 2 _ (side_of c.loop-self.self.right) (side_of c.draw_right.new.self.right) (side_of c.loop-self.self.left) (side_of c.draw_right.new.self.left)
    (right-unended standing.made (parts_of c.loop-self.self) standing.at (sym c.in-NeedRight.ensures.ask)) standing.at.right_taken c.in_ok-draw_right-in-NeedRight.ensures.step c.draw_right.ensures.other

-- the join is ready, or it has no pair more
pub give-requires : goal.give-requires
give-requires g c = record { standing = c.loop-self.invariant.standing; ready = sym c.in-Ready.ensures.ask }

pub returns-in-Ready : goal.returns-in-Ready
returns-in-Ready g c =
    gave-by _ _ _ _ _ _ c.loop-self.invariant c.give.result (parts_of c.give.new.self) (sym c.in-Ready.ensures.ask) c.give.ensures.left c.give.ensures.right c.give.ensures.pair c.give.ensures.given c.give.ensures.stands c.give.ensures.err

pub returns-in-End : goal.returns-in-End
returns-in-End g c = ended _ _ _ _ _ _ c.loop-self.invariant (sym c.in-End.ensures.ask)
