-- The join made all draws of both feeds.
use Rattle.rs_feed.specs.MemFeed.{feed_state}
use Rattle.rs_feed_join.specs.Sides.{IsDrawnOf}
use Rattle.test_feeds.proofs.memory.assert_front.Given as goal

abbrev pub invariant-loop-step : goal.invariant-loop-step
invariant-loop-step g l = IsDrawnOf l.join.broken (feed_state l.left) l.join.left × IsDrawnOf l.join.broken (feed_state l.right) l.join.right
