-- The join made all draws of both feeds.
use Rattle.rs_feed_join.specs.Sides.{IsDrawnOf}
use Rattle.test_feeds.proofs.joins.assert_pairs.Given as goal

abbrev pub invariant-loop-pair : goal.invariant-loop-pair
invariant-loop-pair g l = IsDrawnOf l.join.broken (g.L.Feed.state l.left) l.join.left × IsDrawnOf l.join.broken (g.R.Feed.state l.right) l.join.right
