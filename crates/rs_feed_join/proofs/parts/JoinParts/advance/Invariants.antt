use Rattle.std.proofs.Common.{◌+◌}
use Rattle.rs_feed_join.specs.Parts.{Turn, draws_left, parts_of}
use Rattle.rs_feed_join.specs.Sides.{side_of}
use Rattle.rs_feed_join.proofs.parts.JoinParts.advance.Given as goal

-- the join stands between two asks, and so do its feeds
abbrev pub invariant-loop-self : goal.invariant-loop-self
invariant-loop-self g l =
    Turn (parts_of l.fn.self) (parts_of l.self) (g.L.Feed.state l.fn.left) (g.L.Feed.state l.left) (g.R.Feed.state l.fn.right) (g.R.Feed.state l.right)

-- the most draws of both sides that are left
abbrev pub decreases-loop-self : goal.decreases-loop-self
decreases-loop-self g l = draws_left (side_of l.self.left) + draws_left (side_of l.self.right)
