-- The side keeps whether it ended.
use Rattle.std.proofs.Common.{ap}
use Rattle.rs_feed_join.specs.Sides.{FeedSide}
use Rattle.rs_feed_join.proofs.feed_join.FeedJoin.ended.Goals as goal

pub returns : goal.returns
returns c = ap (λ (side : FeedSide). side.ended) c.side.ensures.side
