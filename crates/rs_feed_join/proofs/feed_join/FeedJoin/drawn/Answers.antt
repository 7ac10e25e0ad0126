-- The rows are those of the side.
use Rattle.std.proofs.Common.{length, ap, ◌∙◌}
use Rattle.rs_feed_join.specs.Sides.{FeedSide}
use Rattle.rs_feed_join.proofs.feed_join.FeedJoin.drawn.Goals as goal

pub returns-clause-value : goal.returns-clause-value
returns-clause-value c = c.len.ensures ∙ c.side.result.now.rows.ok.0 ∙ ap (λ (side : FeedSide). length side.rows) c.side.ensures.side
