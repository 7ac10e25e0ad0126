-- Nothing is drawn of the feed.
use Rattle.std.proofs.Common.{◌≡◌}
use Rattle.test_feeds.proofs.joins.long_feed.Given as goal

abbrev pub invariant-loop-row : goal.invariant-loop-row
invariant-loop-row l = (l.feed.draws ≡ 0) × (l.feed.given ≡ 0)
