-- Nothing is drawn of the feed, and its rows are those so far.
use Rattle.std.proofs.Common.{◌≡◌}
use Rattle.test_feeds.proofs.joins.feed_of.Given as goal

abbrev pub invariant-loop-join : goal.invariant-loop-join
invariant-loop-join l = (l.feed.draws ≡ 0) × (l.feed.given ≡ 0)
