-- Nothing is drawn.
use Rattle.std.proofs.Common.{◌≡◌}
use Rattle.test_certificates.proofs.feeds.feed_of.Given as goal

abbrev pub invariant-loop-join : goal.invariant-loop-join
invariant-loop-join l = l.feed.draws ≡ 0
