use Rattle.std.proofs.Common.{◌≡◌, List, false}
use Rattle.rs_feed.specs.declared.feed_row.FeedRow.{FeedRow}
use Rattle.rs_feed_join.specs.Answers.{MayBe}
use Rattle.rs_events.specs.Environment.{Environment}
use Rattle.rs_words.specs.Joining.{JoinLeaves}
use Rattle.rs_words.proofs.PuttingFacts.{SoFar, went_well}
use Rattle.rs_words.proofs.putting.put_each.Given as goal

-- so many pairs were put, and so many draws made, whatever rows the feeds may have
abbrev pub invariant-loop-index : goal.invariant-loop-index
invariant-loop-index g l = record {
  given : l.join.given ≡ l.index;
  whole : l.join.broken ≡ false;
  going : l.join.finished ≡ false;
  leaves : JoinLeaves l.join (g.L.Feed.state l.fn.left) (g.L.Feed.state l.left) (g.R.Feed.state l.fn.right) (g.R.Feed.state l.right) went_well;
  puts : (beside : Environment) (lefts rights : List FeedRow) → MayBe 1 lefts l.join.left went_well → MayBe 2 rights l.join.right went_well
      → SoFar lefts rights l.index l.join.left l.join.right (record beside { out = g.O.Sink.state l.fn.out }) (record beside { out = g.O.Sink.state l.out });
}
