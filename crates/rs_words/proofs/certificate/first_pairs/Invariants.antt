use Rattle.std.proofs.Common.{◌≡◌, List, false, length}
use Rattle.rs_words.specs.Certs.{AreGiven}
use Rattle.rs_feed.specs.declared.feed_row.FeedRow.{FeedRow}
use Rattle.rs_feed_join.specs.Answers.{MayBe}
use Rattle.rs_words.specs.Joining.{JoinLeaves}
use Rattle.rs_words.proofs.GatheringFacts.{Gathered}
use Rattle.rs_words.proofs.PuttingFacts.{went_well}
use Rattle.rs_words.proofs.certificate.first_pairs.Given as goal

-- so many pairs were given, and so many draws made, whatever rows the feeds may have
abbrev pub invariant-loop-index : goal.invariant-loop-index
invariant-loop-index g l = record {
  given : l.join.given ≡ l.index;
  whole : l.join.broken ≡ false;
  leaves : JoinLeaves l.join (g.L.Feed.state l.fn.left) (g.L.Feed.state l.left) (g.R.Feed.state l.fn.right) (g.R.Feed.state l.right) went_well;
  size : length l.pairs.items ≡ l.index;
  are_given : AreGiven l.join l.pairs.items;
  gathered : (lefts rights : List FeedRow) → MayBe 1 lefts l.join.left went_well → MayBe 2 rights l.join.right went_well
      → Gathered lefts rights l.index l.pairs.items l.join.left l.join.right;
}
