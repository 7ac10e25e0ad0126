-- What is told of feeds that tell their rows follows from what drawing up to the next pair says of all that they may have.
use Rattle.std.proofs.Common.{ap, subst}
use Rattle.rs_feed_join.specs.Answers.{IsNext}
use Rattle.rs_feed_join.specs.Joins.{FeedJoinState}
use Rattle.rs_feed_join.specs.Parts.{parts_of}
use Rattle.rs_feed_join.specs.Sides.{side_of}
use Rattle.rs_feed_join.proofs.NextFacts.{next-told}
use Rattle.rs_feed_join.proofs.feed_join.FeedJoin.next.Goals as goal

pub returns-in-Ok-None-clause-told : goal.returns-in-Ok-None-clause-told
returns-in-Ok-None-clause-told g c = λ lefts rights told telling scores scoring.
    subst (λ n. IsNext lefts rights n (side_of c.advance-result.new.self.left) (side_of c.advance-result.new.self.right) c.advance-result.result) (ap (λ (join : FeedJoinState). join.given) c.self.view_is)
    (next-told (parts_of c.self.inside.parts) (parts_of c.advance-result.new.self) c.self.inside.finished (g.L.Feed.state c.args.left.now) (g.L.Feed.state c.advance-result.new.left) (g.R.Feed.state c.args.right.now) (g.R.Feed.state c.advance-result.new.right)
    c.advance-result.result c.advance-result.ensures (c.self.invariant.1 c.if-self.false) lefts rights told telling scores scoring)

pub returns-in-Err-clause-told : goal.returns-in-Err-clause-told
returns-in-Err-clause-told g c = λ lefts rights told telling scores scoring.
    subst (λ n. IsNext lefts rights n (side_of c.advance-result.new.self.left) (side_of c.advance-result.new.self.right) c.advance-result.result) (ap (λ (join : FeedJoinState). join.given) c.self.view_is)
    (next-told (parts_of c.self.inside.parts) (parts_of c.advance-result.new.self) c.self.inside.finished (g.L.Feed.state c.args.left.now) (g.L.Feed.state c.advance-result.new.left) (g.R.Feed.state c.args.right.now) (g.R.Feed.state c.advance-result.new.right)
    c.advance-result.result c.advance-result.ensures (c.self.invariant.1 c.if-self.false) lefts rights told telling scores scoring)
