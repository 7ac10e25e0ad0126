-- The row of a number stands one place in front of it.
use Rattle.std.proofs.Common.{◌-◌, ◌∙◌, length, slice_get, ap, arith}
use Rattle.rs_feed.specs.declared.feed_row.FeedRow.{FeedRow}
use Rattle.rs_feed_join.specs.Sides.{FeedSide}
use Rattle.rs_feed_join.proofs.CallFacts.{read-is}
use Rattle.rs_feed_join.proofs.feed_join.FeedJoin.row.Goals as goal

pub index-drawn-requires : goal.index-drawn-requires
index-drawn-requires c =
    let same = ap (λ (side : FeedSide). length side.rows) c.side.ensures.side in
    omega (arith, same, c.requires.some_row, c.requires.drawn)

pub returns-clause-text : goal.returns-clause-text
returns-clause-text c = λ drawn at.
    ap (λ (row : FeedRow). row.join)
    (read-is c.side.result.now.rows.items (c.args.row - 1) c.index-drawn.result.now drawn (let same = ap (λ (side : FeedSide). length side.rows) c.side.ensures.side in omega (arith, same, c.requires.some_row, c.requires.drawn)) c.index-drawn.ensures
    (ap (λ (side : FeedSide). slice_get side.rows (c.args.row - 1)) c.side.ensures.side ∙ at))

pub returns-clause-score : goal.returns-clause-score
returns-clause-score c = λ drawn at.
    ap (λ (row : FeedRow). row.score)
    (read-is c.side.result.now.rows.items (c.args.row - 1) c.index-drawn.result.now drawn (let same = ap (λ (side : FeedSide). length side.rows) c.side.ensures.side in omega (arith, same, c.requires.some_row, c.requires.drawn)) c.index-drawn.ensures
    (ap (λ (side : FeedSide). slice_get side.rows (c.args.row - 1)) c.side.ensures.side ∙ at))
