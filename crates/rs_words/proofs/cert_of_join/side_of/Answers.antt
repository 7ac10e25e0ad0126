use Rattle.std.proofs.Common.{◌<◌, ◌∙◌, length, arith}
use Rattle.rs_feed_join.specs.Joins.{side_in}
use Rattle.rs_words.proofs.SideFacts.{row-more}
use Rattle.rs_words.proofs.cert_of_join.side_of.Goals as goal

pub loop-number-preserved : goal.loop-number-preserved
loop-number-preserved c =
    let within : c.loop-number.number < length (side_in c.args.side c.args.join.now).rows = omega (arith, c.loop-number-test.true, c.drawn-number-end.ensures.value) in
    c.in_ok-push.ensures.items
    ∙ row-more (side_in c.args.side c.args.join.now).rows c.loop-number.rows.items c.loop-number.number c.in_ok-text.text c.row-score.result.1 within c.loop-number.invariant
    (λ drawn at. c.in_ok-text.ensures ∙ c.row-score.ensures.text drawn at)
    (λ drawn at. c.row-score.ensures.score drawn at)
