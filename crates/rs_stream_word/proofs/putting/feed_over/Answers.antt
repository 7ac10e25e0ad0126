use Rattle.std.proofs.Common.{Option, Some, subst}
use Rattle.rs_stream.specs.Rows.{Stream}
use Rattle.rs_stream.specs.StreamFeeds.{EndsAs}
use Rattle.rs_stream_word.proofs.putting.feed_over.Goals as goal

pub returns : goal.returns
returns g c = λ beside lefts rights left_is right_is left_scores right_scores.
    let call = c.put_streams in
    record {
      left = call.new.left.why;
      right = call.new.right.why;
      puts = call.ensures.told beside lefts rights left_is right_is left_scores right_scores;
      left_ends = subst (λ (s : Option Stream). EndsAs call.new.left.why s) left_is call.ensures.left_ends;
      right_ends = subst (λ (s : Option Stream). EndsAs call.new.right.why s) right_is call.ensures.right_ends;
    }
