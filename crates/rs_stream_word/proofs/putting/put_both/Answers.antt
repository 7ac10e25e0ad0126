use Rattle.std.proofs.Common.{◌≡◌, ◌∙◌, Err, ap, sym}
use Rattle.rs_stream.specs.StreamFeeds.{rows_in}
use Rattle.rs_words.specs.declared.fault.PairsFault.TheVariants as pairs
use Rattle.rs_stream_word.specs.Faults.{join_fault, put_fault}
use Rattle.rs_stream_word.specs.Putting.{put_answer}
use Rattle.rs_stream_word.proofs.PuttingFacts.{behind-draws, behind-fault}
use Rattle.rs_stream_word.proofs.putting.put_both.Goals as goal

pub returns-in-Ok-put_draws : goal.returns-in-Ok-put_draws
returns-in-Ok-put_draws g c = λ beside lefts rights left_is right_is left_scores right_scores.
    let call = c.put_pairs in
    let middle = record beside { out = g.O.Sink.state call.new.out } in
    record {
      pairs = call.result;
      join = call.new.join;
      middle = middle;
      puts = call.ensures.told beside lefts.rows rights.rows (ap rows_in left_is) (ap rows_in right_is) left_scores right_scores;
      behind = behind-draws call.new.join c.draws.result c.draws-in-Ok.result call.result c.in-Ok.field-0 c.put_draws.result _ call.new.left.why call.new.right.why middle (record beside { out = g.O.Sink.state c.put_draws.new.out })
          c.in-Ok.is (c.draws.ensures ∙ call.ensures.leaves.left_drawn.draws) (c.draws-in-Ok.ensures ∙ call.ensures.leaves.right_drawn.draws) (c.put_draws.ensures beside) (sym (ap put_answer c.in-Ok-put_draws.is));
    }

pub returns-in-Ok : goal.returns-in-Ok
returns-in-Ok g c = λ beside lefts rights left_is right_is left_scores right_scores.
    let call = c.put_pairs in
    let middle = record beside { out = g.O.Sink.state call.new.out } in
    record {
      pairs = call.result;
      join = call.new.join;
      middle = middle;
      puts = call.ensures.told beside lefts.rows rights.rows (ap rows_in left_is) (ap rows_in right_is) left_scores right_scores;
      behind = behind-draws call.new.join c.draws.result c.draws-in-Ok.result call.result c.in-Ok.field-0 c.put_draws.result (Err c.put_fault.result) call.new.left.why call.new.right.why middle (record beside { out = g.O.Sink.state c.put_draws.new.out })
          c.in-Ok.is (c.draws.ensures ∙ call.ensures.leaves.left_drawn.draws) (c.draws-in-Ok.ensures ∙ call.ensures.leaves.right_drawn.draws) (c.put_draws.ensures beside) (ap Err c.put_fault.ensures ∙ sym (ap put_answer c.in-Err.is));
    }

pub returns-in-Err-Join : goal.returns-in-Err-Join
returns-in-Err-Join g c = λ beside lefts rights left_is right_is left_scores right_scores.
    let call = c.put_pairs in
    let middle = record beside { out = g.O.Sink.state call.new.out } in
    record {
      pairs = call.result;
      join = call.new.join;
      middle = middle;
      puts = call.ensures.told beside lefts.rows rights.rows (ap rows_in left_is) (ap rows_in right_is) left_scores right_scores;
      behind = behind-fault call.new.join call.result c.in-Err-Join.field-0 (pairs.Join c.in-Err-Join.why) c.join_fault.result call.new.left.why call.new.right.why middle c.in-Err-Join.is c.in-Err-Join.field-0-is
          (rw (sym c.why.ensures.value, sym c.why-in-Err-Join.ensures.value, sym c.in-Err-Join.why-is) c.join_fault.ensures);
    }

pub returns : goal.returns
returns g c = λ beside lefts rights left_is right_is left_scores right_scores.
    let call = c.put_pairs in
    let middle = record beside { out = g.O.Sink.state call.new.out } in
    record {
      pairs = call.result;
      join = call.new.join;
      middle = middle;
      puts = call.ensures.told beside lefts.rows rights.rows (ap rows_in left_is) (ap rows_in right_is) left_scores right_scores;
      behind = behind-fault call.new.join call.result c.in-Err-Put.field-0 (pairs.Put c.in-Err-Put.why) c.put_fault-in-Err-Put.result call.new.left.why call.new.right.why middle c.in-Err-Put.is c.in-Err-Put.field-0-is
          (c.put_fault-in-Err-Put.ensures ∙ ap put_fault c.in-Err-Put.why-is);
    }
