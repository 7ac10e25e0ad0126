use Rattle.std.proofs.Common.{◌≡◌, ◌≤◌, ◌∙◌, arith, ap, length, length-take, take}
use Rattle.rs_ask.specs.Answers.{line_answer}
use Rattle.rs_ask.proofs.AnswerFacts.{ReadsAnswer-end, ReadsAnswer-ended, ReadsAnswer-long, ReadsNext-line, byte_read, end_read}
use Rattle.rs_ask.proofs.answer.read_answer.Goals as goal

pub returns-in-Ok-Some-eq10-clause-reads : goal.returns-in-Ok-Some-eq10-clause-reads
returns-in-Ok-Some-eq10-clause-reads g c =
    let s = g.A.Answers.state in
    let before = c.loop-len.invariant in
    let line = take c.loop-len.len c.loop-len.line in
    let short : length line ≤ 64 = omega (arith, length-take c.loop-len.len c.loop-len.line, before.whole) in
    ReadsNext-line line c.line_answer.result (s c.args.answers.now) (s c.next_byte.new.self) c.line_answer.ensures
    (ReadsAnswer-ended line c.in-Ok-Some-eq10.field-0-0 (s c.args.answers.now).told (s c.loop-len.answers).told (s c.next_byte.new.self).told c.line_answer.result before.one short before.consumed
    (byte_read c.in-Ok-Some-eq10.field-0 c.in-Ok-Some-eq10.field-0-0 (s c.loop-len.answers).told (s c.next_byte.new.self).told c.in-Ok-Some-eq10.field-0-is c.in-Ok-Some-eq10.ensures.reads)
    c.in-Ok-Some-eq10.field-0-0-test c.line_answer.ensures)

pub returns-in-Ok-None-clause-reads : goal.returns-in-Ok-None-clause-reads
returns-in-Ok-None-clause-reads g c =
    let s = g.A.Answers.state in
    let before = c.loop-len.invariant in
    let line = take c.loop-len.len c.loop-len.line in
    let short : length line ≤ 64 = omega (arith, length-take c.loop-len.len c.loop-len.line, before.whole) in
    let end = end_read c.in-Ok-None.field-0 (s c.loop-len.answers).told (s c.next_byte.new.self).told c.in-Ok-None.field-0-is c.in-Ok-None.ensures.reads in
    (ReadsAnswer-end line (s c.args.answers.now).told (s c.loop-len.answers).told (s c.next_byte.new.self).told before.one short before.consumed end.0 end.1)

pub returns-in-Ok-Some-eq10-next_byte-clause-reads : goal.returns-in-Ok-Some-eq10-next_byte-clause-reads
returns-in-Ok-Some-eq10-next_byte-clause-reads g c =
    let s = g.A.Answers.state in
    let before = c.loop-len.invariant in
    let line = take c.loop-len.len c.loop-len.line in
    let short : length line ≤ 64 = omega (arith, length-take c.loop-len.len c.loop-len.line, before.whole) in
    let last : 64 ≡ c.loop-len.len = omega (arith, before.whole, c.loop-len-test.false, c.loop-len.auto.len-end) in
    let whole : take 64 c.loop-len.line ≡ line = ap (λ n. take n c.loop-len.line) last in
    ReadsNext-line line c.line_answer-in-Ok-Some-eq10-next_byte.result (s c.args.answers.now) (s c.next_byte-2.new.self) (c.line_answer-in-Ok-Some-eq10-next_byte.ensures ∙ ap line_answer whole)
    (ReadsAnswer-ended line c.in-Ok-Some-eq10-next_byte.field-0-0 (s c.args.answers.now).told (s c.loop-len.answers).told (s c.next_byte-2.new.self).told c.line_answer-in-Ok-Some-eq10-next_byte.result before.one short before.consumed
    (byte_read c.in-Ok-Some-eq10-next_byte.field-0 c.in-Ok-Some-eq10-next_byte.field-0-0 (s c.loop-len.answers).told (s c.next_byte-2.new.self).told c.in-Ok-Some-eq10-next_byte.field-0-is c.in-Ok-Some-eq10-next_byte.ensures.reads)
    c.in-Ok-Some-eq10-next_byte.field-0-0-test (c.line_answer-in-Ok-Some-eq10-next_byte.ensures ∙ ap line_answer whole))

pub returns-in-Ok-Some-next_byte-clause-reads : goal.returns-in-Ok-Some-next_byte-clause-reads
returns-in-Ok-Some-next_byte-clause-reads g c =
    let s = g.A.Answers.state in
    let before = c.loop-len.invariant in
    let line = take c.loop-len.len c.loop-len.line in
    let long : length line ≡ 64 = omega (arith, length-take c.loop-len.len c.loop-len.line, before.whole, c.loop-len-test.false) in
    (ReadsAnswer-long line c.in-Ok-Some-next_byte.field-0-0 (s c.args.answers.now).told (s c.loop-len.answers).told (s c.next_byte-2.new.self).told before.one long before.consumed
    (byte_read c.in-Ok-Some-next_byte.field-0 c.in-Ok-Some-next_byte.field-0-0 (s c.loop-len.answers).told (s c.next_byte-2.new.self).told c.in-Ok-Some-next_byte.field-0-is c.in-Ok-Some-next_byte.ensures.reads)
    c.in-Ok-Some-next_byte.field-0-0-test.1)

pub returns-in-Ok-None-next_byte-clause-reads : goal.returns-in-Ok-None-next_byte-clause-reads
returns-in-Ok-None-next_byte-clause-reads g c =
    let s = g.A.Answers.state in
    let before = c.loop-len.invariant in
    let line = take c.loop-len.len c.loop-len.line in
    let short : length line ≤ 64 = omega (arith, length-take c.loop-len.len c.loop-len.line, before.whole) in
    let end = end_read c.in-Ok-None-next_byte.field-0 (s c.loop-len.answers).told (s c.next_byte-2.new.self).told c.in-Ok-None-next_byte.field-0-is c.in-Ok-None-next_byte.ensures.reads in
    (ReadsAnswer-end line (s c.args.answers.now).told (s c.loop-len.answers).told (s c.next_byte-2.new.self).told before.one short before.consumed end.0 end.1)
