use Rattle.std.proofs.Common.{rules, subst, w64}
use Rattle.std.proofs.lemmas.Int.{to_z-of_z}
use Rattle.std.proofs.lemmas.Result.{err_from_is_err_and}
use Rattle.rs_scores.specs.Lines.{known_line}
use Rattle.rs_ask.specs.Asking.{KeepStops, channel_state}
use Rattle.rs_ask.proofs.AskingFacts.{AskStops-kept}
use Rattle.rs_ask.proofs.answering.ask.Goals as goal

pub returns-in_err-keep-in-Ok-clause-err : goal.returns-in_err-keep-in-Ok-clause-err
returns-in_err-keep-in-Ok-clause-err g c =
    let p = err_from_is_err_and c.from_residual-in_err-keep-in-Ok.result c.from_residual-in_err-keep-in-Ok.ensures.1 in
    let question = c.in_ok-question.question in
    let keeps = c.in_err-keep-in-Ok.ensures in
    let answered = rw c.in-Ok.is at c.in_ok-score.ensures.ok in
    rw (p.1, p.2)
    (AskStops-kept c.args.pass.now.missing c.args.pass.now.most (record { question = question; score = c.in-Ok.score }) c.in_err-keep-in-Ok.field-0.0 c.args.known.now c.keep.new.known
    (channel_state g.Q.Sink.state g.A.Answers.state g.K.Sink.state c.args.channel.now)
    (channel_state g.Q.Sink.state g.A.Answers.state g.K.Sink.state (record { questions = c.answer_to.new.questions; answers = c.answer_to.new.answers; scores = c.keep.new.scores }))
    (search rules) keeps.same answered.1 answered.0 answered.2
    (subst (λ score. KeepStops c.in_err-keep-in-Ok.field-0.0 (known_line (record { question = question; score = score })) (g.K.Sink.state c.args.channel.now.scores) (g.K.Sink.state c.keep.new.scores)) (to_z-of_z w64 c.in-Ok.score (search rules))
    keeps.stops))
