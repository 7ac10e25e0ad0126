-- What asking and running ended with is told.
use Rattle.std.proofs.Common.{inl, inr, subst}
use Rattle.std.specs.Prelude.{Result, IfErr, IfOk}
use Rattle.rs_ask.specs.Asking.{Ends, StopsAfter, channel_state}
use Rattle.rs_ask.specs.declared.asked.Asked.{Asked}
use Rattle.rs_ask.specs.declared.stop.Stop.{Stop}
use Rattle.ranksql_ask.specs.Endings.{Tells}
use Rattle.ranksql_ask.specs.Lines.{end_lines, end_status}
use Rattle.ranksql_ask.proofs.command.obey.Goals as goal

pub returns-in-Ok : goal.returns-in-Ok
returns-in-Ok g c =
    let P : Result Asked Stop → Type 0 = λ ended. IfOk ended (λ asked. Ends g.R.Rerun.ran asked c.args.runs.now c.args.known.now c.ask_and_run-ended.new.runs c.ask_and_run-ended.new.known
    (record { channel = channel_state g.Q.Sink.state g.A.Answers.state g.K.Sink.state c.args.channel.now; out = g.O.Sink.state c.args.out })
    (record { channel = channel_state g.Q.Sink.state g.A.Answers.state g.K.Sink.state c.ask_and_run-ended.new.channel; out = g.O.Sink.state c.ask_and_run-ended.result.1 })) in
    inl (
      c.in-Ok.asked,
      subst P c.in-Ok.is c.ask_and_run-ended.ensures.ok,
      subst (λ known. Tells (end_lines c.in-Ok.asked known) (end_status c.in-Ok.asked) c.tell_end.result (g.E.Sink.state c.args.err.now) (g.E.Sink.state c.tell_end.new.err)) c.len-before.ensures.count c.tell_end.ensures,
    )

pub returns-in-Err : goal.returns-in-Err
returns-in-Err g c =
    let P : Result Asked Stop → Type 0 = λ ended. IfErr ended (λ stop. StopsAfter g.R.Rerun.ran stop c.args.runs.now c.args.known.now c.ask_and_run-ended.new.runs c.ask_and_run-ended.new.known
    (record { channel = channel_state g.Q.Sink.state g.A.Answers.state g.K.Sink.state c.args.channel.now; out = g.O.Sink.state c.args.out })
    (record { channel = channel_state g.Q.Sink.state g.A.Answers.state g.K.Sink.state c.ask_and_run-ended.new.channel; out = g.O.Sink.state c.ask_and_run-ended.result.1 })) in
    inr (c.in-Err.stop, subst P c.in-Err.is c.ask_and_run-ended.ensures.err, c.tell_stop.ensures)
