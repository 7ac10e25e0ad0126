use Rattle.std.proofs.Common.{subst}
use Rattle.rs_ask.proofs.AskingFacts.{Going-first, Going-next, StopsAfter-first, StopsAfter-next}
use Rattle.rs_ask.specs.Asking.{AskingState, channel_state}
use Rattle.rs_ask.specs.PutRows.{PutRowsState}
use Rattle.rs_ask.specs.Running.{RunStops, RunsWhole}
use Rattle.rs_ask.proofs.asking.ask_all.Goals as goal

pub returns-in-Err-clause-err : goal.returns-in-Err-clause-err
returns-in-Err-clause-err g c =
    let before : AskingState = record { channel = channel_state g.Q.Sink.state g.A.Answers.state g.K.Sink.state c.args.channel.now; out = g.B.Began.out } in
    let stopped = rw c.in-Err.is at c.run_once-first.ensures.err in
    StopsAfter-first g.R.Rerun.ran c.in-Err.stop c.args.runs.now c.args.known.now c.run_once-first.new.runs before (g.O.Sink.state c.run_once-first.result.2)
    (subst (λ (rows : PutRowsState). RunStops g.R.Rerun.ran c.in-Err.stop c.args.runs.now c.args.known.now c.run_once-first.new.runs rows.bytes g.B.Began.out (g.O.Sink.state c.run_once-first.result.2)) c.new.ensures stopped)

pub loop-pass-init : goal.loop-pass-init
loop-pass-init g c =
    let before : AskingState = record { channel = channel_state g.Q.Sink.state g.A.Answers.state g.K.Sink.state c.args.channel.now; out = g.B.Began.out } in
    let ok = rw c.in-Ok.is at c.run_once-first.ensures.ok in
    record {
      before = c.len-before.ensures.count;
      passed = c.run_once-first.ensures.passed;
      well = rw c.in-Ok.is at c.run_once-first.ensures.well;
      going =
          Going-first g.R.Rerun.ran c.in-Ok.pass c.args.runs.now c.args.known.now c.run_once-first.new.runs before (g.O.Sink.state c.run_once-first.result.2) c.run_once-first.result.1.bytes
          (subst (λ (rows : PutRowsState). RunsWhole g.R.Rerun.ran c.in-Ok.pass c.args.runs.now c.args.known.now c.run_once-first.new.runs rows.bytes c.run_once-first.result.1.bytes g.B.Began.out (g.O.Sink.state c.run_once-first.result.2)) c.new.ensures ok)
          (rw c.in-Ok.is at c.run_once-first.ensures.missing);
    }

pub loop-pass-preserved : goal.loop-pass-preserved
loop-pass-preserved g c =
    let before : AskingState = record { channel = channel_state g.Q.Sink.state g.A.Answers.state g.K.Sink.state c.args.channel.now; out = g.B.Began.out } in
    let ok = rw c.in-Ok-next.is at c.run_once-next.ensures.ok in
    let learned = rw c.in-Ok-Learned.field-0-is at c.in-Ok-Learned.ensures.ok in
    record {
      before = c.loop-pass.invariant.before;
      passed = c.run_once-next.ensures.passed;
      well = rw c.in-Ok-next.is at c.run_once-next.ensures.well;
      going =
          Going-next g.R.Rerun.ran c.loop-pass.pass c.in-Ok-next.next c.loop-pass.answers c.len.result c.len-before.result c.args.runs.now c.args.known.now c.loop-pass.runs c.loop-pass.known c.run_once-next.new.runs c.ask.new.known before
          (channel_state g.Q.Sink.state g.A.Answers.state g.K.Sink.state c.loop-pass.channel)
          (channel_state g.Q.Sink.state g.A.Answers.state g.K.Sink.state c.ask.new.channel)
          (g.O.Sink.state c.loop-pass.out) (g.O.Sink.state c.run_once-next.result.2) c.loop-pass.rows.bytes c.run_once-next.result.1.bytes
          c.loop-pass.invariant.going learned ok (rw c.in-Ok-next.is at c.run_once-next.ensures.missing) c.loop-pass.invariant.before c.len.ensures.count;
    }

pub returns-in-Err-next-clause-err : goal.returns-in-Err-next-clause-err
returns-in-Err-next-clause-err g c =
    let before : AskingState = record { channel = channel_state g.Q.Sink.state g.A.Answers.state g.K.Sink.state c.args.channel.now; out = g.B.Began.out } in
    let stopped = rw c.in-Err-next.is at c.run_once-next.ensures.err in
    let learned = rw c.in-Ok-Learned.field-0-is at c.in-Ok-Learned.ensures.ok in
    StopsAfter-next g.R.Rerun.ran c.loop-pass.pass c.in-Err-next.stop c.loop-pass.answers c.args.runs.now c.args.known.now c.loop-pass.runs c.loop-pass.known c.run_once-next.new.runs c.ask.new.known before
    (channel_state g.Q.Sink.state g.A.Answers.state g.K.Sink.state c.loop-pass.channel)
    (channel_state g.Q.Sink.state g.A.Answers.state g.K.Sink.state c.ask.new.channel)
    (g.O.Sink.state c.loop-pass.out) (g.O.Sink.state c.run_once-next.result.2) c.loop-pass.rows.bytes
    c.loop-pass.invariant.going learned stopped
