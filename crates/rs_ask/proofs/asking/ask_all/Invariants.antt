use Rattle.std.proofs.Common.{◌≡◌, ◌-◌, ◌^◌, None, length}
use Rattle.rs_ask.proofs.AskingFacts.{Going}
use Rattle.rs_ask.specs.Asking.{channel_state}
use Rattle.rs_ask.specs.PutRows.{Passed}
use Rattle.rs_ask.proofs.asking.ask_all.Given as goal

abbrev pub ghosts-run_once : goal.ghosts-run_once
ghosts-run_once g a = record { out = g.B.Began.out; shown = a.rows.bytes }

abbrev pub invariant-loop-pass : goal.invariant-loop-pass
invariant-loop-pass g l = record {
  before : l.before ≡ length l.fn.known.scores;
  passed : Passed g.B.Began.out (g.O.Sink.state l.out) l.rows;
  well : l.rows.fault ≡ None;
  going : Going g.R.Rerun.ran l.pass l.answers l.fn.runs l.fn.known l.runs l.known
      (record { channel = channel_state g.Q.Sink.state g.A.Answers.state g.K.Sink.state l.fn.channel; out = g.B.Began.out })
      (channel_state g.Q.Sink.state g.A.Answers.state g.K.Sink.state l.channel) (g.O.Sink.state l.out) l.rows.bytes;
}

abbrev pub decreases-loop-pass : goal.decreases-loop-pass
decreases-loop-pass g l = 2 ^ 63 - length l.known.scores
