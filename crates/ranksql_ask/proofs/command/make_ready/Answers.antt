-- What stood ready asked and ran.
use Rattle.std.proofs.Common.{inr}
use Rattle.rs_ask.specs.Asking.{channel_state}
use Rattle.ranksql_ask.proofs.command.make_ready.Goals as goal

pub returns-in-Ok : goal.returns-in-Ok
returns-in-Ok g c = inr (record {
  prepared = c.in-Ok.prepared;
  ready = c.in-Ok.ensures;
  knows = c.obey.new.known;
  left = channel_state g.H.Questions.Sink.state g.H.Answers.Answers.state g.H.Scores.Sink.state c.obey.new.channel;
  obeys = c.obey.ensures;
})
