use Rattle.std.proofs.Common.{[], inr, refl}
use Rattle.std.specs.Prelude.{Option, None, Some}
use Rattle.rs_ask.specs.Asking.{channel_state}
use Rattle.rs_prepare.specs.Preparing.{openings}
use Rattle.rs_scores.specs.KnownFiles.{known_state}
use Rattle.ranksql_ask.specs.Endings.{Commands}
use Rattle.ranksql_ask.specs.Words.{Request, request_of}
use Rattle.ranksql_ask.proofs.command.command.Goals as goal

-- whatever words ask for, there may be no memory to see it
pub returns-in-Err : goal.returns-in-Err
returns-in-Err g c = go (request_of c.args.words.now) where
  go : (request : Option Request) → Commands (openings g.H.Opens.questions_to g.H.Opens.answers_from g.H.Opens.scores_in g.H.Opens.refuses)
      (channel_state g.H.Questions.Sink.state g.H.Answers.Answers.state g.H.Scores.Sink.state) request (known_state [] (g.G.Files.state c.args.files)) c.refuse-in-Err.result
      (record { opens = c.args.opens.now; kept = g.F.Files.state c.args.kept.now; out = g.O.Sink.state c.args.out; err = g.E.Sink.state c.args.err.now })
      (record { opens = c.args.opens.now; kept = g.F.Files.state c.args.kept.now; out = g.O.Sink.state c.args.out; err = g.E.Sink.state c.refuse-in-Err.new.err })
  go None = inr (refl, refl, (refl, c.refuse-in-Err.ensures))
  go (Some request) = inr (refl, refl, (refl, c.refuse-in-Err.ensures))
