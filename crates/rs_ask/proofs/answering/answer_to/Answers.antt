use Rattle.std.proofs.Common.{◌∙◌, ◌∷◌, [], Err, Some, ap, refl, subst}
use Rattle.rs_value.proofs.OutsideFacts.{Faulted-one}
use Rattle.rs_ask.specs.Putting.{PutsAll, PutsAndPart}
use Rattle.rs_ask.proofs.AskingFacts.{GivesAnswer-read}
use Rattle.rs_ask.proofs.PutFacts.{PutsAndPart-put}
use Rattle.rs_ask.proofs.answering.answer_to.Goals as goal

pub returns-in-Ok-clause-ok : goal.returns-in-Ok-clause-ok
returns-in-Ok-clause-ok g c =
    GivesAnswer-read c.args.question.now c.args.most c.read_answer.result c.score_in.result (g.Q.Sink.state c.args.questions.now) (g.Q.Sink.state c.put.new.self) (g.A.Answers.state c.args.answers.now) (g.A.Answers.state c.read_answer.new.answers)
    c.score_in.ensures c.read_answer.ensures.reads
    (subst (λ line. PutsAll (line ∷ []) (g.Q.Sink.state c.args.questions.now) (g.Q.Sink.state c.put.new.self)) (c.deref.ensures.value ∙ c.in_ok-line.ensures) c.in-Ok.ensures.puts)

pub returns-in-Err-Failed-clause-ok : goal.returns-in-Err-Failed-clause-ok
returns-in-Err-Failed-clause-ok g c = (
  record {
    part =
        subst (λ line. PutsAndPart [] (Some line) (g.Q.Sink.state c.args.questions.now) (g.Q.Sink.state c.put.new.self)) (c.deref.ensures.value ∙ c.in_ok-line.ensures)
        (PutsAndPart-put c.deref.result.now c.put.result (g.Q.Sink.state c.args.questions.now) (g.Q.Sink.state c.put.new.self) c.put.ensures.puts);
    faulted = Faulted-one (g.Q.Sink.state c.args.questions.now) (g.Q.Sink.state c.put.new.self) c.put.ensures.counts (c.in-Err-Failed.is ∙ ap Err c.in-Err-Failed.field-0-is);
  },
  refl,
)
