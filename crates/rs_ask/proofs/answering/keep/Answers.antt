use Rattle.std.proofs.Common.{◌∙◌, [], Err, Ok, Some, ap, subst}
use Rattle.std.proofs.lemmas.Result.{err_from_is_err_and}
use Rattle.rs_value.proofs.OutsideFacts.{Faulted-one}
use Rattle.rs_ask.specs.Putting.{PutsAndPart}
use Rattle.rs_ask.proofs.PutFacts.{PutsAndPart-put}
use Rattle.rs_ask.proofs.answering.keep.Goals as goal

pub returns-in-Err-Failed-clause-stops : goal.returns-in-Err-Failed-clause-stops
returns-in-Err-Failed-clause-stops g c = (
  c.of.ensures ∙ c.in_ok-line.ensures,
  record {
    part =
        subst (λ line. PutsAndPart [] (Some line) (g.K.Sink.state c.args.scores.now) (g.K.Sink.state c.put.new.self)) (c.deref.ensures.value ∙ c.in_ok-line.ensures)
        (PutsAndPart-put c.deref.result.now c.put.result (g.K.Sink.state c.args.scores.now) (g.K.Sink.state c.put.new.self) c.put.ensures.puts);
    faulted = Faulted-one (g.K.Sink.state c.args.scores.now) (g.K.Sink.state c.put.new.self) c.put.ensures.counts (c.in-Err-Failed.is ∙ ap Err c.in-Err-Failed.field-0-is);
  },
)

pub returns-in_err-add-clause-stops : goal.returns-in_err-add-clause-stops
returns-in_err-add-clause-stops g c =
    let p = err_from_is_err_and c.from_residual-in_err-add.result c.from_residual-in_err-add.ensures.1 in
    rw (p.1, p.2)
    (subst (λ line. PutsAndPart [] (Some line) (g.K.Sink.state c.args.scores.now) (g.K.Sink.state c.put.new.self)) (c.deref.ensures.value ∙ c.in_ok-line.ensures)
    (PutsAndPart-put c.deref.result.now (Ok tt) (g.K.Sink.state c.args.scores.now) (g.K.Sink.state c.put.new.self) c.in-Ok.ensures.puts))
