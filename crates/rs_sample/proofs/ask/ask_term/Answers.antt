use Rattle.std.proofs.Common.{◌≡◌, true, sym, subst}
use Rattle.rs_expr.specs.InOrder.{Inquires}
use Rattle.rs_query.specs.Answers.{worth_of}
use Rattle.rs_query.specs.Meaning.{is_inside}
use Rattle.rs_query.specs.Questions.{question_of}
use Rattle.rs_sample.specs.Sampling.{asking_all}
use Rattle.rs_sample.specs.declared.fault.SampleFault.TheVariants.{Memory}
use Rattle.std.proofs.Common.{[], ◌∷◌}
use Rattle.rs_sample.proofs.AskingFacts.{Inquires-sampled}
use Rattle.rs_sample.proofs.MemberFacts.{inside-itself}
use Rattle.rs_sample.proofs.ask.ask_term.Goals as goal

pub ask-requires-clause-inside : goal.ask-requires-clause-inside
ask-requires-clause-inside g c = λ t e. subst (λ mask. is_inside t.entries mask ≡ true) (sym (c.requires.entries t e)) (inside-itself t.entries)

pub returns : goal.returns
returns g c = λ term e.
    let old = g.S.Scorer.state c.args.scorer.now in
    let new = g.S.Scorer.state c.ask.new.scorer in
    subst (λ r. Inquires Memory (asking_all c.args.catalog.now (question_of c.args.ids.now.block c.args.block.now c.args.ids.now.rows term ∷ [])
    (worth_of old.answer c.args.catalog.now c.args.block.now c.args.ids.now.rows term)) r old new) (sym c.sampled_worth.ensures)
    (Inquires-sampled c.args.catalog.now c.args.block.now c.args.ids.now term c.ask.result old new (c.ask.ensures term e))
