use Rattle.std.proofs.Common.{◌≡◌, ◌∙◌, [], ◌∷◌, refl, subst}
use Rattle.std.specs.Prelude.{Err, None}
use Rattle.rs_value.proofs.ResultFacts.{given-err}
use Rattle.rs_syntax.specs.Syntax.{query_of}
use Rattle.rs_catalog.specs.Catalog.{CatalogDef}
use Rattle.rs_query.specs.declared.query.Query.{Query}
use Rattle.rs_bind.specs.Queries.{bound_query}
use Rattle.rs_enum.specs.Texts.{text_of}
use Rattle.rs_statement.specs.declared.fault.Fault.TheVariants.{Memory}
use Rattle.rs_statement.specs.Parts.Steps.{Ran}
use Rattle.rs_events.specs.Run.{lines_run}
use Rattle.rs_statement.specs.Planned.{cards_for, plan_for}
use Rattle.rs_statement.specs.Steps.{Step}
use Rattle.rs_events.specs.Sequence.{lines_step}
use Rattle.rs_statement.specs.Statements.{bind_fault, explained_step, or_bind_fault}
use Rattle.rs_statement.proofs.QuerySteps.{Gives-bound, Gives-unbound}
use Rattle.rs_statement.proofs.SampleSteps.{Sampled-broken, Sampled-then}
use Rattle.rs_statement.proofs.StepFacts.{Stepped-refused}
use Rattle.rs_events.proofs.SteppedFacts.{Stepped-lines, Stepped-no_memory}
use Rattle.rs_statement.proofs.explained.explain_planned.Goals as goal

pub returns-in_err-query : goal.returns-in_err-query
returns-in_err-query g c =
    let old = g.W.Host.state c.args.host.now in
    rw (given-err c.from_residual.result (bind_fault c.in_err-query.field-0.0) c.from_residual.ensures) (
    Stepped-refused (explained_step old.scorer.answer c.args.catalog.now c.args.sampling)
    (or_bind_fault (bound_query c.args.catalog.now (query_of c.args.select.now))) (bind_fault c.in_err-query.field-0.0) c.args.catalog.now
    old (Gives-unbound _ _ _ c.in_err-query.ensures.gives refl))

pub make-requires : goal.make-requires
make-requires g c = c.in_ok-query.ensures.formed

pub returns-in_err-planned : goal.returns-in_err-planned
returns-in_err-planned g c =
    let old = g.W.Host.state c.args.host.now in
    let answer = old.scorer.answer in
    let catalogue = c.args.catalog.now in
    rw (given-err c.from_residual-in_err-planned.result c.in_err-planned.field-0.0 c.from_residual-in_err-planned.ensures, g.met.W.Host.after_scorer) (
    Sampled-broken catalogue c.args.sampling (λ query. lines_step (text_of catalogue query (cards_for answer catalogue c.args.sampling query) (plan_for answer catalogue c.args.sampling query) None ∷ []) catalogue)
    (or_bind_fault (bound_query catalogue (query_of c.args.select.now))) c.in_ok-query.query (Gives-bound _ _ c.in_ok-query.ensures.gives)
    old _ c.in_err-planned.field-0.0 (rw c.scorer.ensures.value at c.in_err-planned.ensures.calls old))

pub text-told-requires : goal.text-told-requires
text-told-requires g c = c.in_ok-planned.ensures.planned.whole

pub returns-in_err-text : goal.returns-in_err-text
returns-in_err-text g c =
    let old = g.W.Host.state c.args.host.now in
    let answer = old.scorer.answer in
    let catalogue = c.args.catalog.now in
    let query = c.in_ok-query.query in
    let middle = record old { scorer = g.W.Scorer.Scorer.state c.make.new.scorer } in
    let rest : Query → Step CatalogDef = λ query. lines_step (text_of catalogue query (cards_for answer catalogue c.args.sampling query) (plan_for answer catalogue c.args.sampling query) None ∷ []) catalogue in
    rw (given-err c.from_residual-in_err-text.result Memory c.from_residual-in_err-text.ensures, g.met.W.Host.after_scorer) (
    Sampled-then catalogue c.args.sampling rest (or_bind_fault (bound_query catalogue (query_of c.args.select.now))) query (Gives-bound _ _ c.in_ok-query.ensures.gives)
    old middle (Err Memory) middle (rw c.scorer.ensures.value at c.in_ok-planned.ensures.calls old)
    (Stepped-no_memory (λ step. step ≡ rest query) (rest query) catalogue middle refl))

pub returns : goal.returns
returns g c =
    let old = g.W.Host.state c.args.host.now in
    let answer = old.scorer.answer in
    let catalogue = c.args.catalog.now in
    let query = c.in_ok-query.query in
    let cards = cards_for answer catalogue c.args.sampling query in
    let plan = plan_for answer catalogue c.args.sampling query in
    let middle = record old { scorer = g.W.Scorer.Scorer.state c.make.new.scorer } in
    let new = record middle { out = g.W.Out.Sink.state c.put_text.new.out } in
    let planned = rw c.scorer.ensures.value at c.in_ok-planned.ensures.planned in
    let text : c.deref.result.now ≡ text_of catalogue query cards plan None = c.deref.ensures.value ∙ c.in_ok-text.ensures ∙ planned.text_is None in
    rw (g.met.W.Host.after_out, g.met.W.Host.after_scorer) (
    Sampled-then catalogue c.args.sampling (λ query. lines_step (text_of catalogue query (cards_for answer catalogue c.args.sampling query) (plan_for answer catalogue c.args.sampling query) None ∷ []) catalogue)
    (or_bind_fault (bound_query catalogue (query_of c.args.select.now))) query (Gives-bound _ _ c.in_ok-query.ensures.gives)
    old new c.put_text.result middle (rw c.scorer.ensures.value at c.in_ok-planned.ensures.calls old)
    (Stepped-lines (text_of catalogue query cards plan None ∷ []) catalogue c.put_text.result middle new
    (subst (λ t. Ran (lines_run (t ∷ [])) c.put_text.result middle new) text (rw (c.out.ensures.value, g.met.W.Host.after_scorer) at c.put_text.ensures middle))))
