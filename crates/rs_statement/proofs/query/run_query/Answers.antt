use Rattle.std.proofs.Common.{refl, subst}
use Rattle.rs_value.proofs.ResultFacts.{given-err}
use Rattle.rs_bind.specs.Queries.{bound_query}
use Rattle.rs_query.specs.Views.{all_rows}
use Rattle.rs_plain.specs.Plain.{evaluation_of, plain_faults}
use Rattle.rs_plain.specs.declared.fault.PlainFault.TheVariants as plain
use Rattle.rs_syntax.specs.Syntax.{query_of}
use Rattle.rs_statement.specs.Lines.{rank_lines}
use Rattle.rs_statement.specs.Parts.Steps.{Ran}
use Rattle.rs_events.specs.Run.{lines_run}
use Rattle.rs_statement.specs.declared.evaluating.Evaluating.TheVariants.{Plainly}
use Rattle.rs_statement.specs.Statements.{answer_lines, bind_fault, or_bind_fault, query_fault, query_outcome, query_step}
use Rattle.rs_events.proofs.InquirySteps.{Stepped-asked, Stepped-unasked}
use Rattle.rs_statement.proofs.QuerySteps.{Gives-bound, Gives-unbound, Probes-questions}
use Rattle.rs_statement.proofs.StepFacts.{Stepped-bound, Stepped-refused}
use Rattle.rs_statement.proofs.query.run_query.Goals as goal

pub query_fault-requires : goal.query_fault-requires
query_fault-requires g c = (c.in_ok-query.query, c.in-Err.ensures.names)

pub returns-in_err-query : goal.returns-in_err-query
returns-in_err-query g c =
    let old = g.W.Host.state c.args.host.now in
    rw (given-err c.from_residual.result (bind_fault c.in_err-query.field-0.0) c.from_residual.ensures) (
    Stepped-refused (query_step Plainly old.scorer.answer c.args.catalog.now) (or_bind_fault (bound_query c.args.catalog.now (query_of c.args.select.now)))
    (bind_fault c.in_err-query.field-0.0) c.args.catalog.now old (Gives-unbound _ _ _ c.in_err-query.ensures.gives refl))

pub returns-in-Err : goal.returns-in-Err
returns-in-Err g c =
    let old = g.W.Host.state c.args.host.now in
    let catalogue = c.args.catalog.now in
    let query = c.in_ok-query.query in
    rw g.met.W.Host.after_scorer (
    Stepped-bound (query_step Plainly old.scorer.answer catalogue) (or_bind_fault (bound_query catalogue (query_of c.args.select.now)))
    query catalogue _ old _ (Gives-bound _ _ c.in_ok-query.ensures.gives)
    (Stepped-unasked answer_lines (query_outcome catalogue) plain.Memory (evaluation_of old.scorer.answer catalogue query (all_rows catalogue query))
    catalogue old (g.W.Scorer.Scorer.state c.answer_plainly-answered.new.scorer) (query_fault catalogue)
    c.in-Err.why c.query_fault.result refl refl refl (Probes-questions plain_faults (query_fault catalogue) catalogue (λ number. refl) _)
    (rw c.scorer.ensures.value at c.in-Err.ensures.evaluates) c.query_fault.ensures))

pub returns : goal.returns
returns g c =
    let old = g.W.Host.state c.args.host.now in
    let scorer = g.W.Scorer.Scorer.state c.answer_plainly-answered.new.scorer in
    let catalogue = c.args.catalog.now in
    let query = c.in_ok-query.query in
    rw (g.met.W.Host.after_out, g.met.W.Host.after_scorer) (
    Stepped-bound (query_step Plainly old.scorer.answer catalogue) (or_bind_fault (bound_query catalogue (query_of c.args.select.now)))
    query catalogue _ old _ (Gives-bound _ _ c.in_ok-query.ensures.gives)
    (Stepped-asked answer_lines (query_outcome catalogue) plain.Memory (evaluation_of old.scorer.answer catalogue query (all_rows catalogue query))
    catalogue old scorer c.in-Ok.rows.items c.put_rows.result _ refl (rw c.scorer.ensures.value at c.in-Ok.ensures.evaluates)
    (subst (λ rows. Ran (lines_run (rank_lines 1 rows)) c.put_rows.result (record old { scorer = scorer }) (record old { scorer = scorer; out = g.W.Out.Sink.state c.put_rows.new.out }))
    c.deref.ensures.value (rw (c.out.ensures.value, g.met.W.Host.after_scorer) at c.put_rows.ensures (record old { scorer = scorer })))))
