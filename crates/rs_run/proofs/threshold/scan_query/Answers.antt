use Rattle.std.proofs.Common.{◌≡◌, sym, subst}
use Rattle.rs_value.proofs.ResultFacts.{given-err}
use Rattle.rs_syntax.specs.Syntax.{query_of}
use Rattle.rs_bind.specs.Queries.{bound_query}
use Rattle.rs_events.specs.Running.{Stepped}
use Rattle.rs_statement.specs.Statements.{or_bind_fault}
use Rattle.rs_run.specs.Faults.{run_faults}
use Rattle.rs_run.specs.Threshold.{scanned_step}
use Rattle.rs_run.specs.declared.fault.RunFault.TheVariants.{Statement}
use Rattle.rs_run.proofs.ScanSteps.{Stepped-bound, Stepped-unbound}
use Rattle.rs_run.proofs.threshold.scan_query.Goals as goal

pub returns-in_err-query : goal.returns-in_err-query
returns-in_err-query g c =
    let old = g.W.Host.state c.args.host.now in
    let bound = or_bind_fault (bound_query c.args.catalog.now (query_of c.args.select.now)) in
    subst (λ result. Stepped run_faults (λ step. step ≡ scanned_step old.scorer.answer c.args.number c.args.catalog.now (query_of c.args.select.now)) c.args.catalog.now result old old)
    (sym (given-err c.from_residual.result (Statement c.in_err-query.field-0.0) c.from_residual.ensures))
    (Stepped-unbound old.scorer.answer c.args.number c.args.catalog.now old bound c.in_err-query.field-0.0 c.in_err-query.ensures.gives)

pub returns : goal.returns
returns g c =
    let old = g.W.Host.state c.args.host.now in
    Stepped-bound old.scorer.answer c.args.number c.args.catalog.now (or_bind_fault (bound_query c.args.catalog.now (query_of c.args.select.now))) c.in_ok-query.query c.scan_bound-done.result old _
    c.in_ok-query.ensures.gives c.scan_bound-done.ensures
