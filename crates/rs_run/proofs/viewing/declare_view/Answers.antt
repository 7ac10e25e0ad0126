use Rattle.rs_value.proofs.ResultFacts.{given-err}
use Rattle.rs_syntax.specs.Syntax.{query_of}
use Rattle.rs_bind.specs.Queries.{bound_query}
use Rattle.rs_statement.specs.Statements.{or_bind_fault}
use Rattle.rs_run.specs.Parts.Holding.{kept_of, views_in}
use Rattle.rs_run.specs.declared.fault.RunFault.TheVariants.{Statement}
use Rattle.rs_run.proofs.ViewSteps.{Stepped-view_bound, Stepped-view_unbound}
use Rattle.rs_run.proofs.viewing.declare_view.Goals as goal

pub returns-in_err-query : goal.returns-in_err-query
returns-in_err-query g c =
    let old = g.S.Scorer.state c.args.scorer.now in
    rw (given-err c.from_residual.result (Statement c.in_err-query.field-0.0) c.from_residual.ensures) (record {
      makes = λ beside. Stepped-view_unbound old.answer c.args.number c.args.name.now.text (kept_of c.args.catalog.now (views_in c.args.held.now))
          (or_bind_fault (bound_query c.args.catalog.now (query_of c.args.select.now))) c.in_err-query.field-0.0 (record beside { scorer = old }) c.in_err-query.ensures.gives;
      stand = tt;
    })

pub returns : goal.returns
returns g c =
    let old = g.S.Scorer.state c.args.scorer.now in record {
      makes = λ beside. Stepped-view_bound old.answer c.args.number c.args.name.now.text (kept_of c.args.catalog.now (views_in c.args.held.now))
          (or_bind_fault (bound_query c.args.catalog.now (query_of c.args.select.now))) c.in_ok-query.query (kept_of c.args.catalog.now (views_in c.view_query.new.held)) c.view_query.result
          (record beside { scorer = old }) (record beside { scorer = g.S.Scorer.state c.view_query.new.scorer }) c.in_ok-query.ensures.gives (c.view_query.ensures.makes beside);
      stand = c.view_query.ensures.stand;
    }
