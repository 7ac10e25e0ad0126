use Rattle.std.proofs.Common.{refl, subst, sym}
use Rattle.rs_value.proofs.ResultFacts.{given-err}
use Rattle.rs_syntax.specs.Syntax.{query_of}
use Rattle.rs_catalog.specs.Catalog.{CatalogDef}
use Rattle.rs_bind.specs.Queries.{bound_query}
use Rattle.rs_exec.specs.Asking.{world_of}
use Rattle.rs_exec.specs.Cursors.{StandsFor}
use Rattle.rs_statement.specs.declared.evaluating.Evaluating.TheVariants.{Planned}
use Rattle.rs_statement.specs.Planned.{plan_for, planned_step}
use Rattle.rs_statement.specs.Statements.{bind_fault, or_bind_fault, query_step}
use Rattle.rs_statement.proofs.LeftSteps.{Left-new, as_they_are}
use Rattle.rs_statement.proofs.QuerySteps.{Gives-bound, Gives-unbound}
use Rattle.rs_statement.proofs.SampleSteps.{Sampled-broken, Sampled-then}
use Rattle.rs_statement.proofs.StepFacts.{Stepped-refused}
use Rattle.rs_statement.proofs.planned.run_planned.Goals as goal

pub returns-in_err-query : goal.returns-in_err-query
returns-in_err-query g c =
    let old = g.W.Host.state c.args.host.now in
    rw (given-err c.from_residual.result (bind_fault c.in_err-query.field-0.0) c.from_residual.ensures) (
    Stepped-refused (query_step (Planned c.args.sampling) old.scorer.answer c.args.catalog.now)
    (or_bind_fault (bound_query c.args.catalog.now (query_of c.args.select.now))) (bind_fault c.in_err-query.field-0.0) c.args.catalog.now
    old (Gives-unbound _ _ _ c.in_err-query.ensures.gives refl))

pub start_planned-requires : goal.start_planned-requires
start_planned-requires g c = record { formed = c.in_ok-query.ensures.formed; tops = c.in_ok-query.ensures.tops; held = rw c.scorer.ensures.value c.requires.held }

pub returns-in_err-cursor : goal.returns-in_err-cursor
returns-in_err-cursor g c =
    let old = g.W.Host.state c.args.host.now in
    let answer = old.scorer.answer in
    let catalogue = c.args.catalog.now in
    rw (given-err c.from_residual-in_err-cursor.result c.in_err-cursor.field-0.0 c.from_residual-in_err-cursor.ensures, g.met.W.Host.after_scorer) (
    Sampled-broken catalogue c.args.sampling (λ query. planned_step (world_of catalogue answer query) (plan_for answer catalogue c.args.sampling query))
    (or_bind_fault (bound_query catalogue (query_of c.args.select.now))) c.in_ok-query.query (Gives-bound _ _ c.in_ok-query.ensures.gives)
    old _ c.in_err-cursor.field-0.0 (rw c.scorer.ensures.value at c.in_err-cursor.ensures.calls old))

pub put_all-put-requires : goal.put_all-put-requires
put_all-put-requires g c = record {
  stands = rw g.met.W.Host.after_scorer (subst (λ answer. StandsFor c.current.result answer c.in_ok-cursor.cursor)
      (sym (c.in_ok-cursor.ensures.calls (g.W.Host.state c.args.host.now)).ran.keeps.scorer.answer)
      (subst (λ (seen : CatalogDef). StandsFor seen (g.W.Scorer.Scorer.state c.scorer.result.now).answer c.in_ok-cursor.cursor) (sym c.current.ensures) c.in_ok-cursor.ensures.stands));
}

pub returns : goal.returns
returns g c =
    let old = g.W.Host.state c.args.host.now in
    let answer = old.scorer.answer in
    let catalogue = c.args.catalog.now in
    let query = c.in_ok-query.query in
    let middle = record old { scorer = g.W.Scorer.Scorer.state c.start_planned.new.scorer } in
    let sampled = rw c.scorer.ensures.value at c.in_ok-cursor.ensures.calls old in
    Sampled-then catalogue c.args.sampling (λ query. planned_step (world_of catalogue answer query) (plan_for answer catalogue c.args.sampling query))
    (or_bind_fault (bound_query catalogue (query_of c.args.select.now))) query (Gives-bound _ _ c.in_ok-query.ensures.gives)
    old _ c.put_all-put.result middle sampled
    (Left-new as_they_are (λ first rest. refl) catalogue answer query (plan_for answer catalogue c.args.sampling query) c.in_ok-cursor.cursor c.put_all-put.result middle _
    (rw c.scorer.ensures.value at c.in_ok-cursor.ensures.starts) sampled.ran.keeps.scorer.answer (rw (c.current.ensures, g.met.W.Host.after_scorer) at c.put_all-put.ensures))
