use Rattle.std.proofs.Common.{◌≡◌, ◌∙◌, List, [], ◌∷◌, ap, refl, subst, sym}
use Rattle.std.specs.Prelude.{Ok, Err, Some}
use Rattle.rs_value.proofs.ResultFacts.{given-err}
use Rattle.rs_syntax.specs.Syntax.{query_of}
use Rattle.rs_expr.specs.Scoring.{Answering}
use Rattle.rs_query.specs.Tops.{HasTops}
use Rattle.rs_query.specs.declared.query.Query.{Query}
use Rattle.rs_bind.specs.Queries.{bound_query}
use Rattle.rs_plan.specs.Counts.{counts_of_plan}
use Rattle.rs_plan.specs.Shapes.{tree_of}
use Rattle.rs_plan.specs.Trees.{PlanTree}
use Rattle.rs_plan.specs.declared.counts.Counts.{Counts}
use Rattle.rs_enum.specs.Texts.{text_of}
use Rattle.rs_exec.specs.Asking.{world_of}
use Rattle.rs_statement.specs.Parts.Steps.{Ran}
use Rattle.rs_events.specs.Run.{lines_run}
use Rattle.rs_statement.specs.Planned.{asks_in_all, cards_for, plan_for, planned_step}
use Rattle.rs_events.specs.Sequence.{silent}
use Rattle.rs_statement.specs.Statements.{analyzed_step, bind_fault, or_bind_fault}
use Rattle.rs_statement.proofs.AnalyzeSteps.{analyzed_lines, analyzing, same-asks}
use Rattle.rs_statement.proofs.QuerySteps.{Gives-bound, Gives-unbound}
use Rattle.rs_statement.proofs.SampleSteps.{Sampled-broken, Sampled-then, Stepped-then}
use Rattle.rs_events.proofs.SoFar.{Stepped-broken}
use Rattle.rs_statement.proofs.StepFacts.{Stepped-refused}
use Rattle.rs_events.proofs.SteppedFacts.{Stepped-lines}
use Rattle.rs_statement.proofs.analyzed.analyze_planned.Goals as goal

pub returns-in_err-query : goal.returns-in_err-query
returns-in_err-query g c =
    let old = g.W.Host.state c.args.host.now in
    rw (given-err c.from_residual.result (bind_fault c.in_err-query.field-0.0) c.from_residual.ensures) (
    Stepped-refused (analyzed_step old.scorer.answer c.args.catalog.now c.args.sampling)
    (or_bind_fault (bound_query c.args.catalog.now (query_of c.args.select.now))) (bind_fault c.in_err-query.field-0.0) c.args.catalog.now
    old (Gives-unbound _ _ _ c.in_err-query.ensures.gives refl))

pub make-requires : goal.make-requires
make-requires g c = c.in_ok-query.ensures.formed

pub returns-in_err-planned : goal.returns-in_err-planned
returns-in_err-planned g c =
    let old = g.W.Host.state c.args.host.now in
    let catalogue = c.args.catalog.now in
    rw (given-err c.from_residual-in_err-planned.result c.in_err-planned.field-0.0 c.from_residual-in_err-planned.ensures, g.met.W.Host.after_scorer) (
    Sampled-broken catalogue c.args.sampling (analyzing old.scorer.answer catalogue c.args.sampling)
    (or_bind_fault (bound_query catalogue (query_of c.args.select.now))) c.in_ok-query.query (Gives-bound _ _ c.in_ok-query.ensures.gives)
    old _ c.in_err-planned.field-0.0 (rw c.scorer.ensures.value at c.in_err-planned.ensures.calls old))

pub asked_text-requires : goal.asked_text-requires
asked_text-requires g c =
    let old = g.W.Host.state c.args.host.now in
    let planned = c.in_ok-planned.ensures.planned in
    let sampled = rw c.scorer.ensures.value at c.in_ok-planned.ensures.calls old in record {
      whole = planned.whole;
      tops = subst (HasTops c.args.catalog.now) (sym planned.query_is) c.in_ok-query.ensures.tops;
      held = rw (c.scorer-2.ensures.value, g.met.W.Host.after_scorer, sampled.ran.keeps.scorer.answer) c.requires.held;
    }

-- what was asked and told, over the answers that the scorer had at first and by the plan of the query
pub returns-in_err-text : goal.returns-in_err-text
returns-in_err-text g c =
    let old = g.W.Host.state c.args.host.now in
    let answer = old.scorer.answer in
    let catalogue = c.args.catalog.now in
    let query = c.in_ok-query.query in
    let made = c.in_ok-planned.planned in
    let fault = c.in_err-text.field-0.0 in
    let middle = record old { scorer = g.W.Scorer.Scorer.state c.make.new.scorer } in
    let new = record old { scorer = g.W.Scorer.Scorer.state c.asked_text.new.scorer } in
    let sampled = rw c.scorer.ensures.value at c.in_ok-planned.ensures.calls old in
    let planned = rw c.scorer.ensures.value at c.in_ok-planned.ensures.planned in
    rw (given-err c.from_residual-in_err-text.result fault c.from_residual-in_err-text.ensures, g.met.W.Host.after_scorer, g.met.W.Host.after_scorer) (
    Sampled-then catalogue c.args.sampling (analyzing answer catalogue c.args.sampling) (or_bind_fault (bound_query catalogue (query_of c.args.select.now))) query
    (Gives-bound _ _ c.in_ok-query.ensures.gives) old new (Err fault) middle sampled
    (Stepped-broken (silent (planned_step (world_of catalogue answer query) (plan_for answer catalogue c.args.sampling query))) (analyzed_lines answer catalogue c.args.sampling query) fault catalogue catalogue middle new
    (same-asks catalogue query made.query answer middle.scorer.answer (plan_for answer catalogue c.args.sampling query) (tree_of made.plan) (Err fault) middle new
    planned.query_is sampled.ran.keeps.scorer.answer planned.plan_is (rw (c.scorer-2.ensures.value, g.met.W.Host.after_scorer) at c.in_err-text.ensures.asks old))))

pub returns : goal.returns
returns g c =
    let old = g.W.Host.state c.args.host.now in
    let answer = old.scorer.answer in
    let catalogue = c.args.catalog.now in
    let query = c.in_ok-query.query in
    let made = c.in_ok-planned.planned in
    let w = world_of catalogue answer query in
    let cards = cards_for answer catalogue c.args.sampling query in
    let plan = plan_for answer catalogue c.args.sampling query in
    let own = tree_of made.plan in
    let middle = record old { scorer = g.W.Scorer.Scorer.state c.make.new.scorer } in
    let asked = record old { scorer = g.W.Scorer.Scorer.state c.asked_text.new.scorer } in
    let new = record asked { out = g.W.Out.Sink.state c.put_text.new.out } in
    let here = middle.scorer.answer in
    let sampled = rw c.scorer.ensures.value at c.in_ok-planned.ensures.calls old in
    let same = sampled.ran.keeps.scorer.answer in
    let planned = rw c.scorer.ensures.value at c.in_ok-planned.ensures.planned in
    let counts : Answering → Query → PlanTree → List Counts = λ a q t. counts_of_plan (world_of catalogue a q) t (asks_in_all (world_of catalogue a q) t) in
    let text : c.deref.result.now ≡ text_of catalogue query cards plan (Some (counts answer query plan)) =
    c.deref.ensures.value ∙ (rw (c.scorer-2.ensures.value, g.met.W.Host.after_scorer) at c.in_ok-text.ensures.text) ∙ planned.text_is (Some (counts here made.query own))
    ∙ ap (λ told. text_of catalogue query cards plan (Some told))
    (ap (λ q. counts here q own) planned.query_is ∙ ap (λ a. counts a query own) same ∙ ap (counts answer query) planned.plan_is) in
    rw (g.met.W.Host.after_out, g.met.W.Host.after_scorer, g.met.W.Host.after_scorer) (
    Sampled-then catalogue c.args.sampling (analyzing answer catalogue c.args.sampling) (or_bind_fault (bound_query catalogue (query_of c.args.select.now))) query
    (Gives-bound _ _ c.in_ok-query.ensures.gives) old new c.put_text.result middle sampled
    (Stepped-then (silent (planned_step w plan)) (analyzed_lines answer catalogue c.args.sampling query) catalogue catalogue c.put_text.result middle asked new
    (same-asks catalogue query made.query answer here plan own (Ok tt) middle asked planned.query_is same planned.plan_is
    (rw (c.scorer-2.ensures.value, g.met.W.Host.after_scorer) at c.in_ok-text.ensures.asks old))
    (Stepped-lines (text_of catalogue query cards plan (Some (counts_of_plan w plan (asks_in_all w plan))) ∷ []) catalogue c.put_text.result asked new
    (subst (λ t. Ran (lines_run (t ∷ [])) c.put_text.result asked new) text (rw (c.out.ensures.value, g.met.W.Host.after_scorer, g.met.W.Host.after_scorer) at c.put_text.ensures asked)))))
