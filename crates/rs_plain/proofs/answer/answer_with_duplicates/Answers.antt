-- The best scored combinations make the rows of the answer.
use Rattle.std.proofs.Common.{List, ◌∙◌, [], map, refl, sym, ap, subst, append-nil}
use Rattle.std.specs.List.{AllByRecursion}
use Rattle.rs_rank.specs.declared.answer.Answer.{Answer}
use Rattle.rs_rank.specs.declared.row.RankRow.{RankRow}
use Rattle.rs_expr.specs.Scoring.{Answering}
use Rattle.rs_query.specs.Answers.{limit_of}
use Rattle.rs_query.specs.Views.{all_rows}
use Rattle.rs_query.proofs.QuestionFacts.{AllAsked-none, Ended-behind, Failed-behind, Gave-ok, Stopped-behind}
use Rattle.rs_plain.specs.Keeping.{IsWholeIn, answer_in, best_of, scored_query}
use Rattle.rs_plain.specs.Plain.{plain_faults, questions_of}
use Rattle.rs_plain.specs.declared.fault.PlainFault.TheVariants.{Memory}
use Rattle.rs_plain.proofs.KeepingFacts.{answers-left, whole-left}
use Rattle.rs_plain.proofs.RowFacts.{given-items}
use Rattle.rs_plain.proofs.answer.answer_with_duplicates.Goals as goal

pub query_answers-requires-clause-rows : goal.query_answers-requires-clause-rows
query_answers-requires-clause-rows g c =
    let questions = questions_of c.args.catalog.now c.args.query.now (all_rows c.args.catalog.now c.args.query.now) in
    let old = g.S.Scorer.state c.args.scorer.now in
    let new = g.S.Scorer.state c.best_rows.new.scorer in
    let best = best_of (limit_of c.args.query.now) (scored_query old.answer c.args.catalog.now c.args.query.now) in
    let gave = Gave-ok plain_faults Memory old.answer c.args.catalog.now questions best c.in_ok-best.best.items old new c.in_ok-best.ensures in
    subst (AllByRecursion (IsWholeIn c.args.catalog.now c.args.query.now))
    (sym (c.deref.ensures.value ∙ gave.is_value))
    (whole-left old.answer c.args.catalog.now c.args.query.now c.requires.query)

pub returns-in_err-best : goal.returns-in_err-best
returns-in_err-best g c =
    let questions = questions_of c.args.catalog.now c.args.query.now (all_rows c.args.catalog.now c.args.query.now) in
    let old = g.S.Scorer.state c.args.scorer.now in
    Failed-behind plain_faults Memory c.args.catalog.now {A = List RankRow} {B = List Answer} [] questions [] questions
    (λ (a : Answering). best_of (limit_of c.args.query.now) (scored_query a c.args.catalog.now c.args.query.now)) _
    c.in_err-best.field-0.0 _ old old (g.S.Scorer.state c.best_rows.new.scorer) (sym (append-nil questions))
    (given-items c.from_residual.result c.in_err-best.field-0.0 c.from_residual.ensures) (AllAsked-none old.answer c.args.catalog.now old) c.in_err-best.ensures

pub returns-in_err-query_answers : goal.returns-in_err-query_answers
returns-in_err-query_answers g c =
    let questions = questions_of c.args.catalog.now c.args.query.now (all_rows c.args.catalog.now c.args.query.now) in
    let old = g.S.Scorer.state c.args.scorer.now in
    let new = g.S.Scorer.state c.best_rows.new.scorer in
    let gave = Gave-ok plain_faults Memory old.answer c.args.catalog.now questions _ c.in_ok-best.best.items old new c.in_ok-best.ensures in
    Stopped-behind plain_faults Memory c.args.catalog.now {A = List Answer} questions _ _ old new
    (given-items c.from_residual-in_err-query_answers.result Memory c.from_residual-in_err-query_answers.ensures) gave.asked

pub returns : goal.returns
returns g c =
    let questions = questions_of c.args.catalog.now c.args.query.now (all_rows c.args.catalog.now c.args.query.now) in
    let old = g.S.Scorer.state c.args.scorer.now in
    let new = g.S.Scorer.state c.best_rows.new.scorer in
    let best = best_of (limit_of c.args.query.now) (scored_query old.answer c.args.catalog.now c.args.query.now) in
    let gave = Gave-ok plain_faults Memory old.answer c.args.catalog.now questions best c.in_ok-best.best.items old new c.in_ok-best.ensures in
    Ended-behind plain_faults Memory c.args.catalog.now {A = List Answer} questions questions _ c.in_ok-query_answers.field-0.items old new refl
    (c.in_ok-query_answers.ensures
    ∙ ap (map (answer_in c.args.catalog.now c.args.query.now)) (c.deref.ensures.value ∙ gave.is_value)
    ∙ answers-left old.answer c.args.catalog.now c.args.query.now c.requires.keeps) gave.asked
