use Rattle.std.proofs.Common.{ℕ, List, ◌∙◌, ◌++◌, [], refl, sym, ap, subst, append-nil}
use Rattle.std.specs.Prelude.{Option}
use Rattle.rs_rank.specs.declared.row.RankRow.{RankRow}
use Rattle.rs_expr.specs.Scoring.{Answering}
use Rattle.rs_query.specs.Answers.{limit_of}
use Rattle.rs_query.specs.Views.{all_rows}
use Rattle.rs_query.proofs.QuestionFacts.{AllAsked-none, Ended-behind, Failed-behind, Gave-ok, Stopped-behind}
use Rattle.rs_plain.specs.Keeping.{HasBest, best_of, scored_query}
use Rattle.rs_plain.specs.Plain.{plain_faults, questions_of}
use Rattle.rs_plain.specs.declared.fault.PlainFault.TheVariants.{Memory}
use Rattle.rs_plain.proofs.BestFacts.{HasBest-best}
use Rattle.rs_plain.proofs.RowFacts.{given-items}
use Rattle.rs_plain.proofs.limited.best_rows.Goals as goal

pub returns-in_err-add_query : goal.returns-in_err-add_query
returns-in_err-add_query g c =
    let questions = questions_of c.args.catalog.now c.args.query.now (all_rows c.args.catalog.now c.args.query.now) in
    let old = g.S.Scorer.state c.args.scorer.now in
    Failed-behind plain_faults Memory c.args.catalog.now {A = Unit {0}} {B = List RankRow} [] questions [] questions (λ (a : Answering). tt) _
    c.in_err-add_query.field-0.0 _ old old (g.S.Scorer.state c.add_query.new.scorer) (sym (append-nil questions))
    (given-items c.from_residual.result c.in_err-add_query.field-0.0 c.from_residual.ensures) (AllAsked-none old.answer c.args.catalog.now old) c.in_err-add_query.ensures.asks

pub returns-in_err-into_rows : goal.returns-in_err-into_rows
returns-in_err-into_rows g c =
    let questions = questions_of c.args.catalog.now c.args.query.now (all_rows c.args.catalog.now c.args.query.now) in
    let old = g.S.Scorer.state c.args.scorer.now in
    let new = g.S.Scorer.state c.add_query.new.scorer in
    let gave = Gave-ok plain_faults Memory old.answer c.args.catalog.now questions tt c.in_ok-add_query.field-0 old new c.in_ok-add_query.ensures.asks in
    Stopped-behind plain_faults Memory c.args.catalog.now {A = List RankRow} questions _ _ old new
    (given-items c.from_residual-in_err-into_rows.result Memory c.from_residual-in_err-into_rows.ensures) gave.asked

pub returns : goal.returns
returns g c =
    let questions = questions_of c.args.catalog.now c.args.query.now (all_rows c.args.catalog.now c.args.query.now) in
    let old = g.S.Scorer.state c.args.scorer.now in
    let new = g.S.Scorer.state c.add_query.new.scorer in
    let gave = Gave-ok plain_faults Memory old.answer c.args.catalog.now questions tt c.in_ok-add_query.field-0 old new c.in_ok-add_query.ensures.asks in
    let limit = c.new-best.ensures.limit ∙ c.limit_of.ensures in
    let kept = c.add_query.new.best.rows.items in
    let scored = scored_query old.answer c.args.catalog.now c.args.query.now in
    let has : HasBest (limit_of c.args.query.now) kept scored =
    subst (λ (most : Option ℕ). HasBest most kept scored) limit
    (subst (λ (none : List RankRow). HasBest c.new-best.result.limit kept (none ++ scored)) c.new-best.ensures.none c.in_ok-add_query.ensures.best) in
    Ended-behind plain_faults Memory c.args.catalog.now {A = List RankRow} questions questions _ c.in_ok-into_rows.field-0.items old new refl
    (c.in_ok-into_rows.ensures ∙ ap (λ (most : Option ℕ). best_of most kept) (c.add_query.ensures.limit ∙ limit) ∙ HasBest-best (limit_of c.args.query.now) kept scored has)
    gave.asked
