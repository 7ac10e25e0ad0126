-- The rows of the answer are made of all combinations behind their scores.
use Rattle.std.proofs.Common.{List, ◌∙◌, [], map, refl, sym, ap, subst, append-nil}
use Rattle.std.specs.List.{AllByRecursion}
use Rattle.rs_rank.specs.declared.answer.Answer.{Answer}
use Rattle.rs_rank.specs.declared.row.RankRow.{RankRow}
use Rattle.rs_expr.specs.Scoring.{Answering}
use Rattle.rs_query.specs.Combinations.{all_combinations}
use Rattle.rs_query.specs.Tables.{sizes_of}
use Rattle.rs_query.proofs.QuestionFacts.{AllAsked-none, Ended-behind, Failed-behind, Gave-ok, Stopped-behind}
use Rattle.rs_plain.specs.Keeping.{IsWhole, answer_for, scored_block}
use Rattle.rs_plain.specs.Plain.{block_questions, plain_faults}
use Rattle.rs_plain.specs.declared.fault.PlainFault.TheVariants.{Memory}
use Rattle.rs_plain.proofs.KeepingFacts.{answers-block, whole-block}
use Rattle.rs_plain.proofs.RowFacts.{given-items}
use Rattle.rs_plain.proofs.rows.block_rows.Goals as goal

pub block_answers-requires-clause-rows : goal.block_answers-requires-clause-rows
block_answers-requires-clause-rows g c =
    let questions = block_questions c.args.catalog.now c.args.number c.args.block.now (sizes_of c.args.catalog.now c.args.block.now) in
    let old = g.S.Scorer.state c.args.scorer.now in
    let new = g.S.Scorer.state c.scored_block.new.scorer in
    let gave = Gave-ok plain_faults Memory old.answer c.args.catalog.now questions _ c.in_ok-scored.scored.items old new c.in_ok-scored.ensures in
    subst (AllByRecursion (IsWhole c.args.catalog.now c.args.block.now)) (sym (c.deref.ensures.value ∙ gave.is_value))
    (whole-block old.answer c.args.catalog.now c.args.number c.args.block.now c.requires)

pub returns-in_err-scored : goal.returns-in_err-scored
returns-in_err-scored g c =
    let questions = block_questions c.args.catalog.now c.args.number c.args.block.now (sizes_of c.args.catalog.now c.args.block.now) in
    let old = g.S.Scorer.state c.args.scorer.now in
    Failed-behind plain_faults Memory c.args.catalog.now {A = List RankRow} {B = List Answer} [] questions [] questions
    (λ (a : Answering). scored_block a c.args.catalog.now c.args.number c.args.block.now) _
    c.in_err-scored.field-0.0 _ old old (g.S.Scorer.state c.scored_block.new.scorer) (sym (append-nil questions))
    (given-items c.from_residual.result c.in_err-scored.field-0.0 c.from_residual.ensures) (AllAsked-none old.answer c.args.catalog.now old) c.in_err-scored.ensures

pub returns-in_err-block_answers : goal.returns-in_err-block_answers
returns-in_err-block_answers g c =
    let questions = block_questions c.args.catalog.now c.args.number c.args.block.now (sizes_of c.args.catalog.now c.args.block.now) in
    let old = g.S.Scorer.state c.args.scorer.now in
    let new = g.S.Scorer.state c.scored_block.new.scorer in
    let gave = Gave-ok plain_faults Memory old.answer c.args.catalog.now questions _ c.in_ok-scored.scored.items old new c.in_ok-scored.ensures in
    Stopped-behind plain_faults Memory c.args.catalog.now {A = List Answer} questions _ _ old new
    (given-items c.from_residual-in_err-block_answers.result Memory c.from_residual-in_err-block_answers.ensures) gave.asked

pub returns : goal.returns
returns g c =
    let questions = block_questions c.args.catalog.now c.args.number c.args.block.now (sizes_of c.args.catalog.now c.args.block.now) in
    let old = g.S.Scorer.state c.args.scorer.now in
    let new = g.S.Scorer.state c.scored_block.new.scorer in
    let gave = Gave-ok plain_faults Memory old.answer c.args.catalog.now questions _ c.in_ok-scored.scored.items old new c.in_ok-scored.ensures in
    Ended-behind plain_faults Memory c.args.catalog.now {A = List Answer} questions questions _ c.in_ok-block_answers.field-0.items old new refl
    (c.in_ok-block_answers.ensures
    ∙ ap (map (answer_for c.args.catalog.now c.args.block.now)) (c.deref.ensures.value ∙ gave.is_value)
    ∙ answers-block old.answer c.args.catalog.now c.args.number c.args.block.now (all_combinations c.args.catalog.now c.args.block.now)) gave.asked
