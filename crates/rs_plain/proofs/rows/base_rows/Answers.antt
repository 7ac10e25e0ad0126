use Rattle.std.proofs.Common.{List, [], map, sym, append-nil}
use Rattle.rs_rank.specs.declared.answer.Answer.{Answer}
use Rattle.rs_expr.specs.Scoring.{Answering}
use Rattle.rs_query.specs.Answers.{answer_row}
use Rattle.rs_query.specs.Combinations.{all_combinations}
use Rattle.rs_query.specs.Tables.{sizes_of}
use Rattle.rs_plain.specs.Plain.{block_questions, plain_faults}
use Rattle.rs_plain.specs.declared.fault.PlainFault.TheVariants.{Memory}
use Rattle.rs_query.proofs.QuestionFacts.{AllAsked-none, Gave-ok, Failed-behind, Stopped-behind}
use Rattle.rs_plain.proofs.RowFacts.{given-items}
use Rattle.rs_plain.proofs.rows.base_rows.Goals as goal

pub returns-in_err-rows : goal.returns-in_err-rows
returns-in_err-rows g c =
    let questions = block_questions c.args.catalog.now c.args.number c.args.block.now (sizes_of c.args.catalog.now c.args.block.now) in
    let old = g.S.Scorer.state c.args.scorer.now in
    Failed-behind plain_faults Memory c.args.catalog.now {A = List Answer} {B = List Answer} [] questions [] questions
    (λ (a : Answering). map (answer_row a c.args.catalog.now c.args.block.now c.args.number) (all_combinations c.args.catalog.now c.args.block.now)) _
    c.in_err-rows.field-0.0 _ old old (g.S.Scorer.state c.block_rows.new.scorer) (sym (append-nil questions))
    (given-items c.from_residual.result c.in_err-rows.field-0.0 c.from_residual.ensures) (AllAsked-none old.answer c.args.catalog.now old) c.in_err-rows.ensures

pub returns-in_err-first_rows : goal.returns-in_err-first_rows
returns-in_err-first_rows g c =
    let questions = block_questions c.args.catalog.now c.args.number c.args.block.now (sizes_of c.args.catalog.now c.args.block.now) in
    let old = g.S.Scorer.state c.args.scorer.now in
    let new = g.S.Scorer.state c.block_rows.new.scorer in
    let gave = Gave-ok plain_faults Memory old.answer c.args.catalog.now questions _ c.in_ok-rows.rows.items old new c.in_ok-rows.ensures in
    Stopped-behind plain_faults Memory c.args.catalog.now {A = List Answer} questions _ _ old new
    (given-items c.from_residual-in_err-first_rows.result Memory c.from_residual-in_err-first_rows.ensures) gave.asked
