use Rattle.std.proofs.Common.{List, ◌∙◌, [], map, refl, subst}
use Rattle.std.specs.List.{flat_map}
use Rattle.rs_rank.specs.declared.row.RankRow.{RankRow}
use Rattle.rs_expr.specs.InOrder.{Inquires}
use Rattle.rs_query.specs.Tables.{sizes_of}
use Rattle.rs_query.specs.Questions.{asking}
use Rattle.rs_plain.specs.Keeping.{scored_for}
use Rattle.rs_plain.specs.Plain.{block_questions, plain_faults, row_questions}
use Rattle.rs_plain.specs.Results.{as_list}
use Rattle.rs_plain.specs.declared.fault.PlainFault.TheVariants.{Memory}
use Rattle.rs_query.proofs.QuestionFacts.{AllAsked-none, Stopped-within}
use Rattle.rs_plain.proofs.RowFacts.{given-items}
use Rattle.rs_plain.proofs.scored.scored_block.Goals as goal

pub returns-in_err-combinations : goal.returns-in_err-combinations
returns-in_err-combinations g c =
    let questions = block_questions c.args.catalog.now c.args.number c.args.block.now (sizes_of c.args.catalog.now c.args.block.now) in
    let old = g.S.Scorer.state c.args.scorer.now in
    Stopped-within plain_faults Memory c.args.catalog.now {A = List RankRow} [] questions questions _ _ old old refl (given-items c.from_residual.result Memory c.from_residual.ensures)
    (AllAsked-none old.answer c.args.catalog.now old)

pub returns : goal.returns
returns g c =
    let old = g.S.Scorer.state c.args.scorer.now in
    subst (λ combinations. Inquires Memory
    (asking plain_faults old.answer c.args.catalog.now (flat_map (row_questions c.args.number c.args.block.now) combinations)
    (map (scored_for old.answer c.args.catalog.now c.args.number c.args.block.now) combinations))
    (as_list c.scored_rows.result) old (g.S.Scorer.state c.scored_rows.new.scorer))
    (c.deref.ensures.value ∙ c.in_ok-combinations.ensures.value) c.scored_rows.ensures
