use Rattle.std.proofs.Common.{List, ◌∙◌, [], take, refl, sym, ap, subst, append-nil}
use Rattle.rs_rank.specs.Stable.{stable}
use Rattle.rs_rank.specs.declared.row.RankRow.{RankRow}
use Rattle.rs_expr.specs.Scoring.{Answering}
use Rattle.rs_query.specs.Blocks.{block_in}
use Rattle.rs_query.specs.WellFormed.{IsBlock}
use Rattle.rs_query.proofs.BlockFacts.{block-formed}
use Rattle.rs_query.proofs.QuestionFacts.{AllAsked-none, Ended-behind, Failed-behind, Gave-ok, Stopped-behind, Stopped-within}
use Rattle.rs_plain.specs.Plain.{plain_faults}
use Rattle.rs_plain.specs.declared.fault.PlainFault.TheVariants.{Memory}
use Rattle.rs_plain.proofs.RowFacts.{given-items}
use Rattle.rs_view.specs.Fresh.{fresh_questions, fresh_rows}
use Rattle.rs_view.proofs.FirstFacts.{scored-found}
use Rattle.rs_view.proofs.fresh.fresh_rows.Goals as goal

pub fresh-requires : goal.fresh-requires
fresh-requires g c = subst (IsBlock c.args.catalog.now) (sym c.block_in-block.ensures) (block-formed c.args.catalog.now c.args.query.now 1 c.requires)

pub scored_rows-requires-clause-block : goal.scored_rows-requires-clause-block
scored_rows-requires-clause-block g c = subst (IsBlock c.args.catalog.now) (sym c.block_in-block.ensures) (block-formed c.args.catalog.now c.args.query.now 1 c.requires)

pub returns-in_err-combinations : goal.returns-in_err-combinations
returns-in_err-combinations g c =
    let questions = fresh_questions c.args.catalog.now (block_in c.args.query.now 1) c.args.old.now in
    let old = g.S.Scorer.state c.args.scorer.now in
    Stopped-within plain_faults Memory c.args.catalog.now {A = List RankRow} [] questions questions _ _ old old refl (given-items c.from_residual.result Memory c.from_residual.ensures)
    (AllAsked-none old.answer c.args.catalog.now old)

pub returns-in_err-scored : goal.returns-in_err-scored
returns-in_err-scored g c =
    let block = block_in c.args.query.now 1 in
    let questions = fresh_questions c.args.catalog.now block c.args.old.now in
    let old = g.S.Scorer.state c.args.scorer.now in
    let new = g.S.Scorer.state c.scored_rows.new.scorer in
    Failed-behind plain_faults Memory c.args.catalog.now {A = List RankRow} {B = List RankRow} [] questions [] questions
    (λ (a : Answering). fresh_rows a c.args.catalog.now block c.args.old.now) _ c.in_err-scored.field-0.0 _ old old new (sym (append-nil questions))
    (given-items c.from_residual-in_err-scored.result c.in_err-scored.field-0.0 c.from_residual-in_err-scored.ensures) (AllAsked-none old.answer c.args.catalog.now old)
    (scored-found c.args.catalog.now block c.block_in-block.result.now c.args.old.now c.deref.result.now _ old new c.block_in-block.ensures (c.deref.ensures.value ∙ c.in_ok-combinations.ensures.value) c.in_err-scored.ensures)

pub returns-in_err-sort_stably : goal.returns-in_err-sort_stably
returns-in_err-sort_stably g c =
    let block = block_in c.args.query.now 1 in
    let questions = fresh_questions c.args.catalog.now block c.args.old.now in
    let old = g.S.Scorer.state c.args.scorer.now in
    let new = g.S.Scorer.state c.scored_rows.new.scorer in
    let gave = Gave-ok plain_faults Memory old.answer c.args.catalog.now questions (fresh_rows old.answer c.args.catalog.now block c.args.old.now) c.in_ok-scored.scored.items old new
    (scored-found c.args.catalog.now block c.block_in-block.result.now c.args.old.now c.deref.result.now _ old new c.block_in-block.ensures (c.deref.ensures.value ∙ c.in_ok-combinations.ensures.value) c.in_ok-scored.ensures) in
    Stopped-behind plain_faults Memory c.args.catalog.now {A = List RankRow} questions _ _ old new
    (given-items c.from_residual-in_err-sort_stably.result Memory c.from_residual-in_err-sort_stably.ensures) gave.asked

pub returns : goal.returns
returns g c =
    let block = block_in c.args.query.now 1 in
    let questions = fresh_questions c.args.catalog.now block c.args.old.now in
    let old = g.S.Scorer.state c.args.scorer.now in
    let new = g.S.Scorer.state c.scored_rows.new.scorer in
    let gave = Gave-ok plain_faults Memory old.answer c.args.catalog.now questions (fresh_rows old.answer c.args.catalog.now block c.args.old.now) c.in_ok-scored.scored.items old new
    (scored-found c.args.catalog.now block c.block_in-block.result.now c.args.old.now c.deref.result.now _ old new c.block_in-block.ensures (c.deref.ensures.value ∙ c.in_ok-combinations.ensures.value) c.in_ok-scored.ensures) in
    Ended-behind plain_faults Memory c.args.catalog.now {A = List RankRow} questions questions _ c.truncate.new.self.items old new refl
    (c.truncate.ensures.items ∙ ap (take c.args.most) (c.in_ok-sort_stably.ensures.ok ∙ ap (stable (λ (row : RankRow). row.sum)) gave.is_value)) gave.asked
