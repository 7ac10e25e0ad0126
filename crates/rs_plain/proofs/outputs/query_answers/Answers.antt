use Rattle.std.proofs.Common.{List, ◌∙◌, ◌++◌, ◌∷◌, [], get_or, map, take, sym, ap, subst}
use Rattle.rs_order.proofs.EachFacts.{each-get_or}
use Rattle.rs_rank.specs.declared.answer.Answer.{Answer}
use Rattle.rs_rank.specs.declared.row.RankRow.{RankRow}
use Rattle.rs_query.specs.WellFormed.{IsBlock}
use Rattle.rs_query.specs.declared.block.Block.{Block}
use Rattle.rs_plain.specs.Keeping.{IsWhole, IsWholeIn, answer_for, answer_in}
use Rattle.rs_query.proofs.BlockFacts.{block-formed}
use Rattle.rs_plain.proofs.RowFacts.{get_or-own, map-at}
use Rattle.rs_plain.proofs.outputs.query_answers.Goals as goal

pub answer_for-requires-clause-block : goal.answer_for-requires-clause-block
answer_for-requires-clause-block c =
    subst (IsBlock c.args.catalog.now) (sym c.block_in.ensures) (block-formed c.args.catalog.now c.args.query.now _ c.requires.query)

pub answer_for-requires-clause-row : goal.answer_for-requires-clause-row
answer_for-requires-clause-row c =
    let none : RankRow = record { ids = record { block = 0; mask = 0; rows = [] }; sum = 0 } in
    let row : RankRow = get_or c.args.scored.now c.loop-row.row-index none in
    subst (λ (block : Block). IsWhole c.args.catalog.now block row) (sym c.block_in.ensures)
    (each-get_or (IsWholeIn c.args.catalog.now c.args.query.now) c.args.scored.now c.loop-row.row-index none c.requires.rows c.loop-row-test.true)

pub loop-row-preserved : goal.loop-row-preserved
loop-row-preserved c =
    let none : RankRow = record { ids = record { block = 0; mask = 0; rows = [] }; sum = 0 } in
    let row : RankRow = get_or c.args.scored.now c.loop-row.row-index none in
    let own = get_or-own c.args.scored.now c.loop-row.row-index none c.loop-row-test.true in
    let made = answer_in c.args.catalog.now c.args.query.now in
    let before = map made (take c.loop-row.row-index c.args.scored.now) in
    c.in_ok-push.ensures.items ∙ ap (λ (done : List Answer). done ++ c.in_ok-answer.answer ∷ []) c.loop-row.invariant
    ∙ ap (λ (answer : Answer). before ++ answer ∷ []) (c.in_ok-answer.ensures ∙ ap (λ (block : Block). answer_for c.args.catalog.now block row) c.block_in.ensures)
    ∙ sym (map-at made c.args.scored.now c.loop-row.row-index row c.loop-row-test.true own)
