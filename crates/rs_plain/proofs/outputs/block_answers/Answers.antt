use Rattle.std.proofs.Common.{List, ◌∙◌, ◌++◌, ◌∷◌, [], get_or, map, take, sym, ap}
use Rattle.rs_order.proofs.EachFacts.{each-get_or}
use Rattle.rs_rank.specs.declared.answer.Answer.{Answer}
use Rattle.rs_rank.specs.declared.row.RankRow.{RankRow}
use Rattle.rs_plain.specs.Keeping.{IsWhole, answer_for}
use Rattle.rs_plain.proofs.RowFacts.{get_or-own, map-at}
use Rattle.rs_plain.proofs.outputs.block_answers.Goals as goal

pub answer_for-requires-clause-row : goal.answer_for-requires-clause-row
answer_for-requires-clause-row c =
    each-get_or (IsWhole c.args.catalog.now c.args.block.now) c.args.scored.now c.loop-row.row-index _ c.requires.rows c.loop-row-test.true

pub loop-row-preserved : goal.loop-row-preserved
loop-row-preserved c =
    let none : RankRow = record { ids = record { block = 0; mask = 0; rows = [] }; sum = 0 } in
    let row : RankRow = get_or c.args.scored.now c.loop-row.row-index none in
    let own = get_or-own c.args.scored.now c.loop-row.row-index none c.loop-row-test.true in
    let made = answer_for c.args.catalog.now c.args.block.now in
    c.in_ok-push.ensures.items ∙ ap (λ (done : List Answer). done ++ c.in_ok-answer.answer ∷ []) c.loop-row.invariant
    ∙ ap (λ (answer : Answer). map made (take c.loop-row.row-index c.args.scored.now) ++ answer ∷ []) c.in_ok-answer.ensures
    ∙ sym (map-at made c.args.scored.now c.loop-row.row-index row c.loop-row-test.true own)
