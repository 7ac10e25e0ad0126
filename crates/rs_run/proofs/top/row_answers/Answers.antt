use Rattle.std.proofs.Common.{◌≡◌, ◌∙◌, ◌+◌, ◌++◌, ◌∷◌, [], get_or, map, take, sym, ap}
use Rattle.std.proofs.lemmas.List.{map-append, take_all, take_more}
use Rattle.rs_order.proofs.EachFacts.{each-get_or}
use Rattle.rs_rank.specs.declared.scored_row.ScoredRow.{ScoredRow}
use Rattle.rs_run.specs.Parts.Read.{IsRow}
use Rattle.rs_run.specs.Top.{row_answer}
use Rattle.rs_run.proofs.top.row_answers.Goals as goal

-- what stands where there is no row
abbrev no_row : ScoredRow
no_row = record { score = 0; row = 0 }

pub row_answer-requires : goal.row_answer-requires
row_answer-requires c = each-get_or (λ r. IsRow c.args.table.now r.row) c.args.scored.now c.loop-row.row-index no_row c.requires c.loop-row-test.true

pub loop-row-preserved : goal.loop-row-preserved
loop-row-preserved c =
    let answer = row_answer c.args.table.now in
    let scored = c.args.scored.now in
    let i = c.loop-row.row-index in
    let more : map answer (take (i + 1) scored) ≡ map answer (take i scored) ++ answer (get_or scored i no_row) ∷ [] =
    ap (map answer) (take_more scored i no_row c.loop-row-test.true) ∙ map-append answer (take i scored) (get_or scored i no_row ∷ []) in
    c.in_ok-push.ensures.items ∙ ap (λ a. c.loop-row.rows.items ++ a ∷ []) c.in_ok-row_answer.ensures
    ∙ ap (λ made. made ++ answer (get_or scored i no_row) ∷ []) c.loop-row.invariant ∙ sym more

pub returns : goal.returns
returns c = c.loop-row.invariant ∙ ap (map (row_answer c.args.table.now)) (take_all c.loop-row.row-index c.args.scored.now c.loop-row-test.false)
