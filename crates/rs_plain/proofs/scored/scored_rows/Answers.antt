use Rattle.std.proofs.Common.{ℕ, List, ◌∙◌, ◌+◌, ◌++◌, ◌∷◌, [], map, take, drop, get_or, sym, ap, subst, append_assoc}
use Rattle.std.specs.List.{flat_map}
use Rattle.std.proofs.lemmas.List.{take_all}
use Rattle.rs_rank.specs.declared.row.RankRow.{RankRow}
use Rattle.rs_expr.specs.Scoring.{Answering}
use Rattle.rs_query.specs.Answers.{score_of}
use Rattle.rs_query.specs.Tables.{HasRows, all_entries}
use Rattle.rs_plain.specs.Keeping.{scored_for}
use Rattle.rs_plain.specs.Plain.{plain_faults, row_questions}
use Rattle.rs_plain.specs.declared.fault.PlainFault.TheVariants.{Memory}
use Rattle.rs_query.proofs.QuestionFacts.{AllAsked, AllAsked-more, Ended-behind, Gave-behind, Failed-behind, Stopped-within}
use Rattle.rs_plain.proofs.RowFacts.{each-at, flat_map-at, flat_map-split, get_or-own, given-items, map-at}
use Rattle.rs_plain.proofs.scored.scored_rows.Goals as goal

pub score_for-requires-clause-rows : goal.score_for-requires-clause-rows
score_for-requires-clause-rows g c =
    let rows = get_or c.args.combinations.now c.loop-rows.rows-index [] in
    let own = get_or-own c.args.combinations.now c.loop-rows.rows-index [] c.loop-rows-test.true in
    each-at (HasRows c.args.catalog.now c.args.block.now (all_entries c.args.block.now)) c.args.combinations.now c.loop-rows.rows-index rows c.requires.rows c.loop-rows-test.true own

pub returns-in_err-sum : goal.returns-in_err-sum
returns-in_err-sum g c =
    let rows = get_or c.args.combinations.now c.loop-rows.rows-index [] in
    let own = get_or-own c.args.combinations.now c.loop-rows.rows-index [] c.loop-rows-test.true in
    let questions = row_questions c.args.number c.args.block.now in
    Failed-behind plain_faults Memory c.args.catalog.now {A = ℕ} {B = List RankRow}
    (flat_map questions (take c.loop-rows.rows-index c.args.combinations.now)) (questions rows) (flat_map questions (drop (c.loop-rows.rows-index + 1) c.args.combinations.now))
    (flat_map questions c.args.combinations.now) (λ (a : Answering). score_of a c.args.catalog.now c.args.block.now rows c.args.block.now.terms) _
    c.in_err-sum.field-0.0 _ (g.S.Scorer.state c.args.scorer.now) (g.S.Scorer.state c.loop-rows.scorer) (g.S.Scorer.state c.score_for.new.scorer)
    (flat_map-split questions c.args.combinations.now c.loop-rows.rows-index rows c.loop-rows-test.true own)
    (given-items c.from_residual.result c.in_err-sum.field-0.0 c.from_residual.ensures) c.loop-rows.invariant.asked c.in_err-sum.ensures

pub returns-in_err-push : goal.returns-in_err-push
returns-in_err-push g c =
    let rows = get_or c.args.combinations.now c.loop-rows.rows-index [] in
    let own = get_or-own c.args.combinations.now c.loop-rows.rows-index [] c.loop-rows-test.true in
    let questions = row_questions c.args.number c.args.block.now in
    let old = g.S.Scorer.state c.args.scorer.now in
    let middle = g.S.Scorer.state c.loop-rows.scorer in
    let new = g.S.Scorer.state c.score_for.new.scorer in
    let first = flat_map questions (take c.loop-rows.rows-index c.args.combinations.now) in
    let gave = Gave-behind plain_faults Memory c.args.catalog.now {A = ℕ} first (questions rows)
    (λ (a : Answering). score_of a c.args.catalog.now c.args.block.now rows c.args.block.now.terms) c.in_ok-sum.sum old middle new c.loop-rows.invariant.asked c.in_ok-sum.ensures in
    Stopped-within plain_faults Memory c.args.catalog.now {A = List RankRow} (first ++ questions rows) (flat_map questions (drop (c.loop-rows.rows-index + 1) c.args.combinations.now))
    (flat_map questions c.args.combinations.now) _ _ old new
    (flat_map-split questions c.args.combinations.now c.loop-rows.rows-index rows c.loop-rows-test.true own
    ∙ sym (append_assoc first (questions rows) (flat_map questions (drop (c.loop-rows.rows-index + 1) c.args.combinations.now))))
    (given-items c.from_residual-in_err-push.result Memory c.from_residual-in_err-push.ensures)
    (AllAsked-more old.answer c.args.catalog.now first (questions rows) old middle new c.loop-rows.invariant.asked gave.asked)

pub loop-rows-preserved : goal.loop-rows-preserved
loop-rows-preserved g c =
    let rows = get_or c.args.combinations.now c.loop-rows.rows-index [] in
    let own = get_or-own c.args.combinations.now c.loop-rows.rows-index [] c.loop-rows-test.true in
    let questions = row_questions c.args.number c.args.block.now in
    let old = g.S.Scorer.state c.args.scorer.now in
    let middle = g.S.Scorer.state c.loop-rows.scorer in
    let new = g.S.Scorer.state c.score_for.new.scorer in
    let scored = scored_for old.answer c.args.catalog.now c.args.number c.args.block.now in
    let before = take c.loop-rows.rows-index c.args.combinations.now in
    let first = flat_map questions before in
    let gave = Gave-behind plain_faults Memory c.args.catalog.now {A = ℕ} first (questions rows)
    (λ (a : Answering). score_of a c.args.catalog.now c.args.block.now rows c.args.block.now.terms) c.in_ok-sum.sum old middle new c.loop-rows.invariant.asked c.in_ok-sum.ensures in
    let row : ℕ → ℕ → RankRow = λ (mask : ℕ) (sum : ℕ). record { ids = record { block = c.args.number; mask = mask; rows = rows }; sum = sum } in
    record {
      asked = subst (λ asked. AllAsked old.answer c.args.catalog.now asked old new)
          (sym (flat_map-at questions c.args.combinations.now c.loop-rows.rows-index rows c.loop-rows-test.true own))
          (AllAsked-more old.answer c.args.catalog.now first (questions rows) old middle new c.loop-rows.invariant.asked gave.asked);
      rows = c.in_ok-push.ensures.items ∙ ap (λ (done : List RankRow). done ++ row c.all_entries.result c.in_ok-sum.sum ∷ []) c.loop-rows.invariant.rows
          ∙ ap (λ (mask : ℕ). map scored before ++ row mask c.in_ok-sum.sum ∷ []) c.all_entries.ensures
          ∙ ap (λ (sum : ℕ). map scored before ++ row (all_entries c.args.block.now) sum ∷ []) gave.is_value
          ∙ sym (map-at scored c.args.combinations.now c.loop-rows.rows-index rows c.loop-rows-test.true own);
    }

pub returns : goal.returns
returns g c =
    let questions = row_questions c.args.number c.args.block.now in
    let old = g.S.Scorer.state c.args.scorer.now in
    let scored = scored_for old.answer c.args.catalog.now c.args.number c.args.block.now in
    let all = take_all c.loop-rows.rows-index c.args.combinations.now c.loop-rows-test.false in
    Ended-behind plain_faults Memory c.args.catalog.now {A = List RankRow} (flat_map questions (take c.loop-rows.rows-index c.args.combinations.now))
    (flat_map questions c.args.combinations.now) _ c.loop-rows.scored.items old (g.S.Scorer.state c.loop-rows.scorer)
    (ap (flat_map questions) (sym all)) (c.loop-rows.invariant.rows ∙ ap (map scored) all) c.loop-rows.invariant.asked
