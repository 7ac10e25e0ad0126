use Rattle.std.proofs.Common.{ℕ, List, ◌∙◌, ◌+◌, ◌++◌, ◌∷◌, [], map, take, drop, get_or, refl, sym, ap, subst, append_assoc}
use Rattle.std.specs.List.{flat_map}
use Rattle.std.specs.Prelude.{Option}
use Rattle.std.proofs.lemmas.List.{take_all}
use Rattle.rs_value.proofs.ResultFacts.{given-err}
use Rattle.rs_rank.specs.declared.row.RankRow.{RankRow}
use Rattle.rs_expr.specs.Scoring.{Answering}
use Rattle.rs_query.specs.Answers.{score_of}
use Rattle.rs_query.specs.Tables.{HasRows, all_entries}
use Rattle.rs_plain.specs.Keeping.{HasBest, scored_for}
use Rattle.rs_plain.specs.Plain.{plain_faults, row_questions}
use Rattle.rs_plain.specs.declared.fault.PlainFault.TheVariants.{Memory}
use Rattle.rs_query.proofs.QuestionFacts.{AllAsked, AllAsked-more, Ended-behind, Gave-behind, Failed-behind, Stopped-within}
use Rattle.rs_plain.proofs.BestFacts.{HasBest-more}
use Rattle.rs_plain.proofs.RowFacts.{each-at, flat_map-at, flat_map-split, get_or-own, map-at}
use Rattle.rs_plain.proofs.limited.add_rows.Goals as goal

pub score_for-requires-clause-rows : goal.score_for-requires-clause-rows
score_for-requires-clause-rows g c =
    let rows = get_or c.args.combinations.now c.loop-rows.rows-index [] in
    let own = get_or-own c.args.combinations.now c.loop-rows.rows-index [] c.loop-rows-test.true in
    each-at (HasRows c.args.catalog.now c.args.block.now (all_entries c.args.block.now)) c.args.combinations.now c.loop-rows.rows-index rows c.requires.rows c.loop-rows-test.true own

pub returns-in_err-sum-clause-asks : goal.returns-in_err-sum-clause-asks
returns-in_err-sum-clause-asks g c =
    let rows = get_or c.args.combinations.now c.loop-rows.rows-index [] in
    let own = get_or-own c.args.combinations.now c.loop-rows.rows-index [] c.loop-rows-test.true in
    let questions = row_questions c.args.number c.args.block.now in
    Failed-behind plain_faults Memory c.args.catalog.now {A = ℕ} {B = Unit {0}}
    (flat_map questions (take c.loop-rows.rows-index c.args.combinations.now)) (questions rows) (flat_map questions (drop (c.loop-rows.rows-index + 1) c.args.combinations.now))
    (flat_map questions c.args.combinations.now) (λ (a : Answering). score_of a c.args.catalog.now c.args.block.now rows c.args.block.now.terms) _
    c.in_err-sum.field-0.0 _ (g.S.Scorer.state c.args.scorer.now) (g.S.Scorer.state c.loop-rows.scorer) (g.S.Scorer.state c.score_for.new.scorer)
    (flat_map-split questions c.args.combinations.now c.loop-rows.rows-index rows c.loop-rows-test.true own)
    (given-err c.from_residual.result c.in_err-sum.field-0.0 c.from_residual.ensures) c.loop-rows.invariant.asked c.in_err-sum.ensures

pub returns-in_err-add-clause-asks : goal.returns-in_err-add-clause-asks
returns-in_err-add-clause-asks g c =
    let rows = get_or c.args.combinations.now c.loop-rows.rows-index [] in
    let own = get_or-own c.args.combinations.now c.loop-rows.rows-index [] c.loop-rows-test.true in
    let questions = row_questions c.args.number c.args.block.now in
    let old = g.S.Scorer.state c.args.scorer.now in
    let middle = g.S.Scorer.state c.loop-rows.scorer in
    let new = g.S.Scorer.state c.score_for.new.scorer in
    let first = flat_map questions (take c.loop-rows.rows-index c.args.combinations.now) in
    let gave = Gave-behind plain_faults Memory c.args.catalog.now {A = ℕ} first (questions rows)
    (λ (a : Answering). score_of a c.args.catalog.now c.args.block.now rows c.args.block.now.terms) c.in_ok-sum.sum old middle new c.loop-rows.invariant.asked c.in_ok-sum.ensures in
    Stopped-within plain_faults Memory c.args.catalog.now {A = Unit {0}} (first ++ questions rows) (flat_map questions (drop (c.loop-rows.rows-index + 1) c.args.combinations.now))
    (flat_map questions c.args.combinations.now) _ _ old new
    (flat_map-split questions c.args.combinations.now c.loop-rows.rows-index rows c.loop-rows-test.true own
    ∙ sym (append_assoc first (questions rows) (flat_map questions (drop (c.loop-rows.rows-index + 1) c.args.combinations.now))))
    (given-err c.from_residual-in_err-add.result Memory c.from_residual-in_err-add.ensures)
    (AllAsked-more old.answer c.args.catalog.now first (questions rows) old middle new c.loop-rows.invariant.asked gave.asked)

pub loop-rows-preserved : goal.loop-rows-preserved
loop-rows-preserved g c =
    let rows = get_or c.args.combinations.now c.loop-rows.rows-index [] in
    let own = get_or-own c.args.combinations.now c.loop-rows.rows-index [] c.loop-rows-test.true in
    let questions = row_questions c.args.number c.args.block.now in
    let old = g.S.Scorer.state c.args.scorer.now in
    let middle = g.S.Scorer.state c.loop-rows.scorer in
    let new = g.S.Scorer.state c.score_for.new.scorer in
    let scored = scored_for old.answer c.args.catalog.now c.args.number c.args.block.now in
    let before = take c.loop-rows.rows-index c.args.combinations.now in
    let start = c.args.best.now.rows.items in
    let limit = c.args.best.now.limit in
    let first = flat_map questions before in
    let gave = Gave-behind plain_faults Memory c.args.catalog.now {A = ℕ} first (questions rows)
    (λ (a : Answering). score_of a c.args.catalog.now c.args.block.now rows c.args.block.now.terms) c.in_ok-sum.sum old middle new c.loop-rows.invariant.asked c.in_ok-sum.ensures in
    let row : ℕ → ℕ → RankRow = λ (mask : ℕ) (sum : ℕ). record { ids = record { block = c.args.number; mask = mask; rows = rows }; sum = sum } in
    let kept = c.loop-rows.best.rows.items in
    let new_kept = c.add.new.self.rows.items in
    record {
      asked = subst (λ asked. AllAsked old.answer c.args.catalog.now asked old new)
          (sym (flat_map-at questions c.args.combinations.now c.loop-rows.rows-index rows c.loop-rows-test.true own))
          (AllAsked-more old.answer c.args.catalog.now first (questions rows) old middle new c.loop-rows.invariant.asked gave.asked);
      limit = c.add.ensures.limit ∙ c.loop-rows.invariant.limit;
      best = subst (HasBest limit new_kept)
          (append_assoc start (map scored before) (row c.all_entries.result c.in_ok-sum.sum ∷ [])
          ∙ ap (λ (more : List RankRow). start ++ more)
          (ap (λ (mask : ℕ). map scored before ++ row mask c.in_ok-sum.sum ∷ []) c.all_entries.ensures
          ∙ ap (λ (sum : ℕ). map scored before ++ row (all_entries c.args.block.now) sum ∷ []) gave.is_value
          ∙ sym (map-at scored c.args.combinations.now c.loop-rows.rows-index rows c.loop-rows-test.true own)))
          (HasBest-more limit kept (start ++ map scored before) (row c.all_entries.result c.in_ok-sum.sum ∷ []) new_kept c.loop-rows.invariant.best
          (subst (λ (most : Option ℕ). HasBest most new_kept (kept ++ row c.all_entries.result c.in_ok-sum.sum ∷ [])) c.loop-rows.invariant.limit c.in_ok-add.ensures.best));
    }

pub returns-clause-asks : goal.returns-clause-asks
returns-clause-asks g c =
    let questions = row_questions c.args.number c.args.block.now in
    let old = g.S.Scorer.state c.args.scorer.now in
    let all = take_all c.loop-rows.rows-index c.args.combinations.now c.loop-rows-test.false in
    Ended-behind plain_faults Memory c.args.catalog.now {A = Unit {0}} (flat_map questions (take c.loop-rows.rows-index c.args.combinations.now))
    (flat_map questions c.args.combinations.now) tt tt old (g.S.Scorer.state c.loop-rows.scorer)
    (ap (flat_map questions) (sym all)) refl c.loop-rows.invariant.asked

pub returns-clause-best : goal.returns-clause-best
returns-clause-best g c =
    let old = g.S.Scorer.state c.args.scorer.now in
    let scored = scored_for old.answer c.args.catalog.now c.args.number c.args.block.now in
    subst (λ combinations. HasBest c.args.best.now.limit c.loop-rows.best.rows.items (c.args.best.now.rows.items ++ map scored combinations))
    (take_all c.loop-rows.rows-index c.args.combinations.now c.loop-rows-test.false) c.loop-rows.invariant.best
