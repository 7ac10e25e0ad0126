use Rattle.std.proofs.Common.{rules, ℕ, ◌≡◌, ◌<◌, ◌≤◌, ◌+◌, ◌∙◌, Some, length, sym, ap, inl, arith}
use Rattle.std.specs.Prelude.{unwrap_or, Option, Ok}
use Rattle.std.proofs.lemmas.Int.{to_z-of_z}
use mir.Val.{SFits}
use mir.Syntax.{w64}
use Rattle.std.specs.Int.{w128}
use Rattle.rs_value.proofs.ResultFacts.{given-err}
use Rattle.rs_order.proofs.EachFacts.{each-push}
use Rattle.rs_catalog.specs.Indexes.{row_at, scored_from}
use Rattle.rs_catalog.specs.Making.{as_ranking, score_for}
use Rattle.rs_catalog.proofs.ScoreFacts.{rest-all, rest-bad, rest-next, rest-none, score_for-ok}
use Rattle.rs_run.specs.Parts.Read.{IsRow}
use Rattle.rs_run.specs.Top.{number_at}
use Rattle.rs_run.proofs.top.score_rows.Goals as goal

-- the place by its own name
place_is : (found : Option ℕ) (place : ℕ) → found ≡ Some place → place ≡ unwrap_or found 0
place_is found place e = sym (ap (λ o. unwrap_or o 0) e)

pub loop-index-init : goal.loop-index-init
loop-index-init c = rw c.new-scored.ensures.items (record { rest = rest-none (number_at c.number_column-place.result) c.args.max c.args.table.now.rows; each = tt })

pub returns-in_err-score_for-clause-scores : goal.returns-in_err-score_for-clause-scores
returns-in_err-score_for-clause-scores c =
    let rows = c.args.table.now.rows in
    let place = c.number_column-place.result in
    let number = c.number_in-number.result in
    let i = c.loop-index.index in
    let within : i < length rows = omega (arith, c.loop-index-test.true, c.len-index-end.ensures.value) in
    let small : SFits w64 number = search rules in
    let wide : SFits w128 number = search rules in
    let score = simp to_z-of_z at c.in_err-score_for.ensures in
    let bad = rest-bad (number_at place) c.args.max rows i c.loop-index.scored.items c.in_err-score_for.field-0.0 within c.loop-index.invariant.rest
    (ap (score_for c.args.max (i + 1)) (sym c.number_in-number.ensures) ∙ sym score) in
    inl (ap as_ranking (given-err c.from_residual.result c.in_err-score_for.field-0.0 c.from_residual.ensures) ∙ sym bad
    ∙ ap (λ p. scored_from (number_at p) c.args.max 1 rows) (place_is _ place c.number_column-place.ensures))

pub loop-index-preserved : goal.loop-index-preserved
loop-index-preserved c =
    let table = c.args.table.now in
    let answer = number_at c.number_column-place.result in
    let number = c.number_in-number.result in
    let entry = c.in_ok-score_for.field-0 in
    let i = c.loop-index.index in
    let within : i < length table.rows = omega (arith, c.loop-index-test.true, c.len-index-end.ensures.value) in
    let small : SFits w64 number = search rules in
    let wide : SFits w128 number = search rules in
    let score : score_for c.args.max (i + 1) (answer (row_at table.rows (i + 1))) ≡ Ok entry =
    ap (score_for c.args.max (i + 1)) (sym c.number_in-number.ensures) ∙ sym (simp to_z-of_z at c.in_ok-score_for.ensures) in
    let row : entry.row ≡ i + 1 = ap (λ r. r.row) (score_for-ok answer c.args.max (i + 1) (row_at table.rows (i + 1)) entry score).1 in
    rw c.in_ok-push.ensures.items (record {
      rest = rest-next answer c.args.max table.rows i c.loop-index.scored.items entry within c.loop-index.invariant.rest score;
      each = each-push (λ r. IsRow table r.row) c.loop-index.scored.items entry c.loop-index.invariant.each (record { some = omega (arith, row); within = omega (arith, row, within) });
    })

pub returns-clause-scores : goal.returns-clause-scores
returns-clause-scores c =
    let rows = c.args.table.now.rows in
    let place = c.number_column-place.result in
    let all : length rows ≤ c.loop-index.index = omega (arith, c.loop-index-test.false, c.len-index-end.ensures.value) in
    inl (sym (ap (λ p. scored_from (number_at p) c.args.max 1 rows) (sym (place_is _ place c.number_column-place.ensures))
    ∙ rest-all (number_at place) c.args.max rows c.loop-index.index c.loop-index.scored.items all c.loop-index.invariant.rest))
