-- New rows are asked for one after another, up to the first fault.
use Rattle.std.proofs.Common.{◌+◌, ◌++◌, ◌∷◌, [], ap, subst, sym}
use Rattle.std.specs.Prelude.{Ok, Err}
use Rattle.rs_value.proofs.ResultFacts.{given-err}
use Rattle.rs_expr.specs.InOrder.{Inquires}
use Rattle.rs_expr.specs.Scoring.{Answering}
use Rattle.rs_catalog.specs.Growing.{scoring_new, scorings_new}
use Rattle.rs_catalog.specs.Grown.{as_entries}
use Rattle.rs_catalog.specs.declared.growth.GrowFault.TheVariants.{Memory}
use Rattle.rs_catalog.proofs.GrowAtFacts.{IsFree-scoring_new}
use Rattle.rs_catalog.proofs.InTurnFacts.{InTurn, InTurn-more, InTurn-none, Inquires-held_up, Inquires-item}
use Rattle.rs_catalog.proofs.grow.score_new_rows.Goals as goal

pub loop-place-init : goal.loop-place-init
loop-place-init g c =
    let old = g.S.Scorer.state c.args.scorer.now in
    subst (λ entries. InTurn (scoring_new old.answer c.args.index c.args.predicate.now c.args.args.now) c.args.first c.args.rows.now 0 entries old old) (sym c.new-entries.ensures.items)
    (InTurn-none (scoring_new old.answer c.args.index c.args.predicate.now c.args.args.now) c.args.first c.args.rows.now old)

pub returns-in_err-entry : goal.returns-in_err-entry
returns-in_err-entry g c =
    let old = g.S.Scorer.state c.args.scorer.now in
    let middle = g.S.Scorer.state c.loop-place.scorer in
    let new = g.S.Scorer.state c.score_new_row.new.scorer in
    let ask = scoring_new old.answer c.args.index c.args.predicate.now c.args.args.now in
    let fault = c.in_err-entry.field-0.0 in
    let asked = subst (λ (answer : Answering). Inquires Memory (scoring_new answer c.args.index c.args.predicate.now c.args.args.now (c.args.first + c.loop-place.place) c.index-rows-place.result) (Err fault) middle new)
    c.loop-place.invariant.keeps.answer c.in_err-entry.ensures in
    subst (λ result. Inquires Memory (scorings_new old.answer c.args.index c.args.predicate.now c.args.args.now c.args.first c.args.rows.now) result old new)
    (sym (ap as_entries (given-err c.from_residual.result fault c.from_residual.ensures)))
    (Inquires-item ask c.args.first c.args.rows.now c.loop-place.place c.index-rows-place.result c.loop-place.entries.items old middle new c.loop-place-test.true c.index-rows-place.is c.loop-place.invariant
    (IsFree-scoring_new old.answer c.args.index c.args.predicate.now c.args.args.now) fault asked)

pub returns-in_err-push : goal.returns-in_err-push
returns-in_err-push g c =
    let old = g.S.Scorer.state c.args.scorer.now in
    let middle = g.S.Scorer.state c.loop-place.scorer in
    let new = g.S.Scorer.state c.score_new_row.new.scorer in
    let ask = scoring_new old.answer c.args.index c.args.predicate.now c.args.args.now in
    let entry = c.in_ok-entry.entry in
    let asked = subst (λ (answer : Answering). Inquires Memory (scoring_new answer c.args.index c.args.predicate.now c.args.args.now (c.args.first + c.loop-place.place) c.index-rows-place.result) (Ok entry) middle new)
    c.loop-place.invariant.keeps.answer c.in_ok-entry.ensures in
    subst (λ result. Inquires Memory (scorings_new old.answer c.args.index c.args.predicate.now c.args.args.now c.args.first c.args.rows.now) result old new)
    (sym (ap as_entries (given-err c.from_residual-in_err-push.result Memory c.from_residual-in_err-push.ensures)))
    (Inquires-held_up ask (IsFree-scoring_new old.answer c.args.index c.args.predicate.now c.args.args.now) c.args.first c.args.rows.now (c.loop-place.place + 1) (c.loop-place.entries.items ++ entry ∷ []) old new
    (InTurn-more ask c.args.first c.args.rows.now c.loop-place.place c.index-rows-place.result c.loop-place.entries.items old middle new c.loop-place-test.true c.index-rows-place.is c.loop-place.invariant entry asked))

pub loop-place-preserved : goal.loop-place-preserved
loop-place-preserved g c =
    let old = g.S.Scorer.state c.args.scorer.now in
    let middle = g.S.Scorer.state c.loop-place.scorer in
    let new = g.S.Scorer.state c.score_new_row.new.scorer in
    let ask = scoring_new old.answer c.args.index c.args.predicate.now c.args.args.now in
    let entry = c.in_ok-entry.entry in
    let asked = subst (λ (answer : Answering). Inquires Memory (scoring_new answer c.args.index c.args.predicate.now c.args.args.now (c.args.first + c.loop-place.place) c.index-rows-place.result) (Ok entry) middle new)
    c.loop-place.invariant.keeps.answer c.in_ok-entry.ensures in
    subst (λ entries. InTurn ask c.args.first c.args.rows.now (c.loop-place.place + 1) entries old new) (sym c.in_ok-push.ensures.items)
    (InTurn-more ask c.args.first c.args.rows.now c.loop-place.place c.index-rows-place.result c.loop-place.entries.items old middle new c.loop-place-test.true c.index-rows-place.is c.loop-place.invariant entry asked)
