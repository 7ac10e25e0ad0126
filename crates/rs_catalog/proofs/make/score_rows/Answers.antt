use Rattle.std.proofs.Common.{ℕ, ◌≡◌, ◌<◌, ◌+◌, ◌++◌, ◌∷◌, [], ap, arith, subst, sym}
use Rattle.rs_value.proofs.ResultFacts.{given-err}
use Rattle.rs_expr.specs.InOrder.{Inquires}
use Rattle.rs_catalog.specs.Making.{as_ranking, scoring_of}
use Rattle.rs_catalog.specs.declared.index.IndexFault.TheVariants.{Memory}
use Rattle.rs_catalog.proofs.MakeFacts.{Scores, Scores-err, Scores-full, Scores-more}
use Rattle.rs_catalog.proofs.make.score_rows.Goals as goal

-- the place of a row that is left
in_table : (i end rows : ℕ) → i < end → end ≡ rows → i < rows
in_table i end rows before same = omega arith

pub returns-in_err-push : goal.returns-in_err-push
returns-in_err-push g c =
    let old = g.S.Scorer.state c.args.scorer.now in
    let new = g.S.Scorer.state c.score_row.new.scorer in
    let within = in_table _ _ _ c.loop-index-test.true c.len-index-end.ensures.value in
    subst (λ result. Inquires Memory (scoring_of old.answer c.args.predicate.now c.args.args.now c.args.table.now.rows) result old new)
    (sym (ap as_ranking (given-err c.from_residual-in_err-push.result Memory c.from_residual-in_err-push.ensures)))
    (Scores-full c.args.predicate.now c.args.args.now c.args.table.now.rows (c.loop-index.index + 1) (c.loop-index.entries.items ++ c.in_ok-entry.entry ∷ []) old new (omega (arith, within))
    (Scores-more c.args.predicate.now c.args.args.now c.args.table.now.rows c.loop-index.index c.loop-index.entries.items c.in_ok-entry.entry old (g.S.Scorer.state c.loop-index.scorer) new within
    c.loop-index.invariant c.in_ok-entry.ensures))

pub returns-in_err-entry : goal.returns-in_err-entry
returns-in_err-entry g c =
    let old = g.S.Scorer.state c.args.scorer.now in
    let new = g.S.Scorer.state c.score_row.new.scorer in
    let within = in_table _ _ _ c.loop-index-test.true c.len-index-end.ensures.value in
    subst (λ result. Inquires Memory (scoring_of old.answer c.args.predicate.now c.args.args.now c.args.table.now.rows) result old new)
    (sym (ap as_ranking (given-err c.from_residual.result c.in_err-entry.field-0.0 c.from_residual.ensures)))
    (Scores-err c.args.predicate.now c.args.args.now c.args.table.now.rows c.loop-index.index c.loop-index.entries.items c.in_err-entry.field-0.0
    old (g.S.Scorer.state c.loop-index.scorer) new within c.loop-index.invariant c.in_err-entry.ensures)

pub loop-index-preserved : goal.loop-index-preserved
loop-index-preserved g c =
    let old = g.S.Scorer.state c.args.scorer.now in
    let new = g.S.Scorer.state c.score_row.new.scorer in
    let within = in_table _ _ _ c.loop-index-test.true c.len-index-end.ensures.value in
    subst (λ entries. Scores c.args.predicate.now c.args.args.now c.args.table.now.rows (c.loop-index.index + 1) entries old new) (sym c.in_ok-push.ensures.items)
    (Scores-more c.args.predicate.now c.args.args.now c.args.table.now.rows c.loop-index.index c.loop-index.entries.items c.in_ok-entry.entry old (g.S.Scorer.state c.loop-index.scorer) new within
    c.loop-index.invariant c.in_ok-entry.ensures)
