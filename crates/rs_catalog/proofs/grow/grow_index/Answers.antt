-- New rows are asked for, and then put in their places.
use Rattle.std.proofs.Common.{ℕ, ◌≡◌, ◌∙◌, ◌+◌, ◌++◌, List, ap, arith, length, subst, sym}
use Rattle.std.specs.Prelude.{Ok, Err, Result}
use Rattle.rs_value.proofs.ResultFacts.{given-err}
use Rattle.rs_expr.specs.InOrder.{Inquires}
use Rattle.rs_expr.proofs.InOrderFacts.{InquiryEnds-ok}
use Rattle.rs_rank.specs.Stable.{stable}
use Rattle.rs_rank.specs.declared.scored_row.ScoredRow.{ScoredRow}
use Rattle.rs_catalog.specs.Catalog.{RankIndex}
use Rattle.rs_catalog.specs.Growing.{scorings_new, with_entries}
use Rattle.rs_catalog.specs.Grown.{as_renewed_index, finished, index_in}
use Rattle.rs_catalog.specs.Indexes.{IsRanking}
use Rattle.rs_catalog.specs.Inside.{AreScores}
use Rattle.rs_catalog.specs.declared.growth.GrowFault.{GrowFault}
use Rattle.rs_catalog.specs.declared.growth.GrowFault.TheVariants.{Memory}
use Rattle.rs_catalog.specs.declared.index.BoundArg.{BoundArg}
use Rattle.rs_catalog.proofs.InTurnFacts.{Inquires-finished, Inquires-unfinished, Inquires-unkept}
use Rattle.rs_catalog.proofs.MergeFacts.{stable-again, stable-behind_stable}
use Rattle.rs_catalog.proofs.MoreFacts.{AreNew, AreNew-scored, AreScores-more, IsRanking-more}
use Rattle.rs_catalog.proofs.RankingFacts.{score}
use Rattle.rs_catalog.proofs.grow.grow_index.Goals as goal

pub returns-in_err-entries-clause-grows : goal.returns-in_err-entries-clause-grows
returns-in_err-entries-clause-grows g c =
    let old = g.S.Scorer.state c.args.scorer.now in
    let new = g.S.Scorer.state c.score_new_rows.new.scorer in
    let index = c.args.index.now in
    let size : c.len.result ≡ length index.scores.items = omega (arith, c.len.ensures, index.scores.ok.0) in
    let fault = c.in_err-entries.field-0.0 in
    let scoring = scorings_new old.answer c.args.number c.args.predicate.now index.def.args (length index.scores.items + 1) c.args.rows.now in
    let asked : Inquires Memory scoring (Err fault) old new =
    subst (λ n. Inquires Memory (scorings_new old.answer c.args.number c.args.predicate.now index.def.args (n + 1) c.args.rows.now) (Err fault) old new) size
    (subst (λ (args : List BoundArg). Inquires Memory (scorings_new old.answer c.args.number c.args.predicate.now args (c.len.result + 1) c.args.rows.now) (Err fault) old new) (c.deref.ensures.value ∙ c.items-args.ensures)
    c.in_err-entries.ensures) in
    subst (λ (result : Result RankIndex GrowFault). Inquires Memory (finished (λ entries. with_entries entries (index_in index)) scoring) result old new)
    (sym (ap (as_renewed_index (index_in index)) (given-err c.from_residual.result fault c.from_residual.ensures)))
    (Inquires-unfinished (λ (entries : List ScoredRow). with_entries entries (index_in index)) scoring fault old new asked)

pub returns-in_err-of-clause-grows : goal.returns-in_err-of-clause-grows
returns-in_err-of-clause-grows g c =
    let old = g.S.Scorer.state c.args.scorer.now in
    let new = g.S.Scorer.state c.score_new_rows.new.scorer in
    let index = c.args.index.now in
    let size : c.len.result ≡ length index.scores.items = omega (arith, c.len.ensures, index.scores.ok.0) in
    let entries = c.in_ok-entries.entries.items in
    let scoring = scorings_new old.answer c.args.number c.args.predicate.now index.def.args (length index.scores.items + 1) c.args.rows.now in
    let asked : Inquires Memory scoring (Ok entries) old new =
    subst (λ n. Inquires Memory (scorings_new old.answer c.args.number c.args.predicate.now index.def.args (n + 1) c.args.rows.now) (Ok entries) old new) size
    (subst (λ (args : List BoundArg). Inquires Memory (scorings_new old.answer c.args.number c.args.predicate.now args (c.len.result + 1) c.args.rows.now) (Ok entries) old new) (c.deref.ensures.value ∙ c.items-args.ensures)
    c.in_ok-entries.ensures) in
    subst (λ (result : Result RankIndex GrowFault). Inquires Memory (finished (λ entries. with_entries entries (index_in index)) scoring) result old new)
    (sym (ap (as_renewed_index (index_in index)) (given-err c.from_residual-in_err-of.result Memory c.from_residual-in_err-of.ensures)))
    (Inquires-unkept (λ (entries : List ScoredRow). with_entries entries (index_in index)) scoring entries old new asked)

-- the index with the new rows by score is that with the new rows
ranking_is : (index entries ranked : List ScoredRow) → ranked ≡ stable (λ (entry : ScoredRow). entry.score) entries
    → stable (λ (entry : ScoredRow). entry.score) (index ++ ranked) ≡ stable (λ (entry : ScoredRow). entry.score) (index ++ entries)
ranking_is index entries ranked is = ap (λ rows. stable score (index ++ rows)) is ∙ stable-behind_stable score index entries

pub returns-clause-grows : goal.returns-clause-grows
returns-clause-grows g c =
    let old = g.S.Scorer.state c.args.scorer.now in
    let new = g.S.Scorer.state c.score_new_rows.new.scorer in
    let index = c.args.index.now in
    let size : c.len.result ≡ length index.scores.items = omega (arith, c.len.ensures, index.scores.ok.0) in
    let entries = c.in_ok-entries.entries.items in
    let scoring = scorings_new old.answer c.args.number c.args.predicate.now index.def.args (length index.scores.items + 1) c.args.rows.now in
    let asked : Inquires Memory scoring (Ok entries) old new =
    subst (λ n. Inquires Memory (scorings_new old.answer c.args.number c.args.predicate.now index.def.args (n + 1) c.args.rows.now) (Ok entries) old new) size
    (subst (λ (args : List BoundArg). Inquires Memory (scorings_new old.answer c.args.number c.args.predicate.now args (c.len.result + 1) c.args.rows.now) (Ok entries) old new) (c.deref.ensures.value ∙ c.items-args.ensures)
    c.in_ok-entries.ensures) in
    subst (λ (list : List ScoredRow). Inquires Memory (finished (λ entries. with_entries entries (index_in index)) scoring) (Ok (record { def = index.def; ranking = list })) old new)
    (sym (ranking_is index.ranking.items entries c.in_ok-of.field-0.ranking.items c.in_ok-of.ensures.ranking))
    (Inquires-finished (λ (entries : List ScoredRow). with_entries entries (index_in index)) scoring entries old new asked)

pub returns-clause-ordered : goal.returns-clause-ordered
returns-clause-ordered g c =
    subst (λ (rows : List ScoredRow). stable score rows ≡ rows) (sym c.in_ok-of.ensures.ranking) (stable-again score c.in_ok-entries.entries.items)

pub returns-clause-ranking : goal.returns-clause-ranking
returns-clause-ranking g c =
    let old = g.S.Scorer.state c.args.scorer.now in
    let index = c.args.index.now in
    let size : c.len.result ≡ length index.scores.items = omega (arith, c.len.ensures, index.scores.ok.0) in
    let entries = c.in_ok-entries.entries.items in
    let ends = InquiryEnds-ok _ _ _ _ _ c.in_ok-entries.ensures in
    let new : AreNew c.args.predicate.now.max (length index.scores.items + 1) c.args.rows.now entries =
    subst (λ n. AreNew c.args.predicate.now.max (n + 1) c.args.rows.now entries) size
    (AreNew-scored old.answer c.args.number c.args.predicate.now c.deref.result.now c.args.rows.now (c.len.result + 1) entries (omega arith) (sym ends.gives)) in
    subst (IsRanking (length index.scores.items + length c.args.rows.now) c.args.predicate.now.max)
    (sym (ranking_is index.ranking.items entries c.in_ok-of.field-0.ranking.items c.in_ok-of.ensures.ranking))
    (IsRanking-more (length index.scores.items) c.args.predicate.now.max index.ranking.items entries c.args.rows.now c.requires.ranking new)

pub returns-clause-scores : goal.returns-clause-scores
returns-clause-scores g c scores are =
    let old = g.S.Scorer.state c.args.scorer.now in
    let index = c.args.index.now in
    let size : c.len.result ≡ length index.scores.items = omega (arith, c.len.ensures, index.scores.ok.0) in
    let entries = c.in_ok-entries.entries.items in
    let ends = InquiryEnds-ok _ _ _ _ _ c.in_ok-entries.ensures in
    let new : AreNew c.args.predicate.now.max (length index.scores.items + 1) c.args.rows.now entries =
    subst (λ n. AreNew c.args.predicate.now.max (n + 1) c.args.rows.now entries) size
    (AreNew-scored old.answer c.args.number c.args.predicate.now c.deref.result.now c.args.rows.now (c.len.result + 1) entries (omega arith) (sym ends.gives)) in
    subst (λ (list : List ScoredRow). AreScores list (scores ++ c.in_ok-of.field-0.scores.items))
    (sym (ranking_is index.ranking.items entries c.in_ok-of.field-0.ranking.items c.in_ok-of.ensures.ranking))
    (subst (λ (list : List ℕ). AreScores (stable score (index.ranking.items ++ entries)) (scores ++ list)) (sym c.in_ok-of.ensures.scores)
    (AreScores-more (length index.scores.items) c.args.predicate.now.max index.ranking.items entries c.args.rows.now c.requires.ranking new scores are))
