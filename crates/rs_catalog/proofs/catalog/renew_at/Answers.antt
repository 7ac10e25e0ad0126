-- The index at the place has the new rows.
use Rattle.std.proofs.Common.{◌≡◌, ◌∙◌, ◌++◌, List, ℕ, ap, arith, length, refl, subst, sym}
use Rattle.rs_rank.specs.Stable.{stable}
use Rattle.rs_rank.specs.declared.scored_row.ScoredRow.{ScoredRow}
use Rattle.rs_catalog.proofs.JoinRowsFacts.{OthersStay-set, set-renewed}
use Rattle.rs_catalog.proofs.MergeFacts.{appended-ok}
use Rattle.rs_catalog.proofs.RankingFacts.{score}
use Rattle.rs_catalog.proofs.catalog.renew_at.Goals as goal

pub merge_rows-requires-clause-others : goal.merge_rows-requires-clause-others
merge_rows-requires-clause-others c =
    subst (λ (rows : List ScoredRow). stable score rows ≡ rows) (sym c.deref.ensures.value) (c.requires.ordered c.index_mut-index.result.now c.index_mut-index.ensures.value).new

pub returns-clause-renewed : goal.returns-clause-renewed
returns-clause-renewed c =
    let index = c.index_mut-index.result.now in
    let ranked = c.args.ranked.now in
    let room = (c.requires.room index c.index_mut-index.ensures.value).scores in
    set-renewed c.args.place ranked _ index c.args.indexes.now.entries c.index_mut-index.ensures.value refl
    (c.merge_rows.ensures ∙ ap (λ (rows : List ScoredRow). stable score (index.ranking.items ++ rows)) c.deref.ensures.value)
    (c.extend_from_slice.ensures.items
    ∙ appended-ok c.extend_from_slice.result (index.scores.items ++ c.deref-2.result.now) index.scores.items
    (c.extend_from_slice.ensures.succeeds (omega (arith, index.scores.ok.0, ap length c.deref-2.ensures.value)))
    ∙ ap (λ (scores : List ℕ). index.scores.items ++ scores) c.deref-2.ensures.value)

pub returns-clause-others : goal.returns-clause-others
returns-clause-others c = OthersStay-set c.args.place _ c.args.indexes.now.entries
