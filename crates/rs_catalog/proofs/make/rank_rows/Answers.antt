use Rattle.std.proofs.Common.{ap, length, map, subst, sym}
use Rattle.std.specs.Prelude.{Ok}
use Rattle.rs_value.proofs.ResultFacts.{given-err}
use Rattle.rs_expr.specs.InOrder.{Inquires}
use Rattle.rs_expr.proofs.InOrderFacts.{InquiryEnds-ok}
use Rattle.rs_rank.specs.declared.scored_row.ScoredRow.{ScoredRow}
use Rattle.rs_catalog.specs.Indexes.{IsRanking, args_in}
use Rattle.rs_catalog.specs.Inside.{AreScores}
use Rattle.rs_catalog.specs.Making.{as_ranked, scoring_of}
use Rattle.rs_catalog.specs.declared.index.IndexFault.TheVariants.{Memory}
use Rattle.rs_catalog.proofs.MakeFacts.{Inquires-ranked, Inquires-unranked, Inquires-unsorted, ranked}
use Rattle.rs_catalog.proofs.RankingFacts.{AreScores-stable, IsRanking-stable}
use Rattle.rs_catalog.proofs.make.rank_rows.Goals as goal

pub returns-in_err-entries-clause-ranks : goal.returns-in_err-entries-clause-ranks
returns-in_err-entries-clause-ranks g c =
    let scoring = scoring_of (g.S.Scorer.state c.args.scorer.now).answer c.args.predicate.now c.args.args.now c.args.table.now.rows in
    subst (λ result. Inquires Memory (ranked scoring) result (g.S.Scorer.state c.args.scorer.now) (g.S.Scorer.state c.score_rows.new.scorer))
    (sym (ap as_ranked (given-err c.from_residual.result c.in_err-entries.field-0.0 c.from_residual.ensures)))
    (Inquires-unranked scoring c.in_err-entries.field-0.0 _ _ c.in_err-entries.ensures)

pub returns-clause-ranks : goal.returns-clause-ranks
returns-clause-ranks g c =
    let scoring = scoring_of (g.S.Scorer.state c.args.scorer.now).answer c.args.predicate.now c.args.args.now c.args.table.now.rows in
    subst (λ entries. Inquires Memory (ranked scoring) (Ok entries) (g.S.Scorer.state c.args.scorer.now) (g.S.Scorer.state c.score_rows.new.scorer)) (sym c.in_ok-of.ensures.ranking)
    (Inquires-ranked scoring c.in_ok-entries.entries.items _ _ c.in_ok-entries.ensures)

pub returns-clause-ranking : goal.returns-clause-ranking
returns-clause-ranking g c =
    subst (IsRanking (length c.args.table.now.rows) c.args.predicate.now.max) (sym c.in_ok-of.ensures.ranking)
    (IsRanking-stable _ _ c.args.table.now.rows c.in_ok-entries.entries.items (sym (InquiryEnds-ok _ _ _ _ _ c.in_ok-entries.ensures).gives))

pub returns-in_err-of-clause-ranks : goal.returns-in_err-of-clause-ranks
returns-in_err-of-clause-ranks g c =
    let scoring = scoring_of (g.S.Scorer.state c.args.scorer.now).answer c.args.predicate.now c.args.args.now c.args.table.now.rows in
    subst (λ result. Inquires Memory (ranked scoring) result (g.S.Scorer.state c.args.scorer.now) (g.S.Scorer.state c.score_rows.new.scorer))
    (sym (ap as_ranked (given-err c.from_residual-in_err-of.result Memory c.from_residual-in_err-of.ensures)))
    (Inquires-unsorted scoring c.in_ok-entries.entries.items _ _ c.in_ok-entries.ensures)

pub returns-clause-scores : goal.returns-clause-scores
returns-clause-scores g c =
    subst (AreScores c.in_ok-of.field-0.ranking.items) (sym c.in_ok-of.ensures.scores)
    (subst (λ ranking. AreScores ranking (map (λ (entry : ScoredRow). entry.score) c.in_ok-entries.entries.items)) (sym c.in_ok-of.ensures.ranking)
    (AreScores-stable (λ row. (g.S.Scorer.state c.args.scorer.now).answer c.args.predicate.now (args_in c.args.args.now row)) c.args.predicate.now.max c.args.table.now.rows c.in_ok-entries.entries.items (sym (InquiryEnds-ok _ _ _ _ _ c.in_ok-entries.ensures).gives)))
