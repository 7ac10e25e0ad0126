use Rattle.rs_catalog.proofs.MakeFacts.{Scores}
use Rattle.rs_catalog.proofs.make.score_rows.Given as goal

-- the rows so far were asked for, one after another, and have scores
abbrev pub invariant-loop-index : goal.invariant-loop-index
invariant-loop-index g l = Scores l.predicate l.args l.table.rows l.index l.entries.items (g.S.Scorer.state l.fn.scorer) (g.S.Scorer.state l.scorer)
