use Rattle.rs_catalog.specs.Growing.{scoring_new}
use Rattle.rs_catalog.proofs.InTurnFacts.{InTurn}
use Rattle.rs_catalog.proofs.grow.score_new_rows.Given as goal

-- the rows so far were asked for, one after another, and have scores
abbrev pub invariant-loop-place : goal.invariant-loop-place
invariant-loop-place g l =
    InTurn (scoring_new (g.S.Scorer.state l.fn.scorer).answer l.index l.predicate l.args) l.first l.rows l.place l.entries.items (g.S.Scorer.state l.fn.scorer) (g.S.Scorer.state l.scorer)
