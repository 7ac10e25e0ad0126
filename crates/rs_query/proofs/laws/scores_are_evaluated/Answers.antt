use Rattle.rs_query.proofs.ScoreFacts.{same-sides, score-evaluated}
use Rattle.rs_query.proofs.laws.scores_are_evaluated.Goals as goal

pub returns-clause-score : goal.returns-clause-score
returns-clause-score c = λ answer catalogue block rows few. score-evaluated answer catalogue block rows 8 block.terms few

pub returns-clause-sides : goal.returns-clause-sides
returns-clause-sides c = λ catalogue left right sides. same-sides left right sides.terms
