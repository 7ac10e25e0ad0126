-- One conjunct after another: it is inside the left side, or the right one, or both together alone.
use Rattle.rs_filter.proofs.JoinFacts.{parts, satisfied, whole}
use Rattle.rs_filter.proofs.laws.sides_and_matches_are_combinations.Goals as goal

pub returns-clause-satisfied : goal.returns-clause-satisfied
returns-clause-satisfied c = λ catalogue block sizes left right lefts rights is apart l r. satisfied catalogue block sizes left right lefts rights is apart l r

pub returns-clause-combined : goal.returns-clause-combined
returns-clause-combined c = λ catalogue block sizes l r is view apart left right.
    (parts catalogue block sizes l r is view apart left right, whole catalogue block sizes l r is view apart left right)
