-- No row is left of the side.
use Rattle.rs_setop.proofs.ComparedStandFacts.{left-over-stands, right-over-stands}
use Rattle.rs_setop.proofs.compared_laws.comparison_takes_ends.Goals as goal

pub returns-clause-left : goal.returns-clause-left
returns-clause-left c = λ s shared lefts rights made count d st need e. left-over-stands s shared lefts rights made count d st need e

pub returns-clause-right : goal.returns-clause-right
returns-clause-right c = λ s shared lefts rights made count d st need e. right-over-stands s shared lefts rights made count d st need e
