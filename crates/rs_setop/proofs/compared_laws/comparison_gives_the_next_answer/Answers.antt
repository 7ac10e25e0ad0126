-- The held row is the next answer.
use Rattle.rs_setop.proofs.ComparedStandFacts.{taken-stands}
use Rattle.rs_setop.proofs.compared_laws.comparison_gives_the_next_answer.Goals as goal

pub returns : goal.returns
returns c = λ s shared lefts rights made count d st ready. taken-stands s shared lefts rights made count d st ready
