-- The row that comes first is the next answer.
use Rattle.rs_setop.proofs.UnionFacts.{taken-stands}
use Rattle.rs_setop.proofs.union_laws.union_gives_the_next_answer.Goals as goal

pub returns : goal.returns
returns c = λ s distinct lefts rights made count u st ready. taken-stands s distinct lefts rights made count u st ready
