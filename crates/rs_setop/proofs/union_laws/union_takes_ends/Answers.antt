-- No row is left of the side.
use Rattle.rs_order.specs.Schedule.{Left, Right}
use Rattle.rs_setop.proofs.LawFacts.{union-end}
use Rattle.rs_setop.proofs.union_laws.union_takes_ends.Goals as goal

pub returns-clause-left : goal.returns-clause-left
returns-clause-left c = λ s distinct lefts rights made count u st need e. union-end s distinct lefts rights made count u st Left need e

pub returns-clause-right : goal.returns-clause-right
returns-clause-right c = λ s distinct lefts rights made count u st need e. union-end s distinct lefts rights made count u st Right need e
