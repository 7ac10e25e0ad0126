-- The row is held.
use Rattle.rs_order.specs.Schedule.{Left, Right}
use Rattle.rs_setop.proofs.LawFacts.{union-row}
use Rattle.rs_setop.proofs.union_laws.union_takes_rows.Goals as goal

pub returns-clause-left : goal.returns-clause-left
returns-clause-left c = λ s distinct lefts rights made count u st need row e. union-row s distinct lefts rights made count u st Left need row e

pub returns-clause-right : goal.returns-clause-right
returns-clause-right c = λ s distinct lefts rights made count u st need row e. union-row s distinct lefts rights made count u st Right need row e
