-- The row is held, or dropped, or kept for the right side.
use Rattle.rs_order.specs.Schedule.{Left, Right}
use Rattle.rs_setop.proofs.ComparedStandFacts.{left-row-stands, right-row-stands}
use Rattle.rs_setop.proofs.LawFacts.{compared-sum}
use Rattle.rs_setop.proofs.compared_laws.comparison_takes_rows.Goals as goal

pub returns-clause-left : goal.returns-clause-left
returns-clause-left c = λ s shared lefts rights made count d st need row e. (compared-sum s shared lefts rights made count d st Left row e, left-row-stands s shared lefts rights made count d st need row e)

pub returns-clause-right : goal.returns-clause-right
returns-clause-right c = λ s shared lefts rights made count d st need row e. (compared-sum s shared lefts rights made count d st Right row e, right-row-stands s shared lefts rights made count d st need row e)
