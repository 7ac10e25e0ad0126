-- The asks of each side are numbered one by one.
use Rattle.rs_ripple.proofs.LawFacts.{left-exact, right-exact}
use Rattle.rs_ripple.proofs.laws.schedule_has_the_asks.Goals as goal

pub returns-clause-left : goal.returns-clause-left
returns-clause-left c = λ j lefts rights n input. left-exact j lefts rights n input

pub returns-clause-right : goal.returns-clause-right
returns-clause-right c = λ j lefts rights n input. right-exact j lefts rights n input
