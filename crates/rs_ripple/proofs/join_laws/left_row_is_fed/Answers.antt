-- The core is told the row and its pairs.
use Rattle.rs_ripple.proofs.JoinLawFacts.{left-can-feed, left-fed-stands}
use Rattle.rs_ripple.proofs.join_laws.left_row_is_fed.Goals as goal

pub returns-clause-can : goal.returns-clause-can
returns-clause-can c = λ j lefts rights made count joined row s need next. left-can-feed j lefts rights made count joined s need row next

pub returns-clause-stands : goal.returns-clause-stands
returns-clause-stands c = λ j lefts rights made count joined row s need next. left-fed-stands j lefts rights made count joined s need row next
