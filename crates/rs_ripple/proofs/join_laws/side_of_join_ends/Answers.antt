-- All rows of the side are drawn already.
use Rattle.rs_ripple.proofs.JoinLawFacts.{left-end-stands, right-end-stands}
use Rattle.rs_ripple.proofs.join_laws.side_of_join_ends.Goals as goal

pub returns-clause-left : goal.returns-clause-left
returns-clause-left c = λ j lefts rights made count joined s need over. left-end-stands j lefts rights made count joined s need over

pub returns-clause-right : goal.returns-clause-right
returns-clause-right c = λ j lefts rights made count joined s need over. right-end-stands j lefts rights made count joined s need over
