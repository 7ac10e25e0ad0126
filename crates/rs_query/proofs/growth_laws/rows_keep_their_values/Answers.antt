use Rattle.rs_order.proofs.ClimbingFacts.{AllByRecursion-In}
use Rattle.rs_query.specs.WellFormed.{IsConjunct, IsTerm}
use Rattle.rs_query.proofs.GrownAnswerFacts.{argument_values-grow, conjunct_holds-grows, number-grows, outputs_of-grow, predicate-grows, satisfies-grows, worth-grows}
use Rattle.rs_query.proofs.growth_laws.rows_keep_their_values.Goals as goal

pub returns-clause-conjunct : goal.returns-clause-conjunct
returns-clause-conjunct c = λ old new block mask rows conjunct grows is has h inside.
    conjunct_holds-grows old new grows block rows mask has conjunct (AllByRecursion-In (IsConjunct old block) block.conjuncts is.conjuncts conjunct h) inside

pub returns-clause-conditions : goal.returns-clause-conditions
returns-clause-conditions c = λ old new block mask rows grows is has. satisfies-grows old new grows block rows mask has is

pub returns-clause-predicate : goal.returns-clause-predicate
returns-clause-predicate c = λ old new block term grows is h.
    predicate-grows old new grows block term (AllByRecursion-In (IsTerm old block) block.terms is.terms term h)

pub returns-clause-arguments : goal.returns-clause-arguments
returns-clause-arguments c = λ old new block mask rows term grows is has h inside.
    argument_values-grow old new grows block rows mask has term (AllByRecursion-In (IsTerm old block) block.terms is.terms term h) inside

pub returns-clause-number : goal.returns-clause-number
returns-clause-number c = λ answer old new block mask rows term grows is has h inside.
    number-grows old new grows block rows mask has answer term (AllByRecursion-In (IsTerm old block) block.terms is.terms term h) inside

pub returns-clause-worth : goal.returns-clause-worth
returns-clause-worth c = λ answer old new block mask rows term grows is has h inside.
    worth-grows old new grows block rows mask has answer term (AllByRecursion-In (IsTerm old block) block.terms is.terms term h) inside

pub returns-clause-outputs : goal.returns-clause-outputs
returns-clause-outputs c = λ old new block mask rows grows is has inside. outputs_of-grow old new grows block rows mask has is inside
