-- The columns of a part are inside the mask where the part is, and so have the same values.
use Rattle.std.proofs.Common.{ap}
use Rattle.rs_order.proofs.ClimbingFacts.{AllByRecursion-In}
use Rattle.rs_query.specs.Answers.{clamped, predicate_at}
use Rattle.rs_query.specs.WellFormed.{IsColumn, IsConjunct, IsTerm}
use Rattle.rs_query.proofs.LocalFacts.{argument_values-local, column_value-local, conjunct_holds-local, outputs_of-local}
use Rattle.rs_query.proofs.laws.parts_are_local.Goals as goal

pub returns-clause-conjunct : goal.returns-clause-conjunct
returns-clause-conjunct c = λ catalogue block mask xs ys conjunct is agree h inside.
    conjunct_holds-local catalogue block mask xs ys agree conjunct (AllByRecursion-In (IsConjunct catalogue block) block.conjuncts is.conjuncts conjunct h) inside

pub returns-clause-args : goal.returns-clause-args
returns-clause-args c = λ catalogue block mask xs ys term is agree h inside.
    argument_values-local catalogue block mask xs ys agree term (AllByRecursion-In (IsTerm catalogue block) block.terms is.terms term h) inside

pub returns-clause-number : goal.returns-clause-number
returns-clause-number c = λ answer catalogue block mask xs ys term is agree h inside.
    ap (answer (predicate_at catalogue term.predicate))
    (argument_values-local catalogue block mask xs ys agree term (AllByRecursion-In (IsTerm catalogue block) block.terms is.terms term h) inside)

pub returns-clause-worth : goal.returns-clause-worth
returns-clause-worth c = λ answer catalogue block mask xs ys term is agree h inside.
    ap (λ values. clamped (predicate_at catalogue term.predicate).max (answer (predicate_at catalogue term.predicate) values))
    (argument_values-local catalogue block mask xs ys agree term (AllByRecursion-In (IsTerm catalogue block) block.terms is.terms term h) inside)

pub returns-clause-output : goal.returns-clause-output
returns-clause-output c = λ catalogue block mask xs ys column is agree h has.
    column_value-local catalogue block mask xs ys agree column (AllByRecursion-In (IsColumn catalogue block) block.items is.items column h).0 has

pub returns-clause-outputs : goal.returns-clause-outputs
returns-clause-outputs c = λ catalogue block mask xs ys is agree inside. outputs_of-local catalogue block mask xs ys agree is inside
