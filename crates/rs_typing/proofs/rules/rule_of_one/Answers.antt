use Rattle.rs_syntax.specs.Syntax.{expression_of}
use Rattle.rs_typing.proofs.rules.rule_of_one.Goals as goal

pub returns-in-Neg : goal.returns-in-Neg
returns-in-Neg c = λ scope. rw c.in-Neg.is (c.negate.ensures scope (expression_of c.in-Neg.field-0.value))

pub returns-in-Abs : goal.returns-in-Abs
returns-in-Abs c = λ scope. rw c.in-Abs.is (c.magnitude.ensures scope (expression_of c.in-Abs.field-0.value))

pub returns-in-Not : goal.returns-in-Not
returns-in-Not c = λ scope. rw c.in-Not.is (c.negation.ensures scope (expression_of c.in-Not.field-0.value))
