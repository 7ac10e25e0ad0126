use Rattle.std.proofs.Common.{inl}
use Rattle.rs_syntax.specs.Syntax.{expression_of}
use Rattle.rs_typing.proofs.rules.rule_of_two.Goals as goal

pub returns-in-Arith : goal.returns-in-Arith
returns-in-Arith c = λ scope. rw (c.in-Arith.is, ← c.deref.ensures) (c.arithmetic.ensures scope (expression_of c.in-Arith.field-1.value))

pub returns-in-Least : goal.returns-in-Least
returns-in-Least c = λ scope. rw c.in-Least.is (c.least.ensures scope (expression_of c.in-Least.field-0.value) (expression_of c.in-Least.field-1.value))

pub returns-in-Greatest : goal.returns-in-Greatest
returns-in-Greatest c = λ scope.
    rw c.in-Greatest.is (c.greatest.ensures scope (expression_of c.in-Greatest.field-0.value) (expression_of c.in-Greatest.field-1.value))

pub returns-in-Compare : goal.returns-in-Compare
returns-in-Compare c = λ scope.
    rw c.in-Compare.is (inl (c.compare.ensures scope (expression_of c.in-Compare.field-1.value) (expression_of c.in-Compare.field-2.value)))

pub returns-in-And : goal.returns-in-And
returns-in-And c = λ scope. rw c.in-And.is (c.both.ensures scope (expression_of c.in-And.field-0.value) (expression_of c.in-And.field-1.value))

pub returns-in-Or : goal.returns-in-Or
returns-in-Or c = λ scope. rw c.in-Or.is (c.either.ensures scope (expression_of c.in-Or.field-0.value) (expression_of c.in-Or.field-1.value))
