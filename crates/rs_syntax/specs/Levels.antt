-- The rules of the operators that group to the left, as levels: the weakest operators first.
use Rattle.std.specs.Prelude.{List, [], ◌∷◌}
use Rattle.rs_lex.specs.declared.token.Span.{Span}
use Rattle.rs_grammar.specs.Grammar.{Rule, expr, conj, neg, sum, prod, sign, Tree}
use Rattle.rs_grammar.specs.declared.kind.TokenKind.{TokenKind}
use Rattle.rs_grammar.specs.declared.kind.TokenKind.TheVariants as kinds
use Rattle.rs_syntax.specs.Expressions.{adding_of, multiplying_of, expr_of, conj_of, neg_of, sum_of, prod_of, sign_of}
use Rattle.rs_syntax.specs.Syntax as syntax
use Rattle.rs_syntax.specs.Syntax.{Expression}
use Rattle.rs_syntax.specs.declared.parser.operators.Level.{Level}
use Rattle.rs_syntax.specs.declared.parser.operators.Level.TheVariants.{Or, And, Sum, Product}
use Rattle.rs_syntax.specs.declared.parser.operators.Operator.{Operator}
use Rattle.rs_syntax.specs.declared.parser.operators.Operator.TheVariants as operator

abbrev pub operators : Level → List TokenKind
operators Or = kinds.Or ∷ []
operators And = kinds.And ∷ []
operators Sum = kinds.Plus ∷ kinds.Minus ∷ []
operators Product = kinds.Star ∷ kinds.Slash ∷ []

-- the rule of a level, and that of what stands at each side of its operators
abbrev pub rule_at : Level → Rule
rule_at Or = expr
rule_at And = conj
rule_at Sum = sum
rule_at Product = prod

abbrev pub operand_rule : Level → Rule
operand_rule Or = conj
operand_rule And = neg
operand_rule Sum = prod
operand_rule Product = sign

-- what their trees stand for
abbrev pub chain_of : Level → Tree → Expression
chain_of Or t = expr_of t
chain_of And t = conj_of t
chain_of Sum t = sum_of t
chain_of Product t = prod_of t

abbrev pub operand_of : Level → Tree → Expression
operand_of Or t = conj_of t
operand_of And t = neg_of t
operand_of Sum t = prod_of t
operand_of Product t = sign_of t

abbrev pub operator_of : Level → Tree → Operator
operator_of Or t = operator.Or
operator_of And t = operator.And
operator_of Sum t = operator.Arith (adding_of t)
operator_of Product t = operator.Arith (multiplying_of t)

-- two operands with an operator between them
abbrev pub joined : Operator → Expression → Expression → Span → Expression
joined operator.Or left right at = syntax.Or left right at
joined operator.And left right at = syntax.And left right at
joined (operator.Arith op) left right at = syntax.Arith op left right at
