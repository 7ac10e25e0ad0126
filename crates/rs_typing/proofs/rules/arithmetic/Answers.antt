use Rattle.std.proofs.Common.{sym, subst, [], ◌∷◌}
use Rattle.rs_value.specs.Answer.{Gives}
use Rattle.rs_syntax.specs.Syntax.{Arith, expression_of}
use Rattle.rs_syntax.specs.declared.node.Op.{Op}
use Rattle.rs_typing.specs.declared.fault.BindFault.TheVariants.{Memory}
use Rattle.rs_typing.specs.Typing.{rule}
use Rattle.rs_typing.specs.Models.{result_map, typed_of}
use Rattle.rs_typing.proofs.rules.arithmetic.Goals as goal

-- what is asked of each operator holds of division
pub returns-in-Div : goal.returns-in-Div
returns-in-Div c = λ scope x.
    subst (λ (op : Op). Gives Memory (rule scope (Arith op x (expression_of c.args.divisor.now) c.args.at) (typed_of c.args.left ∷ typed_of c.args.right ∷ [])) (result_map typed_of c.quotient.result))
    (sym c.in-Div.is) (c.quotient.ensures scope x (typed_of c.args.right))
