-- Each result is the value of the whole formula, which its width bounds: so it fits, and stays within the width.
use Rattle.std.specs.Prelude.{◌*ℤ◌}
use Rattle.std.proofs.Common.{rules, refl, ◌∙◌, w64, FitsSigned}
use Rattle.rs_expr.specs.Formulas.{formula_of, Product}
use Rattle.rs_expr.proofs.WidthFacts.{product-stays, quotient-stays, stays-most, quotient-part, quotient-divisor}
use Rattle.rs_expr.proofs.EvalFacts.{negated-fits, negated-is, absolute-fits, product-fits, product-is, divisor-positive, quotient-fits, quotient-is}
use Rattle.rs_expr.proofs.expr.+eval.Goals as goal

pub Expr::eval_lent-overflow_sub-result : goal.Expr::eval_lent-overflow_sub-result
Expr::eval_lent-overflow_sub-result g t c =
    let narrow = rw c.in-Neg.is at c.requires.narrow in
    let within = rw c.deref.ensures at c.eval_lent.ensures.within in
    negated-fits c.eval_lent.result (stays-most (formula_of c.in-Neg.part.value) c.eval_lent.result narrow within)

pub Expr::eval_lent-overflow_mul-result : goal.Expr::eval_lent-overflow_mul-result
Expr::eval_lent-overflow_mul-result g t c =
    let narrow = rw c.in-Mul.is at c.requires.narrow in
    let left = rw c.deref-in-Mul.ensures at c.eval_lent-in-Mul.ensures.within in
    let right = rw c.deref-in-Mul-2.ensures at c.eval_lent-in-Mul-2.ensures.within in
    let f = formula_of c.in-Mul.left.value in
    let h = formula_of c.in-Mul.right.value in
    let most = stays-most (Product f h) (c.eval_lent-in-Mul.result *ℤ c.eval_lent-in-Mul-2.result) narrow
    (product-stays f h c.eval_lent-in-Mul.result c.eval_lent-in-Mul-2.result left right) in
    product-fits c.eval_lent-in-Mul.result c.eval_lent-in-Mul-2.result (search rules) (search rules) most

pub Expr::eval_lent-nonzero_div-result : goal.Expr::eval_lent-nonzero_div-result
Expr::eval_lent-nonzero_div-result g t c =
    let narrow = rw c.in-Div.is at c.requires.narrow in
    let within = rw c.deref-in-Div.ensures at c.eval_lent-in-Div.ensures.within in
    let part = formula_of c.in-Div.part.value in
    let most = stays-most part c.eval_lent-in-Div.result (quotient-part part c.in-Div.divisor narrow) within in
    let fits : FitsSigned w64 c.in-Div.divisor = search rules in
    (divisor-positive c.in-Div.divisor fits (quotient-divisor part c.in-Div.divisor narrow), quotient-fits c.eval_lent-in-Div.result c.in-Div.divisor most fits)

pub Expr::eval_lent-abs-requires : goal.Expr::eval_lent-abs-requires
Expr::eval_lent-abs-requires g t c =
    let narrow = rw c.in-Abs.is at c.requires.narrow in
    let within = rw c.deref-in-Abs.ensures at c.eval_lent-in-Abs.ensures.within in
    absolute-fits c.eval_lent-in-Abs.result (stays-most (formula_of c.in-Abs.part.value) c.eval_lent-in-Abs.result narrow within)

pub Expr::eval_lent-returns-in-Neg-clause-value : goal.Expr::eval_lent-returns-in-Neg-clause-value
Expr::eval_lent-returns-in-Neg-clause-value g t c =
    let narrow = rw c.in-Neg.is at c.requires.narrow in
    let value = rw c.deref.ensures at c.eval_lent.ensures.value in
    let within = rw c.deref.ensures at c.eval_lent.ensures.within in
    negated-is c.eval_lent.result (stays-most (formula_of c.in-Neg.part.value) c.eval_lent.result narrow within) ∙ rw (c.in-Neg.is, ← value) refl

pub Expr::eval_lent-returns-in-Mul-clause-value : goal.Expr::eval_lent-returns-in-Mul-clause-value
Expr::eval_lent-returns-in-Mul-clause-value g t c =
    let narrow = rw c.in-Mul.is at c.requires.narrow in
    let left = rw c.deref-in-Mul.ensures at c.eval_lent-in-Mul.ensures in
    let right = rw c.deref-in-Mul-2.ensures at c.eval_lent-in-Mul-2.ensures in
    let f = formula_of c.in-Mul.left.value in
    let h = formula_of c.in-Mul.right.value in
    let most = stays-most (Product f h) (c.eval_lent-in-Mul.result *ℤ c.eval_lent-in-Mul-2.result) narrow
    (product-stays f h c.eval_lent-in-Mul.result c.eval_lent-in-Mul-2.result left.within right.within) in
    product-is c.eval_lent-in-Mul.result c.eval_lent-in-Mul-2.result (search rules) (search rules) most ∙ rw (c.in-Mul.is, ← left.value, ← right.value) refl

pub Expr::eval_lent-returns-in-Mul-clause-within : goal.Expr::eval_lent-returns-in-Mul-clause-within
Expr::eval_lent-returns-in-Mul-clause-within g t c = λ width e.
    let narrow = rw c.in-Mul.is at c.requires.narrow in
    let left = rw c.deref-in-Mul.ensures at c.eval_lent-in-Mul.ensures.within in
    let right = rw c.deref-in-Mul-2.ensures at c.eval_lent-in-Mul-2.ensures.within in
    let f = formula_of c.in-Mul.left.value in
    let h = formula_of c.in-Mul.right.value in
    let stays = product-stays f h c.eval_lent-in-Mul.result c.eval_lent-in-Mul-2.result left right in
    let most = stays-most (Product f h) (c.eval_lent-in-Mul.result *ℤ c.eval_lent-in-Mul-2.result) narrow stays in
    rw (product-is c.eval_lent-in-Mul.result c.eval_lent-in-Mul-2.result (search rules) (search rules) most) (stays width (rw c.in-Mul.is at e))

pub Expr::eval_lent-returns-in-Div-clause-value : goal.Expr::eval_lent-returns-in-Div-clause-value
Expr::eval_lent-returns-in-Div-clause-value g t c =
    let narrow = rw c.in-Div.is at c.requires.narrow in
    let value = rw c.deref-in-Div.ensures at c.eval_lent-in-Div.ensures.value in
    let within = rw c.deref-in-Div.ensures at c.eval_lent-in-Div.ensures.within in
    let part = formula_of c.in-Div.part.value in
    let most = stays-most part c.eval_lent-in-Div.result (quotient-part part c.in-Div.divisor narrow) within in
    let fits : FitsSigned w64 c.in-Div.divisor = search rules in
    quotient-is c.eval_lent-in-Div.result c.in-Div.divisor most fits ∙ rw (c.in-Div.is, ← value) refl

pub Expr::eval_lent-returns-in-Div-clause-within : goal.Expr::eval_lent-returns-in-Div-clause-within
Expr::eval_lent-returns-in-Div-clause-within g t c = λ width e.
    let narrow = rw c.in-Div.is at c.requires.narrow in
    let within = rw c.deref-in-Div.ensures at c.eval_lent-in-Div.ensures.within in
    let part = formula_of c.in-Div.part.value in
    let most = stays-most part c.eval_lent-in-Div.result (quotient-part part c.in-Div.divisor narrow) within in
    let fits : FitsSigned w64 c.in-Div.divisor = search rules in
    rw (quotient-is c.eval_lent-in-Div.result c.in-Div.divisor most fits) (quotient-stays part c.in-Div.divisor c.eval_lent-in-Div.result within width (rw c.in-Div.is at e))
