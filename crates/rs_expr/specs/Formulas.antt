-- Formulas and conditions, without where their parts lie in memory.
use Rattle.std.specs.Prelude.{ℕ, ℤ}
use Rattle.rs_value.specs.declared.rel.Rel.{Rel}
use Rattle.rs_expr.specs.declared.expr.Expr.{Expr}
use Rattle.rs_expr.specs.declared.expr.Expr.TheVariants as expr
use Rattle.rs_expr.specs.declared.expr.Cond.{Cond}
use Rattle.rs_expr.specs.declared.expr.Cond.TheVariants as cond
use Rattle.rs_expr.specs.declared.expr.TextSide.{TextSide}

mutual
  -- a formula over arguments, which count from 0
  pub data Formula : Type 0 where
    Argument : ℕ → Formula
    Constant : ℤ → Formula
    Negated : Formula → Formula
    Sum : Formula → Formula → Formula
    Difference : Formula → Formula → Formula
    Product : Formula → Formula → Formula
    Quotient : Formula → ℤ → Formula
    Magnitude : Formula → Formula
    Least : Formula → Formula → Formula
    Greatest : Formula → Formula → Formula
    Case : Condition → Formula → Formula → Formula

  -- a condition over the same arguments
  pub data Condition : Type 0 where
    Numbers : Rel → Formula → Formula → Condition
    Texts : Rel → TextSide → TextSide → Condition
    Both : Condition → Condition → Condition
    Either : Condition → Condition → Condition
    Not : Condition → Condition

abbrev mutual
  pub formula_of : Expr → Formula
  formula_of (expr.Arg i) = Argument i
  formula_of (expr.Int n) = Constant n
  formula_of (expr.Neg' p part) = Negated (formula_of part)
  formula_of (expr.Add' p left q right) = Sum (formula_of left) (formula_of right)
  formula_of (expr.Sub' p left q right) = Difference (formula_of left) (formula_of right)
  formula_of (expr.Mul' p left q right) = Product (formula_of left) (formula_of right)
  formula_of (expr.Div' p part divisor) = Quotient (formula_of part) divisor
  formula_of (expr.Abs' p part) = Magnitude (formula_of part)
  formula_of (expr.Least' p left q right) = Least (formula_of left) (formula_of right)
  formula_of (expr.Greatest' p left q right) = Greatest (formula_of left) (formula_of right)
  formula_of (expr.Case' p condition q outcome r rest) = Case (condition_of condition) (formula_of outcome) (formula_of rest)

  pub condition_of : Cond → Condition
  condition_of (cond.Numbers rel left right) = Numbers rel (formula_of left) (formula_of right)
  condition_of (cond.Texts rel left right) = Texts rel left right
  condition_of (cond.And' p left q right) = Both (condition_of left) (condition_of right)
  condition_of (cond.Or' p left q right) = Either (condition_of left) (condition_of right)
  condition_of (cond.Not' p part) = Not (condition_of part)
