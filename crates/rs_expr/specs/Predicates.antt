-- Ranking predicates.
use Rattle.std.specs.Prelude.{ℕ, ◌≡◌, ◌≤◌, true, List, length, is_some}
use Rattle.rs_value.specs.declared.kind.Kind.{Kind}
use Rattle.rs_expr.specs.Formulas.{Formula}
use Rattle.rs_expr.specs.Uses.{has_parameter, uses}
use Rattle.rs_expr.specs.Widths.{width_of}

-- a predicate: its name, the kinds of its parameters, its greatest score, the cost of a call, and the formula of its scores
pub record PredicateDef : Type 0 where
  pub name : List ℕ
  pub params : List Kind
  pub max : ℕ
  pub cost : ℕ
  pub formula : Formula

-- what holds of each predicate
pub record IsPredicate (predicate : PredicateDef) : Type 0 where
  pub some_score : 1 ≤ predicate.max
  pub least_params : 1 ≤ length predicate.params
  pub most_params : length predicate.params ≤ 8
  pub fits : uses (has_parameter predicate.params) predicate.formula ≡ true
  pub narrow : is_some (width_of predicate.formula) ≡ true
