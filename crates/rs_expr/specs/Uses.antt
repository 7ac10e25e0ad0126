-- The arguments that formulas and conditions use.
use Rattle.std.specs.Prelude.{ℕ, Bool, true, false, ◌&&◌, List, Option, Some, None, slice_get}
use Rattle.rs_value.specs.Value.{fits}
use Rattle.rs_value.specs.declared.kind.Kind.{Kind}
use Rattle.rs_value.specs.declared.kind.Kind.TheVariants as kind
use Rattle.rs_value.specs.declared.value.Value.{Value}
use Rattle.rs_expr.specs.Formulas.{Formula, Argument, Constant, Negated, Sum, Difference, Product, Quotient, Magnitude, Least, Greatest, Case, Condition, Numbers, Texts, Both, Either, Not}
use Rattle.rs_expr.specs.declared.expr.TextSide.{TextSide}
use Rattle.rs_expr.specs.declared.expr.TextSide.TheVariants as side

-- a side of a comparison of texts uses no argument that isn't such a text
abbrev pub side_uses : (Kind → ℕ → Bool) → TextSide → Bool
side_uses has (side.Arg i) = has kind.Text i
side_uses has (side.Text t) = true

abbrev mutual
  -- every argument that a formula uses as a number, or as a text, is such a one
  pub uses : (Kind → ℕ → Bool) → Formula → Bool
  uses has (Argument i) = has kind.Int i
  uses has (Constant n) = true
  uses has (Negated f) = uses has f
  uses has (Sum f g) = uses has f && uses has g
  uses has (Difference f g) = uses has f && uses has g
  uses has (Product f g) = uses has f && uses has g
  uses has (Quotient f divisor) = uses has f
  uses has (Magnitude f) = uses has f
  uses has (Least f g) = uses has f && uses has g
  uses has (Greatest f g) = uses has f && uses has g
  uses has (Case c f g) = condition_uses has c && (uses has f && uses has g)

  pub condition_uses : (Kind → ℕ → Bool) → Condition → Bool
  condition_uses has (Numbers rel f g) = uses has f && uses has g
  condition_uses has (Texts rel a b) = side_uses has a && side_uses has b
  condition_uses has (Both c d) = condition_uses has c && condition_uses has d
  condition_uses has (Either c d) = condition_uses has c && condition_uses has d
  condition_uses has (Not c) = condition_uses has c

-- whether there is a value, and it is of this kind, a number in range
abbrev pub is_of : Kind → Option Value → Bool
is_of kind (Some value) = fits kind value
is_of kind None = false

-- the argument of this number is there, and of this kind
abbrev pub has_argument : List Value → Kind → ℕ → Bool
has_argument args kind i = is_of kind (slice_get args i)

-- whether there is a kind, and it is this one
abbrev pub is_kind : Kind → Option Kind → Bool
is_kind kind.Int (Some kind.Int) = true
is_kind kind.Text (Some kind.Text) = true
is_kind kind.Int (Some kind.Text) = false
is_kind kind.Text (Some kind.Int) = false
is_kind kind.Int None = false
is_kind kind.Text None = false

-- the parameter of this number is there, and of this kind
abbrev pub has_parameter : List Kind → Kind → ℕ → Bool
has_parameter params kind i = is_kind kind (slice_get params i)
