-- The value of a formula, over whole numbers without bounds, and the truth of a condition.
use Rattle.std.specs.Prelude.{ℕ, ℤ, pos, neg_ℤ, nat_abs, ◌+ℤ◌, ◌-ℤ◌, ◌*ℤ◌, int_div, Bool, not, ◌&&◌, ◌||◌, List, [], Option, Some, None, slice_get, if◌then◌else◌}
use Rattle.std.specs.Int.{int_min, int_max}
use Rattle.std.specs.Ordering.{nat_cmp, int_cmp}
use Rattle.std.specs.Cmp.Lexicographic.{slice_cmp}
use Rattle.rs_value.specs.Rel.{rel_holds}
use Rattle.rs_value.specs.declared.value.Value.{Value}
use Rattle.rs_value.specs.declared.value.Value.TheVariants as value
use Rattle.rs_expr.specs.Formulas.{Formula, Argument, Constant, Negated, Sum, Difference, Product, Quotient, Magnitude, Least, Greatest, Case, Condition, Numbers, Texts, Both, Either, Not}
use Rattle.rs_expr.specs.declared.expr.TextSide.{TextSide}
use Rattle.rs_expr.specs.declared.expr.TextSide.TheVariants as side

-- the number of an argument, and the text of one; 0 and the empty text where there is none
abbrev pub argument_number : Option Value → ℤ
argument_number (Some (value.Int n)) = n
argument_number (Some (value.Text t)) = pos 0
argument_number None = pos 0

abbrev pub argument_text : Option Value → List ℕ
argument_text (Some (value.Int n)) = []
argument_text (Some (value.Text t)) = t
argument_text None = []

-- the text of a side of a comparison
abbrev pub side_of : TextSide → List Value → List ℕ
side_of (side.Arg i) args = argument_text (slice_get args i)
side_of (side.Text t) args = t

abbrev mutual
  -- the value of a formula over whole numbers without bounds; division truncates towards zero, and CASE gives the
  -- result of the first condition that holds, or that of ELSE
  pub value_of : Formula → List Value → ℤ
  value_of (Argument i) args = argument_number (slice_get args i)
  value_of (Constant n) args = n
  value_of (Negated f) args = neg_ℤ (value_of f args)
  value_of (Sum f g) args = value_of f args +ℤ value_of g args
  value_of (Difference f g) args = value_of f args -ℤ value_of g args
  value_of (Product f g) args = value_of f args *ℤ value_of g args
  value_of (Quotient f divisor) args = int_div (value_of f args) divisor
  value_of (Magnitude f) args = pos (nat_abs (value_of f args))
  value_of (Least f g) args = int_min (value_of f args) (value_of g args)
  value_of (Greatest f g) args = int_max (value_of f args) (value_of g args)
  value_of (Case c f g) args = if holds c args then value_of f args else value_of g args

  -- the truth of a condition; numbers compare by size, texts by bytes
  pub holds : Condition → List Value → Bool
  holds (Numbers rel f g) args = rel_holds rel (int_cmp (value_of f args) (value_of g args))
  holds (Texts rel a b) args = rel_holds rel (slice_cmp nat_cmp (side_of a args) (side_of b args))
  holds (Both c d) args = holds c args && holds d args
  holds (Either c d) args = holds c args || holds d args
  holds (Not c) args = not (holds c args)
