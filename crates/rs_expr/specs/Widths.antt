-- Widths: the greatest magnitude that a formula can have, for arguments in range.
use Rattle.std.specs.Prelude.{ℕ, nat_abs, nat_le, max, ◌+◌, ◌-◌, ◌*◌, ◌/◌, ◌^◌, ◌==◌, ◌&&◌, Bool, true, Option, Some, None, option_map, is_some, if◌then◌else◌}
use Rattle.rs_value.specs.Number.{greatest_int}
use Rattle.rs_expr.specs.Formulas.{Formula, Argument, Constant, Negated, Sum, Difference, Product, Quotient, Magnitude, Least, Greatest, Case, Condition, Numbers, Texts, Both, Either, Not}

-- the greatest magnitude of any formula
abbrev pub most_width : ℕ
most_width = 2 ^ 127 - 1

-- a width that isn't too great
abbrev pub within : ℕ → Option ℕ
within width = if nat_le width most_width then Some width else None

-- the width that two parts give, where both have one
abbrev pub of_two : (ℕ → ℕ → ℕ) → Option ℕ → Option ℕ → Option ℕ
of_two combine (Some a) (Some b) = within (combine a b)
of_two combine (Some a) None = None
of_two combine None b = None

abbrev mutual
  -- the width of a formula; none where it passes the greatest magnitude, in a part or as a whole, or where a divisor is 0
  pub width_of : Formula → Option ℕ
  width_of (Argument i) = Some greatest_int
  width_of (Constant n) = within (nat_abs n)
  width_of (Negated f) = width_of f
  width_of (Sum f g) = of_two (λ a b. a + b) (width_of f) (width_of g)
  width_of (Difference f g) = of_two (λ a b. a + b) (width_of f) (width_of g)
  width_of (Product f g) = of_two (λ a b. a * b) (width_of f) (width_of g)
  width_of (Quotient f divisor) = if nat_abs divisor == 0 then None else option_map (λ a. a / nat_abs divisor) (width_of f)
  width_of (Magnitude f) = width_of f
  width_of (Least f g) = of_two max (width_of f) (width_of g)
  width_of (Greatest f g) = of_two max (width_of f) (width_of g)
  width_of (Case c f g) = if is_narrow c then of_two max (width_of f) (width_of g) else None

  -- whether every formula in a condition has a width
  pub is_narrow : Condition → Bool
  is_narrow (Numbers rel f g) = is_some (width_of f) && is_some (width_of g)
  is_narrow (Texts rel a b) = true
  is_narrow (Both c d) = is_narrow c && is_narrow d
  is_narrow (Either c d) = is_narrow c && is_narrow d
  is_narrow (Not c) = is_narrow c
