-- The definitions of formulas, computed on examples.
use Rattle.std.specs.Prelude.{pos, neg_ℤ, codes}
use Rattle.std.proofs.Common.{ℕ, ◌≡◌, ◌-◌, ◌*◌, ◌^◌, true, false, List, [], ◌∷◌, Some, None, refl}
use Rattle.rs_value.specs.declared.rel.Rel.TheVariants.{Eq, Ne, Lt}
use Rattle.rs_value.specs.declared.value.Value.{Value}
use Rattle.rs_value.specs.declared.value.Value.TheVariants as value
use Rattle.rs_expr.specs.declared.expr.TextSide.TheVariants as side
use Rattle.rs_expr.specs.Formulas.{Formula, Argument, Constant, Negated, Sum, Difference, Product, Quotient, Magnitude, Least, Greatest, Case, Condition, Numbers, Texts, Both, Either, Not}
use Rattle.rs_expr.specs.Meaning.{value_of, holds}
use Rattle.rs_expr.specs.Uses.{has_argument, uses}
use Rattle.rs_expr.specs.Widths.{most_width, width_of, is_narrow}

number : ℕ → Formula
number n = Constant (pos n)

minus : ℕ → Formula
minus n = Constant (neg_ℤ (pos n))

-- the arguments 7, -3 and `ten`
args : List Value
args = value.Int (pos 7) ∷ value.Int (neg_ℤ (pos 3)) ∷ value.Text (codes "ten") ∷ []

first : value_of (Argument 0) args ≡ pos 7
unfolding args
first = refl

second : value_of (Argument 1) args ≡ neg_ℤ (pos 3)
unfolding args
second = refl

-- division truncates towards zero
seven_by_two : value_of (Quotient (number 7) (pos 2)) [] ≡ pos 3
unfolding number
seven_by_two = refl

minus_seven_by_two : value_of (Quotient (minus 7) (pos 2)) [] ≡ neg_ℤ (pos 3)
unfolding minus
minus_seven_by_two = refl

seven_by_minus_two : value_of (Quotient (number 7) (neg_ℤ (pos 2))) [] ≡ neg_ℤ (pos 3)
unfolding number
seven_by_minus_two = refl

minus_seven_by_minus_two : value_of (Quotient (minus 7) (neg_ℤ (pos 2))) [] ≡ pos 3
unfolding minus
minus_seven_by_minus_two = refl

-- the operations
negated : value_of (Negated (Argument 0)) args ≡ neg_ℤ (pos 7)
unfolding args
negated = refl

sum : value_of (Sum (Argument 0) (Argument 1)) args ≡ pos 4
unfolding args
sum = refl

difference : value_of (Difference (Argument 0) (Argument 1)) args ≡ pos 10
unfolding args
difference = refl

product : value_of (Product (Argument 0) (Argument 1)) args ≡ neg_ℤ (pos 21)
unfolding args
product = refl

magnitude : value_of (Magnitude (Argument 1)) args ≡ pos 3
unfolding args
magnitude = refl

least : value_of (Least (Argument 0) (Argument 1)) args ≡ neg_ℤ (pos 3)
unfolding args
least = refl

greatest : value_of (Greatest (Argument 0) (Argument 1)) args ≡ pos 7
unfolding args
greatest = refl

-- CASE WHEN a < 3 THEN 1 WHEN a < 8 THEN 2 WHEN a < 9 THEN 3 ELSE 4 END
steps : Formula
steps = Case (Numbers Lt (Argument 0) (number 3)) (number 1)
    (Case (Numbers Lt (Argument 0) (number 8)) (number 2) (Case (Numbers Lt (Argument 0) (number 9)) (number 3) (number 4)))

at : ℕ → List Value
at n = value.Int (pos n) ∷ []

-- the first condition that holds decides
first_of_three : value_of steps (at 2) ≡ pos 1
unfolding steps number at
first_of_three = refl

second_of_three : value_of steps (at 3) ≡ pos 2
unfolding steps number at
second_of_three = refl

last_of_three : value_of steps (at 8) ≡ pos 3
unfolding steps number at
last_of_three = refl

none_of_three : value_of steps (at 9) ≡ pos 4
unfolding steps number at
none_of_three = refl

-- texts compare by bytes, and not by length
ten_before_nine : holds (Texts Lt (side.Text (codes "10")) (side.Text (codes "9"))) [] ≡ true
ten_before_nine = refl

front_before_whole : holds (Texts Lt (side.Text (codes "te")) (side.Arg 2)) args ≡ true
unfolding args
front_before_whole = refl

same_text : holds (Texts Eq (side.Arg 2) (side.Text (codes "ten"))) args ≡ true
unfolding args
same_text = refl

-- numbers compare by size
minus_three_before_two : holds (Numbers Lt (Argument 1) (number 2)) args ≡ true
unfolding args number
minus_three_before_two = refl

-- one that holds and one that doesn't
yes : Condition
yes = Numbers Eq (number 1) (number 1)

no : Condition
no = Numbers Ne (number 1) (number 1)

both : holds (Both yes no) [] ≡ false
unfolding yes no number
both = refl

either : holds (Either no yes) [] ≡ true
unfolding yes no number
either = refl

not_no : holds (Not no) [] ≡ true
unfolding yes no number
not_no = refl

-- what formulas use
uses_a_number : uses (has_argument args) (Argument 0) ≡ true
unfolding args
uses_a_number = refl

uses_no_text : uses (has_argument args) (Argument 2) ≡ false
unfolding args
uses_no_text = refl

uses_none_behind : uses (has_argument args) (Argument 3) ≡ false
unfolding args
uses_none_behind = refl

-- the product of two arguments, and ten times that
square : Formula
square = Product (Argument 0) (Argument 0)

ten_squares : Formula
ten_squares = Product square (number 10)

greatest_magnitude : most_width ≡ 170141183460469231731687303715884105727
greatest_magnitude = refl

width_of_square : width_of square ≡ Some (16 * 10 ^ 36)
unfolding square
width_of_square = refl

width_of_ten_squares : width_of ten_squares ≡ Some (16 * 10 ^ 37)
unfolding square ten_squares number
width_of_ten_squares = refl

-- two such are too wide, also as a difference
no_width_of_two : width_of (Sum ten_squares ten_squares) ≡ None
unfolding square ten_squares number
no_width_of_two = refl

no_width_of_difference : width_of (Difference ten_squares ten_squares) ≡ None
unfolding square ten_squares number
no_width_of_difference = refl

-- and so is what has a part that is too wide
no_width_of_whole : width_of (Quotient (Negated (Sum ten_squares ten_squares)) (pos 1000)) ≡ None
unfolding square ten_squares number
no_width_of_whole = refl

-- the widest sum: the greatest width, and one above it
rest : ℕ → Formula
rest n = Sum ten_squares (Sum (Product (Argument 0) (number 2535295865117307932)) (number n))

widest : width_of (rest (most_width - 16 * 10 ^ 37 - 4000000000000000000 * 2535295865117307932)) ≡ Some most_width
unfolding square ten_squares number rest
widest = refl

too_wide : width_of (rest (2 ^ 127 - 16 * 10 ^ 37 - 4000000000000000000 * 2535295865117307932)) ≡ None
unfolding square ten_squares number rest
too_wide = refl

width_of_minus : width_of (Negated (minus 9)) ≡ Some 9
unfolding minus
width_of_minus = refl

width_of_magnitude : width_of (Magnitude (minus 9)) ≡ Some 9
unfolding minus
width_of_magnitude = refl

-- MIN and MAX are as wide as the wider part
width_of_least : width_of (Least (minus 9) (number 5)) ≡ Some 9
unfolding minus number
width_of_least = refl

width_of_greatest : width_of (Greatest (number 5) (minus 9)) ≡ Some 9
unfolding minus number
width_of_greatest = refl

-- a divisor lessens a width, and one that is 0 leaves none
width_of_quotient : width_of (Quotient square (neg_ℤ (pos 16))) ≡ Some (10 ^ 36)
unfolding square
width_of_quotient = refl

no_width_by_zero : width_of (Quotient (number 7) (pos 0)) ≡ None
unfolding number
no_width_by_zero = refl

-- CASE is as wide as its wider result, and has no width where its condition is too wide
width_of_case : width_of steps ≡ Some 4
unfolding steps number
width_of_case = refl

no_width_of_case : width_of (Case (Numbers Lt (Sum ten_squares ten_squares) (number 0)) (number 1) (number 2)) ≡ None
unfolding square ten_squares number
no_width_of_case = refl

texts_are_narrow : is_narrow (Texts Ne (side.Arg 0) (side.Text (codes "x"))) ≡ true
texts_are_narrow = refl
