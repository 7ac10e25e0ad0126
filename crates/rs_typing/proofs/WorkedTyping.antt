-- What expressions are, and what they are refused with, computed on literals.
use Rattle.std.proofs.Common.{ℕ, ◌≡◌, ◌+◌, List, [], ◌∷◌, refl}
use Rattle.std.specs.Prelude.{pos, negsuc, codes, Some, None, Result, Ok, Err}
use Rattle.rs_value.specs.declared.kind.Kind.TheVariants as kind
use Rattle.rs_value.specs.declared.rel.Rel.TheVariants.{Eq, Lt}
use Rattle.rs_lex.specs.declared.token.Span.{Span}
use Rattle.rs_syntax.specs.declared.name.Name.{Name}
use Rattle.rs_syntax.specs.declared.node.Op.TheVariants.{Add, Sub, Mul, Div}
use Rattle.rs_syntax.specs.Syntax.{Expression, Int, Text, Column, Neg, Arith, Abs, Least, Greatest, Case, Compare, And, Or, Not}
use Rattle.rs_table.specs.Column as table
use Rattle.rs_expr.specs.Formulas as formula
use Rattle.rs_expr.specs.declared.expr.TextSide.TheVariants as side
use Rattle.rs_typing.specs.declared.fault.BindFault.{BindFault}
use Rattle.rs_typing.specs.declared.fault.BindFault.TheVariants.{At}
use Rattle.rs_typing.specs.declared.fault.Why.TheVariants.{BadDivisor, NoColumn, TooWide, WrongKind}
use Rattle.rs_typing.specs.Parameters.{formula_in, parameter_in, placed}
use Rattle.rs_typing.specs.Typing.{Typed, Number, Words, Truth, type_of}

abbrev at : ℕ → Span
at place = record { start = place; end = place + 1 }

-- the parameters: two numbers, x and y, and a text, t
abbrev params : List table.Column
params = (codes "x", kind.Int) ∷ (codes "y", kind.Int) ∷ (codes "t", kind.Text) ∷ []

abbrev typed : Expression → Result Typed BindFault
typed x = type_of (parameter_in params) x

abbrev name : List ℕ → ℕ → Name
name text place = record { text = text; at = at place }

abbrev column : List ℕ → ℕ → Expression
column text place = Column (record { alias = None; column = name text place })

abbrev x : ℕ → Expression
x place = column (codes "x") place

abbrev y : ℕ → Expression
y place = column (codes "y") place

abbrev t : ℕ → Expression
t place = column (codes "t") place

abbrev int : ℕ → ℕ → Expression
int n place = Int (pos n) (at place)

abbrev word : ℕ → Expression
word place = Text (codes "a") (at place)

-- a truth value
abbrev test : ℕ → Expression
test place = Compare Eq (x place) (x place) (at place)

-- leaves
number : typed (int 7 0) ≡ Ok (Number (formula.Constant (pos 7)))
number = refl

text : typed (word 0) ≡ Ok (Words (side.Text (codes "a")))
text = refl

second_parameter : typed (y 0) ≡ Ok (Number (formula.Argument 1))
second_parameter = refl

third_parameter : typed (t 0) ≡ Ok (Words (side.Arg 2))
third_parameter = refl

unknown : typed (column (codes "nope") 3) ≡ Err (At NoColumn (at 3))
unknown = refl

known_in_another_case : typed (column (codes "X") 3) ≡ Err (At NoColumn (at 3))
known_in_another_case = refl

with_a_dot : typed (Column (record { alias = Some (name (codes "p") 3); column = name (codes "x") 5 })) ≡ Err (At NoColumn (record { start = 3; end = 6 }))
with_a_dot = refl

-- a formula and a condition of each kind
negation : typed (Neg (x 1) (at 0)) ≡ Ok (Number (formula.Negated (formula.Argument 0)))
negation = refl

sum : typed (Arith Add (x 1) (y 2) (at 0)) ≡ Ok (Number (formula.Sum (formula.Argument 0) (formula.Argument 1)))
sum = refl

difference : typed (Arith Sub (x 1) (int 2 2) (at 0)) ≡ Ok (Number (formula.Difference (formula.Argument 0) (formula.Constant (pos 2))))
difference = refl

product : typed (Arith Mul (x 1) (y 2) (at 0)) ≡ Ok (Number (formula.Product (formula.Argument 0) (formula.Argument 1)))
product = refl

quotient : typed (Arith Div (x 1) (int 2 2) (at 0)) ≡ Ok (Number (formula.Quotient (formula.Argument 0) (pos 2)))
quotient = refl

quotient_by_minus_2 : typed (Arith Div (x 1) (Neg (int 2 3) (at 2)) (at 0)) ≡ Ok (Number (formula.Quotient (formula.Argument 0) (negsuc 1)))
quotient_by_minus_2 = refl

magnitude : typed (Abs (x 1) (at 0)) ≡ Ok (Number (formula.Magnitude (formula.Argument 0)))
magnitude = refl

least : typed (Least (x 1) (y 2) (at 0)) ≡ Ok (Number (formula.Least (formula.Argument 0) (formula.Argument 1)))
least = refl

greatest : typed (Greatest (x 1) (y 2) (at 0)) ≡ Ok (Number (formula.Greatest (formula.Argument 0) (formula.Argument 1)))
greatest = refl

comparison_of_numbers : typed (Compare Lt (x 1) (y 2) (at 0)) ≡ Ok (Truth (formula.Numbers Lt (formula.Argument 0) (formula.Argument 1)))
comparison_of_numbers = refl

comparison_of_texts : typed (Compare Eq (t 1) (word 2) (at 0)) ≡ Ok (Truth (formula.Texts Eq (side.Arg 2) (side.Text (codes "a"))))
comparison_of_texts = refl

conjunction : typed (And (test 1) (test 2) (at 0)) ≡ Ok (Truth (formula.Both (formula.Numbers Eq (formula.Argument 0) (formula.Argument 0)) (formula.Numbers Eq (formula.Argument 0) (formula.Argument 0))))
conjunction = refl

disjunction : typed (Or (test 1) (test 2) (at 0)) ≡ Ok (Truth (formula.Either (formula.Numbers Eq (formula.Argument 0) (formula.Argument 0)) (formula.Numbers Eq (formula.Argument 0) (formula.Argument 0))))
disjunction = refl

denial : typed (Not (test 1) (at 0)) ≡ Ok (Truth (formula.Not (formula.Numbers Eq (formula.Argument 0) (formula.Argument 0))))
denial = refl

choice : typed (Case (test 1) (x 2) (y 3) (at 0)) ≡ Ok (Number (formula.Case (formula.Numbers Eq (formula.Argument 0) (formula.Argument 0)) (formula.Argument 0) (formula.Argument 1)))
choice = refl

-- WrongKind stands at the node whose part is of another kind
negation_of_a_text : typed (Neg (word 1) (at 0)) ≡ Err (At WrongKind (at 0))
negation_of_a_text = refl

sum_with_a_text_first : typed (Arith Add (word 1) (x 2) (at 0)) ≡ Err (At WrongKind (at 0))
sum_with_a_text_first = refl

sum_with_a_text_last : typed (Arith Add (x 1) (word 2) (at 0)) ≡ Err (At WrongKind (at 0))
sum_with_a_text_last = refl

difference_of_truth_values : typed (Arith Sub (test 1) (test 2) (at 0)) ≡ Err (At WrongKind (at 0))
difference_of_truth_values = refl

product_with_a_text_parameter : typed (Arith Mul (x 1) (t 2) (at 0)) ≡ Err (At WrongKind (at 0))
product_with_a_text_parameter = refl

quotient_of_a_text : typed (Arith Div (word 1) (int 2 2) (at 0)) ≡ Err (At WrongKind (at 0))
quotient_of_a_text = refl

magnitude_of_a_text : typed (Abs (t 1) (at 0)) ≡ Err (At WrongKind (at 0))
magnitude_of_a_text = refl

least_with_a_text : typed (Least (x 1) (t 2) (at 0)) ≡ Err (At WrongKind (at 0))
least_with_a_text = refl

greatest_with_a_truth_value : typed (Greatest (test 1) (x 2) (at 0)) ≡ Err (At WrongKind (at 0))
greatest_with_a_truth_value = refl

choice_by_a_number : typed (Case (x 1) (x 2) (x 3) (at 0)) ≡ Err (At WrongKind (at 0))
choice_by_a_number = refl

choice_of_a_text : typed (Case (test 1) (t 2) (x 3) (at 0)) ≡ Err (At WrongKind (at 0))
choice_of_a_text = refl

choice_or_else_a_text : typed (Case (test 1) (x 2) (t 3) (at 0)) ≡ Err (At WrongKind (at 0))
choice_or_else_a_text = refl

comparison_of_a_number_with_a_text : typed (Compare Eq (x 1) (word 2) (at 0)) ≡ Err (At WrongKind (at 0))
comparison_of_a_number_with_a_text = refl

comparison_of_a_text_with_a_number : typed (Compare Eq (t 1) (x 2) (at 0)) ≡ Err (At WrongKind (at 0))
comparison_of_a_text_with_a_number = refl

comparison_of_truth_values : typed (Compare Eq (test 1) (test 2) (at 0)) ≡ Err (At WrongKind (at 0))
comparison_of_truth_values = refl

conjunction_with_a_number : typed (And (x 1) (test 2) (at 0)) ≡ Err (At WrongKind (at 0))
conjunction_with_a_number = refl

disjunction_with_a_number : typed (Or (test 1) (x 2) (at 0)) ≡ Err (At WrongKind (at 0))
disjunction_with_a_number = refl

denial_of_a_number : typed (Not (x 1) (at 0)) ≡ Err (At WrongKind (at 0))
denial_of_a_number = refl

inner_node : typed (Neg (Abs (word 2) (at 1)) (at 0)) ≡ Err (At WrongKind (at 1))
inner_node = refl

-- the rest behind the first WHEN is a node of its own
second_when : typed (Case (test 1) (x 2) (Case (test 4) (t 5) (x 6) (at 3)) (at 0)) ≡ Err (At WrongKind (at 3))
second_when = refl

-- TooWide stands at the node that is too wide: 4 * 10^18 is the greatest argument, and 2^127 - 1 the greatest width
product_of_three : typed (Arith Mul (Arith Mul (x 2) (x 3) (at 1)) (x 4) (at 0)) ≡ Err (At TooWide (at 0))
product_of_three = refl

product_of_three_inside : typed (Neg (Arith Mul (Arith Mul (x 3) (x 4) (at 2)) (x 5) (at 1)) (at 0)) ≡ Err (At TooWide (at 1))
product_of_three_inside = refl

ten_squares : typed (Arith Mul (Arith Mul (x 2) (x 3) (at 1)) (int 10 4) (at 0)) ≡ Ok (Number (formula.Product (formula.Product (formula.Argument 0) (formula.Argument 0)) (formula.Constant (pos 10))))
ten_squares = refl

eleven_squares : typed (Arith Mul (Arith Mul (x 2) (x 3) (at 1)) (int 11 4) (at 0)) ≡ Err (At TooWide (at 0))
eleven_squares = refl

-- BadDivisor stands at the right part
by_a_sum : typed (Arith Div (x 1) (Arith Add (int 1 3) (int 1 4) (at 2)) (at 0)) ≡ Err (At BadDivisor (at 2))
by_a_sum = refl

by_a_parameter : typed (Arith Div (x 1) (y 2) (at 0)) ≡ Err (At BadDivisor (at 2))
by_a_parameter = refl

by_a_text : typed (Arith Div (x 1) (word 2) (at 0)) ≡ Err (At BadDivisor (at 2))
by_a_text = refl

by_0 : typed (Arith Div (x 1) (int 0 2) (at 0)) ≡ Err (At BadDivisor (at 2))
by_0 = refl

by_minus_0 : typed (Arith Div (x 1) (Neg (int 0 3) (at 2)) (at 0)) ≡ Err (At BadDivisor (at 2))
by_minus_0 = refl

by_two_signs : typed (Arith Div (x 1) (Neg (Neg (int 2 4) (at 3)) (at 2)) (at 0)) ≡ Err (At BadDivisor (at 2))
by_two_signs = refl

by_a_quotient_by_0 : typed (Arith Div (x 1) (Arith Div (y 3) (int 0 4) (at 2)) (at 0)) ≡ Err (At BadDivisor (at 4))
by_a_quotient_by_0 = refl

-- parts come first, from left to right, and a left part of another kind before the divisor
by_an_unknown_column : typed (Arith Div (x 1) (column (codes "nope") 2) (at 0)) ≡ Err (At NoColumn (at 2))
by_an_unknown_column = refl

text_by_0 : typed (Arith Div (word 1) (int 0 2) (at 0)) ≡ Err (At WrongKind (at 0))
text_by_0 = refl

text_by_an_unknown_column : typed (Arith Div (word 1) (column (codes "nope") 2) (at 0)) ≡ Err (At NoColumn (at 2))
text_by_an_unknown_column = refl

left_before_right : typed (Arith Add (column (codes "left") 1) (column (codes "right") 2) (at 0)) ≡ Err (At NoColumn (at 1))
left_before_right = refl

condition_before_outcome : typed (Case (column (codes "c") 1) (column (codes "o") 2) (column (codes "r") 3) (at 0)) ≡ Err (At NoColumn (at 1))
condition_before_outcome = refl

outcome_before_rest : typed (Case (x 1) (column (codes "o") 2) (column (codes "r") 3) (at 0)) ≡ Err (At NoColumn (at 2))
outcome_before_rest = refl

part_before_its_node : typed (Arith Add (word 1) (column (codes "nope") 2) (at 0)) ≡ Err (At NoColumn (at 2))
part_before_its_node = refl

-- the place of a name counts from 0
second_place : placed (codes "b") ((codes "a", kind.Int) ∷ (codes "b", kind.Text) ∷ []) ≡ Some (1, kind.Text)
second_place = refl

no_place : placed (codes "c") ((codes "a", kind.Int) ∷ (codes "b", kind.Text) ∷ []) ≡ None
no_place = refl

-- a formula has to be a number
formula_of_a_number : formula_in params (Abs (x 1) (at 0)) ≡ Ok (formula.Magnitude (formula.Argument 0))
formula_of_a_number = refl

formula_of_a_text : formula_in params (t 0) ≡ Err (At WrongKind (at 0))
formula_of_a_text = refl

formula_of_a_truth_value : formula_in params (Not (test 1) (at 0)) ≡ Err (At WrongKind (at 0))
formula_of_a_truth_value = refl
