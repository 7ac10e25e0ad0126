-- The typing rules of expressions: what the node of an expression is, or with what it is refused, where its parts are typed.
use Rattle.std.specs.Prelude.{ℕ, ℤ, pos, negsuc, neg_ℤ, ◌==◌, Bool, true, List, [], ◌∷◌, Option, Some, None, is_some, Result, Ok, Err, if◌then◌else◌}
use Rattle.std.specs.Ordering.{int_eq}
use Rattle.rs_value.specs.declared.kind.Kind.{Kind}
use Rattle.rs_value.specs.declared.kind.Kind.TheVariants as kind
use Rattle.rs_lex.specs.declared.token.Span.{Span}
use Rattle.rs_syntax.specs.declared.name.ColRef.{ColRef}
use Rattle.rs_syntax.specs.declared.name.Name.{Name}
use Rattle.rs_syntax.specs.declared.node.Op.{Op}
use Rattle.rs_syntax.specs.declared.node.Op.TheVariants.{Add, Sub, Mul, Div}
use Rattle.rs_syntax.specs.Syntax.{Expression, Int, Text, Column, Neg, Arith, Abs, Least, Greatest, Case, Compare, And, Or, Not}
use Rattle.rs_value.specs.Results.{◌>>=◌}
use Rattle.rs_expr.specs.Formulas.{Formula, Condition, Argument, Constant, Negated, Sum, Difference, Product, Quotient, Magnitude, Numbers, Texts, Both, Either}
use Rattle.rs_expr.specs.Formulas as formula
use Rattle.rs_expr.specs.Widths.{is_narrow, width_of}
use Rattle.rs_expr.specs.declared.expr.TextSide.{TextSide}
use Rattle.rs_expr.specs.declared.expr.TextSide.TheVariants as side
use Rattle.rs_typing.specs.declared.fault.BindFault.{BindFault}
use Rattle.rs_typing.specs.declared.fault.BindFault.TheVariants.{At}
use Rattle.rs_typing.specs.declared.fault.Why.TheVariants.{WrongKind, TooWide, BadDivisor}

-- what an expression is: a number, a text, or a truth value
pub data Typed : Type 0 where
  Number : Formula → Typed
  Words : TextSide → Typed
  Truth : Condition → Typed

-- each number in it has a width
abbrev pub has_width : Typed → Bool
has_width (Number f) = is_some (width_of f)
has_width (Words side) = true
has_width (Truth c) = is_narrow c

-- which column a reference stands for: the number of an argument and its kind; or why it stands for none
abbrev pub Scope : Type 0
Scope = ColRef → Result (ℕ × Kind) BindFault

-- the span of a whole reference
abbrev pub span_of_column : ColRef → Span
span_of_column c = from c.alias where
  from : Option Name → Span
  from None = c.column.at
  from (Some alias) = record { start = alias.at.start; end = c.column.at.end }

-- the span of an expression
abbrev pub span_of : Expression → Span
span_of (Int n at) = at
span_of (Text text at) = at
span_of (Column c) = span_of_column c
span_of (Neg x at) = at
span_of (Arith op x y at) = at
span_of (Abs x at) = at
span_of (Least x y at) = at
span_of (Greatest x y at) = at
span_of (Case x y z at) = at
span_of (Compare rel x y at) = at
span_of (And x y at) = at
span_of (Or x y at) = at
span_of (Not x at) = at

-- the parts of an expression, from left to right
abbrev pub parts_of : Expression → List Expression
parts_of (Int n at) = []
parts_of (Text text at) = []
parts_of (Column c) = []
parts_of (Neg x at) = x ∷ []
parts_of (Arith op x y at) = x ∷ y ∷ []
parts_of (Abs x at) = x ∷ []
parts_of (Least x y at) = x ∷ y ∷ []
parts_of (Greatest x y at) = x ∷ y ∷ []
parts_of (Case x y z at) = x ∷ y ∷ z ∷ []
parts_of (Compare rel x y at) = x ∷ y ∷ []
parts_of (And x y at) = x ∷ y ∷ []
parts_of (Or x y at) = x ∷ y ∷ []
parts_of (Not x at) = x ∷ []

-- a part that has to be a number, one that has to be a text, and one that has to be a truth value
abbrev pub as_number : Span → Typed → Result Formula BindFault
as_number at (Number f) = Ok f
as_number at (Words side) = Err (At WrongKind at)
as_number at (Truth c) = Err (At WrongKind at)

abbrev pub as_text : Span → Typed → Result TextSide BindFault
as_text at (Number f) = Err (At WrongKind at)
as_text at (Words side) = Ok side
as_text at (Truth c) = Err (At WrongKind at)

abbrev pub as_truth : Span → Typed → Result Condition BindFault
as_truth at (Number f) = Err (At WrongKind at)
as_truth at (Words side) = Err (At WrongKind at)
as_truth at (Truth c) = Ok c

-- two things, the first one first
abbrev pub pair_of : {A B : Type 0} → Result A BindFault → Result B BindFault → Result (A × B) BindFault
pair_of first second = first >>= λ a. second >>= λ b. Ok (a, b)

-- two parts that have to be such
abbrev pub as_numbers : Span → Typed → Typed → Result (Formula × Formula) BindFault
as_numbers at t u = pair_of (as_number at t) (as_number at u)

abbrev pub as_truths : Span → Typed → Typed → Result (Condition × Condition) BindFault
as_truths at t u = pair_of (as_truth at t) (as_truth at u)

-- a formula as a number, where it isn't too wide
abbrev pub narrow : Span → Formula → Result Typed BindFault
narrow at f = if is_some (width_of f) then Ok (Number f) else Err (At TooWide at)

abbrev pub arithmetic : Op → Formula → Formula → Formula
arithmetic Add f g = Sum f g
arithmetic Sub f g = Difference f g
arithmetic Mul f g = Product f g
arithmetic Div f g = f

-- the negation of a number that is written with no sign, and isn't 0
abbrev pub negated_divisor : ℤ → Option ℤ
negated_divisor (pos n) = if n == 0 then None else Some (neg_ℤ (pos n))
negated_divisor (negsuc n) = None

-- the divisor that an expression is: a number that isn't 0, or the negation of one
abbrev pub divisor_of : Expression → Option ℤ
divisor_of (Int n at) = if int_eq n (pos 0) then None else Some n
divisor_of (Neg (Int n at) outer) = negated_divisor n
divisor_of _ = None

-- a quotient by such a divisor, which stands at a place
abbrev pub quotient_by : Span → Formula → Span → Option ℤ → Result Typed BindFault
quotient_by at f place (Some divisor) = narrow at (Quotient f divisor)
quotient_by at f place None = Err (At BadDivisor place)

abbrev pub quotient : Span → Formula → Expression → Result Typed BindFault
quotient at f y = quotient_by at f (span_of y) (divisor_of y)

-- an argument of this number and kind
abbrev pub argument : ℕ × Kind → Typed
argument c = of c.1 where
  of : Kind → Typed
  of kind.Int = Number (Argument c.0)
  of kind.Text = Words (side.Arg c.0)

-- the rule of a node, over what its parts are
module _ (scope : Scope) where
  abbrev pub rule : Expression → List Typed → Result Typed BindFault
  rule (Int n at) [] = Ok (Number (Constant n))
  rule (Text text at) [] = Ok (Words (side.Text text))
  rule (Column c) [] = scope c >>= λ found. Ok (argument found)
  rule (Neg x at) (Number f ∷ []) = narrow at (Negated f)
  rule (Arith Div x y at) (Number f ∷ t ∷ []) = quotient at f y
  rule (Arith op x y at) (Number f ∷ Number g ∷ []) = narrow at (arithmetic op f g)
  rule (Abs x at) (Number f ∷ []) = narrow at (Magnitude f)
  rule (Least x y at) (Number f ∷ Number g ∷ []) = narrow at (formula.Least f g)
  rule (Greatest x y at) (Number f ∷ Number g ∷ []) = narrow at (formula.Greatest f g)
  rule (Case x y z at) (Truth c ∷ Number f ∷ Number g ∷ []) = narrow at (formula.Case c f g)
  rule (Compare rel x y at) (Number f ∷ Number g ∷ []) = Ok (Truth (Numbers rel f g))
  rule (Compare rel x y at) (Words a ∷ Words b ∷ []) = Ok (Truth (Texts rel a b))
  rule (And x y at) (Truth c ∷ Truth d ∷ []) = Ok (Truth (Both c d))
  rule (Or x y at) (Truth c ∷ Truth d ∷ []) = Ok (Truth (Either c d))
  rule (Not x at) (Truth c ∷ []) = Ok (Truth (formula.Not c))
  rule x _ = Err (At WrongKind (span_of x))

  -- parts first, from left to right, then the node's own rule
  abbrev pub one : Expression → Result Typed BindFault → Result Typed BindFault
  one x first = first >>= λ t. rule x (t ∷ [])

  abbrev pub two : Expression → Result Typed BindFault → Result Typed BindFault → Result Typed BindFault
  two x first second = first >>= λ t. second >>= λ u. rule x (t ∷ u ∷ [])

  abbrev pub three : Expression → Result Typed BindFault → Result Typed BindFault → Result Typed BindFault → Result Typed BindFault
  three x first second third = first >>= λ t. second >>= λ u. third >>= λ v. rule x (t ∷ u ∷ v ∷ [])

  -- what an expression is, or the first rule that fails
  abbrev pub type_of : Expression → Result Typed BindFault
  type_of (Int n at) = rule (Int n at) []
  type_of (Text text at) = rule (Text text at) []
  type_of (Column c) = rule (Column c) []
  type_of (Neg x at) = one (Neg x at) (type_of x)
  type_of (Arith op x y at) = two (Arith op x y at) (type_of x) (type_of y)
  type_of (Abs x at) = one (Abs x at) (type_of x)
  type_of (Least x y at) = two (Least x y at) (type_of x) (type_of y)
  type_of (Greatest x y at) = two (Greatest x y at) (type_of x) (type_of y)
  type_of (Case x y z at) = three (Case x y z at) (type_of x) (type_of y) (type_of z)
  type_of (Compare rel x y at) = two (Compare rel x y at) (type_of x) (type_of y)
  type_of (And x y at) = two (And x y at) (type_of x) (type_of y)
  type_of (Or x y at) = two (Or x y at) (type_of x) (type_of y)
  type_of (Not x at) = one (Not x at) (type_of x)
