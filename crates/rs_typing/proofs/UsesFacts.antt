-- What an expression is uses only arguments that the columns stand for.
use Rattle.std.proofs.Common.{ℕ, suc, ◌≡◌, Bool, true, false, ◌&&◌, List, [], ◌∷◌, ◌++◌, length, map, refl, sym, subst, ap, ◌∙◌, append_assoc, add-one, inl, inr}
use Rattle.std.specs.Prelude.{ℤ, Option, Some, None, Result, Ok, Err, IfOk, is_some, slice_get, if◌then◌else◌}
use Rattle.std.specs.List.{AllByRecursion}
use Rattle.std.proofs.lemmas.List.{length_push}
use Rattle.rs_value.specs.Answer.{Gives}
use Rattle.rs_value.specs.declared.kind.Kind.{Kind}
use Rattle.rs_value.specs.declared.kind.Kind.TheVariants as kind
use Rattle.rs_lex.specs.declared.token.Span.{Span}
use Rattle.rs_syntax.specs.declared.name.ColRef.{ColRef}
use Rattle.rs_syntax.specs.declared.name.Name.{Name}
use Rattle.rs_syntax.specs.declared.node.Op.TheVariants.{Add, Sub, Mul, Div}
use Rattle.rs_syntax.specs.Syntax.{Expression, Int, Text, Column, Neg, Arith, Abs, Least, Greatest, Case, Compare, And, Or, Not}
use Rattle.rs_table.specs.Column as table
use Rattle.rs_table.specs.Column.{is_named}
use Rattle.rs_value.specs.Results.{◌>>=◌}
use Rattle.rs_expr.specs.Formulas.{Formula, Argument, Constant, Negated, Sum, Difference, Product, Quotient, Magnitude, Numbers, Texts, Both, Either}
use Rattle.rs_expr.specs.Formulas.{formula_of}
use Rattle.rs_expr.specs.Formulas as formula
use Rattle.rs_expr.specs.declared.expr.Expr.{Expr}
use Rattle.rs_expr.specs.declared.expr.TextSide.TheVariants as side
use Rattle.rs_expr.specs.Uses.{condition_uses, has_parameter, is_kind, side_uses, uses}
use Rattle.rs_expr.specs.Widths.{width_of}
use Rattle.rs_typing.specs.declared.fault.BindFault.{BindFault}
use Rattle.rs_typing.specs.declared.fault.BindFault.TheVariants.{At, Memory}
use Rattle.rs_typing.specs.declared.fault.Why.TheVariants.{NoColumn, TooWide}
use Rattle.rs_typing.specs.Missing.{or_fault}
use Rattle.rs_typing.specs.Parameters.{parameter_in, parameter_of, placed, placed_from}
use Rattle.rs_typing.specs.Typing.{Scope, Typed, Number, Words, Truth, argument, divisor_of, narrow, as_number, one, quotient, quotient_by, rule, span_of, span_of_column, three, two, type_of}
use Rattle.rs_typing.specs.Models.{result_map}

both : (a b : Bool) → a ≡ true → b ≡ true → (a && b) ≡ true
both true b h k = k
both false b h k = cc

-- each argument in it is one that is there, of the kind that it is used as
abbrev pub typed_uses : (Kind → ℕ → Bool) → Typed → Bool
typed_uses has (Number f) = uses has f
typed_uses has (Words side) = side_uses has side
typed_uses has (Truth c) = condition_uses has c

-- what is answered is this
typed_uses-same : (has : Kind → ℕ → Bool) (u t : Typed) → ◌≡◌ {A = Result Typed BindFault} (Ok u) (Ok t) → typed_uses has u ≡ true → typed_uses has t ≡ true
typed_uses-same has u t e h = let same : u ≡ t = cc in subst (λ v. typed_uses has v ≡ true) same h

narrow-uses : (has : Kind → ℕ → Bool) (at : Span) (f : Formula) (t : Typed) → narrow at f ≡ Ok t → uses has f ≡ true → typed_uses has t ≡ true
narrow-uses has at f t = go (is_some (width_of f)) where
  go : (wide : Bool) → (if wide then Ok (Number f) else Err (At TooWide at)) ≡ Ok t → uses has f ≡ true → typed_uses has t ≡ true
  go true e h = typed_uses-same has (Number f) t e h
  go false e h = cc

quotient-uses : (has : Kind → ℕ → Bool) (at : Span) (f : Formula) (y : Expression) (t : Typed) → quotient at f y ≡ Ok t → uses has f ≡ true
    → typed_uses has t ≡ true
quotient-uses has at f y t = go (divisor_of y) where
  go : (divisor : Option ℤ) → quotient_by at f (span_of y) divisor ≡ Ok t → uses has f ≡ true → typed_uses has t ≡ true
  go (Some n) e h = narrow-uses has at (Quotient f n) t e h
  go None e h = cc

argument-uses : (has : Kind → ℕ → Bool) (found : ℕ × Kind) → has found.1 found.0 ≡ true → typed_uses has (argument found) ≡ true
argument-uses has (i, kind.Int) h = h
argument-uses has (i, kind.Text) h = h

column-uses : (has : Kind → ℕ → Bool) (answer : Result (ℕ × Kind) BindFault) (t : Typed)
    → ((found : ℕ × Kind) → answer ≡ Ok found → has found.1 found.0 ≡ true) → (answer >>= λ found. Ok (argument found)) ≡ Ok t → typed_uses has t ≡ true
column-uses has (Ok found) t backed e = typed_uses-same has (argument found) t e (argument-uses has found (backed found refl))
column-uses has (Err fault) t backed e = cc

-- what a rule gives uses such arguments, where the parts do
rule-uses : (has : Kind → ℕ → Bool) (scope : Scope) (x : Expression) (parts : List Typed) (t : Typed)
    → ((c : ColRef) (found : ℕ × Kind) → scope c ≡ Ok found → has found.1 found.0 ≡ true) → AllByRecursion (λ p. typed_uses has p ≡ true) parts
    → rule scope x parts ≡ Ok t → typed_uses has t ≡ true
rule-uses has scope (Int n at) [] t backed h e = typed_uses-same has (Number (Constant n)) t e refl
rule-uses has scope (Text text at) [] t backed h e = typed_uses-same has (Words (side.Text text)) t e refl
rule-uses has scope (Column c) [] t backed h e = column-uses has (scope c) t (backed c) e
rule-uses has scope (Neg x at) (Number f ∷ []) t backed h e = narrow-uses has at (Negated f) t e h.0
rule-uses has scope (Arith Div x y at) (Number f ∷ u ∷ []) t backed h e = quotient-uses has at f y t e h.0
rule-uses has scope (Arith Add x y at) (Number f ∷ Number g ∷ []) t backed h e = narrow-uses has at (Sum f g) t e (both (uses has f) (uses has g) h.0 h.1.0)
rule-uses has scope (Arith Sub x y at) (Number f ∷ Number g ∷ []) t backed h e =
    narrow-uses has at (Difference f g) t e (both (uses has f) (uses has g) h.0 h.1.0)
rule-uses has scope (Arith Mul x y at) (Number f ∷ Number g ∷ []) t backed h e =
    narrow-uses has at (Product f g) t e (both (uses has f) (uses has g) h.0 h.1.0)
rule-uses has scope (Abs x at) (Number f ∷ []) t backed h e = narrow-uses has at (Magnitude f) t e h.0
rule-uses has scope (Least x y at) (Number f ∷ Number g ∷ []) t backed h e =
    narrow-uses has at (formula.Least f g) t e (both (uses has f) (uses has g) h.0 h.1.0)
rule-uses has scope (Greatest x y at) (Number f ∷ Number g ∷ []) t backed h e =
    narrow-uses has at (formula.Greatest f g) t e (both (uses has f) (uses has g) h.0 h.1.0)
rule-uses has scope (Case x y z at) (Truth c ∷ Number f ∷ Number g ∷ []) t backed h e =
    narrow-uses has at (formula.Case c f g) t e
    (both (condition_uses has c) (uses has f && uses has g) h.0 (both (uses has f) (uses has g) h.1.0 h.1.1.0))
rule-uses has scope (Compare rel x y at) (Number f ∷ Number g ∷ []) t backed h e =
    typed_uses-same has (Truth (Numbers rel f g)) t e (both (uses has f) (uses has g) h.0 h.1.0)
rule-uses has scope (Compare rel x y at) (Words a ∷ Words b ∷ []) t backed h e =
    typed_uses-same has (Truth (Texts rel a b)) t e (both (side_uses has a) (side_uses has b) h.0 h.1.0)
rule-uses has scope (And x y at) (Truth c ∷ Truth d ∷ []) t backed h e =
    typed_uses-same has (Truth (Both c d)) t e (both (condition_uses has c) (condition_uses has d) h.0 h.1.0)
rule-uses has scope (Or x y at) (Truth c ∷ Truth d ∷ []) t backed h e =
    typed_uses-same has (Truth (Either c d)) t e (both (condition_uses has c) (condition_uses has d) h.0 h.1.0)
rule-uses has scope (Not x at) (Truth c ∷ []) t backed h e = typed_uses-same has (Truth (formula.Not c)) t e h.0
rule-uses has scope x parts t backed h e = cc

module _ (has : Kind → ℕ → Bool) (scope : Scope) (backed : (c : ColRef) (found : ℕ × Kind) → scope c ≡ Ok found → has found.1 found.0 ≡ true) where
  one-uses : (x : Expression) (first : Result Typed BindFault) (t : Typed) → ((u : Typed) → first ≡ Ok u → typed_uses has u ≡ true)
      → one scope x first ≡ Ok t → typed_uses has t ≡ true
  one-uses x (Ok u) t h e = rule-uses has scope x (u ∷ []) t backed (h u refl, tt) e
  one-uses x (Err fault) t h e = cc

  two-uses : (x : Expression) (first second : Result Typed BindFault) (t : Typed) → ((u : Typed) → first ≡ Ok u → typed_uses has u ≡ true)
      → ((u : Typed) → second ≡ Ok u → typed_uses has u ≡ true) → two scope x first second ≡ Ok t → typed_uses has t ≡ true
  two-uses x (Ok u) (Ok v) t h k e = rule-uses has scope x (u ∷ v ∷ []) t backed (h u refl, (k v refl, tt)) e
  two-uses x (Ok u) (Err fault) t h k e = cc
  two-uses x (Err fault) second t h k e = cc

  three-uses : (x : Expression) (first second third : Result Typed BindFault) (t : Typed) → ((u : Typed) → first ≡ Ok u → typed_uses has u ≡ true)
      → ((u : Typed) → second ≡ Ok u → typed_uses has u ≡ true) → ((u : Typed) → third ≡ Ok u → typed_uses has u ≡ true)
      → three scope x first second third ≡ Ok t → typed_uses has t ≡ true
  three-uses x (Ok u) (Ok v) (Ok w) t h k l e = rule-uses has scope x (u ∷ v ∷ w ∷ []) t backed (h u refl, (k v refl, (l w refl, tt))) e
  three-uses x (Ok u) (Ok v) (Err fault) t h k l e = cc
  three-uses x (Ok u) (Err fault) third t h k l e = cc
  three-uses x (Err fault) second third t h k l e = cc

  -- what an expression is uses only arguments that the scope gives
  pub type_of-uses : (x : Expression) (t : Typed) → type_of scope x ≡ Ok t → typed_uses has t ≡ true
  type_of-uses (Int n at) t e = rule-uses has scope (Int n at) [] t backed tt e
  type_of-uses (Text text at) t e = rule-uses has scope (Text text at) [] t backed tt e
  type_of-uses (Column c) t e = rule-uses has scope (Column c) [] t backed tt e
  type_of-uses (Neg x at) t e = one-uses (Neg x at) (type_of scope x) t (type_of-uses x) e
  type_of-uses (Arith op x y at) t e = two-uses (Arith op x y at) (type_of scope x) (type_of scope y) t (type_of-uses x) (type_of-uses y) e
  type_of-uses (Abs x at) t e = one-uses (Abs x at) (type_of scope x) t (type_of-uses x) e
  type_of-uses (Least x y at) t e = two-uses (Least x y at) (type_of scope x) (type_of scope y) t (type_of-uses x) (type_of-uses y) e
  type_of-uses (Greatest x y at) t e = two-uses (Greatest x y at) (type_of scope x) (type_of scope y) t (type_of-uses x) (type_of-uses y) e
  type_of-uses (Case x y z at) t e =
      three-uses (Case x y z at) (type_of scope x) (type_of scope y) (type_of scope z) t (type_of-uses x) (type_of-uses y) (type_of-uses z) e
  type_of-uses (Compare rel x y at) t e = two-uses (Compare rel x y at) (type_of scope x) (type_of scope y) t (type_of-uses x) (type_of-uses y) e
  type_of-uses (And x y at) t e = two-uses (And x y at) (type_of scope x) (type_of scope y) t (type_of-uses x) (type_of-uses y) e
  type_of-uses (Or x y at) t e = two-uses (Or x y at) (type_of scope x) (type_of scope y) t (type_of-uses x) (type_of-uses y) e
  type_of-uses (Not x at) t e = one-uses (Not x at) (type_of scope x) t (type_of-uses x) e

-- the kinds of columns
abbrev pub kinds_of : List table.Column → List Kind
kinds_of columns = map (λ column. column.1) columns

is_kind-same : (k : Kind) → is_kind k (Some k) ≡ true
is_kind-same kind.Int = refl
is_kind-same kind.Text = refl

slice_get-behind : (before : List Kind) (k : Kind) (behind : List Kind) → slice_get (before ++ k ∷ behind) (length before) ≡ Some k
slice_get-behind [] k behind = refl
slice_get-behind (b ∷ before) k behind = slice_get-behind before k behind

-- the first column, or one of the others
first-kind : (before : List Kind) (k : Kind) (others : List Kind) (later : Option (ℕ × Kind)) (found : ℕ × Kind) (named : Bool)
    → (later ≡ Some found → slice_get (before ++ k ∷ others) found.0 ≡ Some found.1) → (if named then Some (length before, k) else later) ≡ Some found
    → slice_get (before ++ k ∷ others) found.0 ≡ Some found.1
first-kind before k others later found true h e =
    let same : (length before, k) ≡ found = cc in
    subst (λ (p : ℕ × Kind). slice_get (before ++ k ∷ others) p.0 ≡ Some p.1) same (slice_get-behind before k others)
first-kind before k others later found false h e = h e

-- a column that is placed stands there, with this kind
placed_from-kind : (before : List Kind) (name : List ℕ) (columns : List table.Column) (found : ℕ × Kind)
    → placed_from (length before) name columns ≡ Some found → slice_get (before ++ kinds_of columns) found.0 ≡ Some found.1
placed_from-kind before name [] found e = cc
placed_from-kind before name (column ∷ rest) found e =
    let one_more : length (before ++ column.1 ∷ []) ≡ suc (length before) = length_push before column.1 ∙ add-one (length before) in
    let others = placed_from-kind (before ++ column.1 ∷ []) name rest found in
    first-kind before column.1 (kinds_of rest) (placed_from (suc (length before)) name rest) found (is_named name column)
    (λ later. rw (← append_assoc before (column.1 ∷ []) (kinds_of rest)) (others (rw one_more later))) e

placed-kind : (name : List ℕ) (columns : List table.Column) (found : ℕ × Kind) → placed name columns ≡ Some found
    → has_parameter (kinds_of columns) found.1 found.0 ≡ true
placed-kind name columns found e = rw (placed_from-kind [] name columns found e) (is_kind-same found.1)

placed-found : (columns : List table.Column) (name : List ℕ) (at : Span) (found : ℕ × Kind) → or_fault (At NoColumn at) (placed name columns) ≡ Ok found
    → has_parameter (kinds_of columns) found.1 found.0 ≡ true
placed-found columns name at found = go (placed name columns) refl where
  go : (there : Option (ℕ × Kind)) → placed name columns ≡ there → or_fault (At NoColumn at) there ≡ Ok found
      → has_parameter (kinds_of columns) found.1 found.0 ≡ true
  go (Some other) is e = let same : other ≡ found = cc in placed-kind name columns found (is ∙ ap (λ p. Some p) same)
  go None is e = cc

parameter_of-found : (columns : List table.Column) (at : Span) (alias : Option Name) (name : List ℕ) (found : ℕ × Kind)
    → parameter_of columns at alias name ≡ Ok found → has_parameter (kinds_of columns) found.1 found.0 ≡ true
parameter_of-found columns at (Some alias) name found e = cc
parameter_of-found columns at None name found e = placed-found columns name at found e

-- a formula over parameters uses each as what it is
pub formula-uses : (columns : List table.Column) (x : Expression) (f : Formula) → type_of (parameter_in columns) x ≡ Ok (Number f)
    → uses (has_parameter (kinds_of columns)) f ≡ true
formula-uses columns x f e = type_of-uses (has_parameter (kinds_of columns)) (parameter_in columns)
    (λ c found is. parameter_of-found columns (span_of_column c) c.alias c.column.text found is) x (Number f) e

-- the same of a formula that was made
pub IfOk-uses : (columns : List table.Column) (x : Expression) (at : Span) (t : Typed) (r : Result Expr BindFault)
    → Gives Memory (type_of (parameter_in columns) x) (Ok t) → result_map formula_of r ≡ as_number at t
    → IfOk r (λ made. uses (has_parameter (kinds_of columns)) (formula_of made) ≡ true)
IfOk-uses columns x at (Number f) (Ok made) (inl is) e =
    let same : formula_of made ≡ f = cc in
    formula-uses columns x (formula_of made) (sym is ∙ ap (λ g. Ok (Number g)) (sym same))
IfOk-uses columns x at t (Ok made) (inr is) e = cc
IfOk-uses columns x at (Words side) (Ok made) (inl is) e = cc
IfOk-uses columns x at (Truth c) (Ok made) (inl is) e = cc
IfOk-uses columns x at t (Err fault) g e = tt
