-- What an expression is, where its parts are known, and what holds of it.
use Rattle.std.proofs.Common.{◌≡◌, Bool, true, false, ◌&&◌, List, [], ◌∷◌, refl, ap, ◌∙◌, sym, subst, inl, inr}
use Rattle.std.specs.Prelude.{ℤ, Option, Some, None, Result, Ok, Err, IfOk, is_some, if◌then◌else◌}
use Rattle.std.specs.List.{AllByRecursion}
use Rattle.rs_value.specs.Answer.{Gives}
use Rattle.rs_value.specs.Results.{◌>>=◌}
use Rattle.rs_lex.specs.declared.token.Span.{Span}
use Rattle.rs_syntax.specs.declared.node.Op.TheVariants.{Add, Sub, Mul, Div}
use Rattle.rs_syntax.specs.Syntax.{Expression, Neg, Arith, Abs, Least, Greatest, Case, Compare, And, Or, Not}
use Rattle.rs_expr.specs.Formulas.{Formula, Negated, Sum, Difference, Product, Quotient, Magnitude, Numbers, Texts, Both, Either}
use Rattle.rs_expr.specs.Formulas as formula
use Rattle.rs_expr.specs.Widths.{is_narrow, width_of}
use Rattle.rs_typing.specs.declared.fault.BindFault.{BindFault}
use Rattle.rs_typing.specs.declared.fault.BindFault.TheVariants.{At, Memory}
use Rattle.rs_typing.specs.declared.fault.Why.TheVariants.{TooWide}
use Rattle.rs_typing.specs.declared.typed.Typed.{Typed as TypedParts}
use Rattle.rs_typing.specs.Typing.{Scope, Typed, Number, Words, Truth, divisor_of, has_width, narrow, pair_of, parts_of, quotient, quotient_by, rule, span_of, type_of}
use Rattle.rs_typing.specs.Models.{result_map, typed_of}
use Rattle.rs_typing.proofs.RuleFacts.{type_of-parts, types_of}

-- what parts are, where they are known
parts-one : (scope : Scope) (x : Expression) (t : Typed) → Gives Memory (type_of scope x) (Ok t) → types_of scope (x ∷ []) ≡ Ok (t ∷ [])
parts-one scope x t (inl e) = ap (λ r. r >>= λ u. Ok (u ∷ [])) (sym e)
parts-one scope x t (inr e) = cc

parts-two : (scope : Scope) (x y : Expression) (t u : Typed) → Gives Memory (pair_of (type_of scope x) (type_of scope y)) (Ok (t, u))
    → types_of scope (x ∷ y ∷ []) ≡ Ok (t ∷ u ∷ [])
parts-two scope x y t u h = go (type_of scope x) (type_of scope y) h where
  go : (first second : Result Typed BindFault) → Gives Memory (pair_of first second) (Ok (t, u))
      → (first >>= λ a. (second >>= λ b. Ok (b ∷ [])) >>= λ bs. Ok (a ∷ bs)) ≡ Ok (t ∷ u ∷ [])
  go (Ok a) (Ok b) (inl e) = let same : (a, b) ≡ (t, u) = cc in ap (λ (p : Typed × Typed). Ok (p.0 ∷ p.1 ∷ [])) same
  go (Ok a) (Ok b) (inr e) = cc
  go (Ok a) (Err fault) (inl e) = cc
  go (Ok a) (Err fault) (inr e) = cc
  go (Err fault) second (inl e) = cc
  go (Err fault) second (inr e) = cc

-- an expression whose parts are known is what its rule says of them
Gives-by_parts : (scope : Scope) (x : Expression) (xs : List Expression) (ts : List Typed) (r : Result Typed BindFault) → parts_of x ≡ xs
    → types_of scope xs ≡ Ok ts → Gives Memory (rule scope x ts) r → Gives Memory (type_of scope x) r
Gives-by_parts scope x xs ts r are known given =
    let typed : types_of scope (parts_of x) ≡ Ok ts = ap (types_of scope) are ∙ known in
    let is : type_of scope x ≡ rule scope x ts = type_of-parts scope x ∙ ap (λ made. made >>= rule scope x) typed in
    subst (λ made. Gives Memory made r) (sym is) given

pub Gives-one : (scope : Scope) (x part : Expression) (t : Typed) (r : Result Typed BindFault) → parts_of x ≡ part ∷ []
    → Gives Memory (type_of scope part) (Ok t) → Gives Memory (rule scope x (t ∷ [])) r → Gives Memory (type_of scope x) r
Gives-one scope x part t r are h given = Gives-by_parts scope x (part ∷ []) (t ∷ []) r are (parts-one scope part t h) given

pub Gives-two : (scope : Scope) (x first second : Expression) (t u : Typed) (r : Result Typed BindFault) → parts_of x ≡ first ∷ second ∷ []
    → Gives Memory (pair_of (type_of scope first) (type_of scope second)) (Ok (t, u)) → Gives Memory (rule scope x (t ∷ u ∷ [])) r
    → Gives Memory (type_of scope x) r
Gives-two scope x first second t u r are h given =
    Gives-by_parts scope x (first ∷ second ∷ []) (t ∷ u ∷ []) r are (parts-two scope first second t u h) given

pub Gives-three : (scope : Scope) (x first second third : Expression) (t u v : Typed) (r : Result Typed BindFault) → parts_of x ≡ first ∷ second ∷ third ∷ []
    → Gives Memory (type_of scope first) (Ok t) → Gives Memory (pair_of (type_of scope second) (type_of scope third)) (Ok (u, v))
    → Gives Memory (rule scope x (t ∷ u ∷ v ∷ [])) r → Gives Memory (type_of scope x) r
Gives-three scope x first second third t u v r are (inl e) h given =
    let known : types_of scope (first ∷ second ∷ third ∷ []) ≡ Ok (t ∷ u ∷ v ∷ []) =
    ap (λ made. made >>= λ a. types_of scope (second ∷ third ∷ []) >>= λ more. Ok (a ∷ more)) (sym e)
    ∙ ap (λ made. made >>= λ more. Ok (t ∷ more)) (parts-two scope second third u v h) in
    Gives-by_parts scope x (first ∷ second ∷ third ∷ []) (t ∷ u ∷ v ∷ []) r are known given
Gives-three scope x first second third t u v r are (inr e) h given = cc

-- both tests hold
both : (a b : Bool) → a ≡ true → b ≡ true → (a && b) ≡ true
both true b h k = k
both false b h k = cc

-- a formula that isn't too wide has a width
narrow-has_width : (at : Span) (f : Formula) (t : Typed) → narrow at f ≡ Ok t → has_width t ≡ true
narrow-has_width at f t = go (is_some (width_of f)) refl where
  go : (wide : Bool) → is_some (width_of f) ≡ wide → (if wide then Ok (Number f) else Err (At TooWide at)) ≡ Ok t → has_width t ≡ true
  go true is e = let same : Number f ≡ t = cc in subst (λ u. has_width u ≡ true) same is
  go false is e = cc

quotient-has_width : (at : Span) (f : Formula) (y : Expression) (t : Typed) → quotient at f y ≡ Ok t → has_width t ≡ true
quotient-has_width at f y t = go (divisor_of y) where
  go : (divisor : Option ℤ) → quotient_by at f (span_of y) divisor ≡ Ok t → has_width t ≡ true
  go (Some n) e = narrow-has_width at (Quotient f n) t e
  go None e = cc

-- what is answered is this
has_width-same : (u t : Typed) → ◌≡◌ {A = Result Typed BindFault} (Ok u) (Ok t) → has_width u ≡ true → has_width t ≡ true
has_width-same u t e h = let same : u ≡ t = cc in subst (λ v. has_width v ≡ true) same h

-- what a rule gives has widths, where the parts have
pub rule-has_width : (scope : Scope) (x : Expression) (part : Typed) (parts : List Typed) (t : Typed) → AllByRecursion (λ p. has_width p ≡ true) (part ∷ parts)
    → rule scope x (part ∷ parts) ≡ Ok t → has_width t ≡ true
rule-has_width scope (Neg x at) (Number f) [] t h e = narrow-has_width at (Negated f) t e
rule-has_width scope (Arith Div x y at) (Number f) (u ∷ []) t h e = quotient-has_width at f y t e
rule-has_width scope (Arith Add x y at) (Number f) (Number g ∷ []) t h e = narrow-has_width at (Sum f g) t e
rule-has_width scope (Arith Sub x y at) (Number f) (Number g ∷ []) t h e = narrow-has_width at (Difference f g) t e
rule-has_width scope (Arith Mul x y at) (Number f) (Number g ∷ []) t h e = narrow-has_width at (Product f g) t e
rule-has_width scope (Abs x at) (Number f) [] t h e = narrow-has_width at (Magnitude f) t e
rule-has_width scope (Least x y at) (Number f) (Number g ∷ []) t h e = narrow-has_width at (formula.Least f g) t e
rule-has_width scope (Greatest x y at) (Number f) (Number g ∷ []) t h e = narrow-has_width at (formula.Greatest f g) t e
rule-has_width scope (Case x y z at) (Truth c) (Number f ∷ Number g ∷ []) t h e = narrow-has_width at (formula.Case c f g) t e
rule-has_width scope (Compare rel x y at) (Number f) (Number g ∷ []) t h e =
    has_width-same (Truth (Numbers rel f g)) t e (both (is_some (width_of f)) (is_some (width_of g)) h.0 h.1.0)
rule-has_width scope (Compare rel x y at) (Words a) (Words b ∷ []) t h e = has_width-same (Truth (Texts rel a b)) t e refl
rule-has_width scope (And x y at) (Truth c) (Truth d ∷ []) t h e = has_width-same (Truth (Both c d)) t e (both (is_narrow c) (is_narrow d) h.0 h.1.0)
rule-has_width scope (Or x y at) (Truth c) (Truth d ∷ []) t h e = has_width-same (Truth (Either c d)) t e (both (is_narrow c) (is_narrow d) h.0 h.1.0)
rule-has_width scope (Not x at) (Truth c) [] t h e = has_width-same (Truth (formula.Not c)) t e h.0
rule-has_width scope x part parts t h e = cc

-- the same of what was made
pub IfOk-has_width : (scope : Scope) (x : Expression) (part : Typed) (parts : List Typed) (r : Result TypedParts BindFault)
    → AllByRecursion (λ p. has_width p ≡ true) (part ∷ parts) → Gives Memory (rule scope x (part ∷ parts)) (result_map typed_of r)
    → IfOk r (λ typed. has_width (typed_of typed) ≡ true)
IfOk-has_width scope x part parts (Ok made) h (inl e) = rule-has_width scope x part parts (typed_of made) h (sym e)
IfOk-has_width scope x part parts (Ok made) h (inr e) = cc
IfOk-has_width scope x part parts (Err fault) h g = tt
