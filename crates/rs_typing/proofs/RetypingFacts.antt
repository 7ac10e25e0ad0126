-- An expression is typed in the same way over other numbers for its columns, and has the same value over other lists of their values.
use Rattle.std.proofs.Common.{ℕ, ◌≡◌, ◌==◌, Bool, true, false, ◌&&◌, ◌||◌, not, List, [], ◌∷◌, ◌++◌, map, refl, sym, subst, ap, ◌∙◌}
use Rattle.std.specs.Prelude.{ℤ, pos, neg_ℤ, nat_abs, max, ◌+◌, ◌*◌, ◌/◌, ◌+ℤ◌, ◌-ℤ◌, ◌*ℤ◌, int_div, Option, Some, None, option_map, Result, Ok, Err, is_some, slice_get, if◌then◌else◌}
use Rattle.std.specs.List.{AllByRecursion}
use Rattle.std.specs.Int.{int_min, int_max}
use Rattle.std.specs.Ordering.{nat_cmp, int_cmp}
use Rattle.std.specs.Cmp.Lexicographic.{slice_cmp}
use Rattle.rs_value.specs.Rel.{rel_holds}
use Rattle.rs_value.specs.declared.kind.Kind.{Kind}
use Rattle.rs_value.specs.declared.kind.Kind.TheVariants as kind
use Rattle.rs_value.specs.declared.value.Value.{Value}
use Rattle.rs_lex.specs.declared.token.Span.{Span}
use Rattle.rs_syntax.specs.declared.name.ColRef.{ColRef}
use Rattle.rs_syntax.specs.declared.node.Op.TheVariants.{Add, Sub, Mul, Div}
use Rattle.rs_syntax.specs.Syntax.{Expression, Int, Text, Column, Neg, Arith, Abs, Least, Greatest, Case, Compare, And, Or, Not}
use Rattle.rs_value.specs.Results.{◌>>=◌}
use Rattle.rs_expr.specs.Formulas.{Formula, Condition, Argument, Constant, Negated, Sum, Difference, Product, Quotient, Magnitude, Numbers, Texts, Both, Either}
use Rattle.rs_expr.specs.Formulas as formula
use Rattle.rs_expr.specs.Meaning.{holds, argument_number, side_of, argument_text, value_of}
use Rattle.rs_expr.specs.Widths.{is_narrow, of_two, width_of}
use Rattle.rs_expr.specs.declared.expr.TextSide.{TextSide}
use Rattle.rs_expr.specs.declared.expr.TextSide.TheVariants as side
use Rattle.rs_typing.specs.declared.fault.BindFault.{BindFault}
use Rattle.rs_typing.specs.declared.fault.BindFault.TheVariants.{At}
use Rattle.rs_typing.specs.declared.fault.Why.TheVariants.{TooWide}
use Rattle.rs_typing.specs.References.{references_of}
use Rattle.rs_typing.specs.Typing.{Scope, Typed, Number, Words, Truth, argument, divisor_of, narrow, one, quotient, quotient_by, rule, span_of, three, two, type_of}
use Rattle.rs_typing.proofs.EachFacts.{each-behind, each-front}
use Rattle.rs_typing.proofs.ResultFacts.{well, same_Ok}

-- formulas and conditions with other numbers for their arguments
abbrev pub side_with : (ℕ → ℕ) → TextSide → TextSide
side_with place (side.Arg i) = side.Arg (place i)
side_with place (side.Text t) = side.Text t

abbrev mutual
  pub formula_with : (ℕ → ℕ) → Formula → Formula
  formula_with place (Argument i) = Argument (place i)
  formula_with place (Constant n) = Constant n
  formula_with place (Negated f) = Negated (formula_with place f)
  formula_with place (Sum f g) = Sum (formula_with place f) (formula_with place g)
  formula_with place (Difference f g) = Difference (formula_with place f) (formula_with place g)
  formula_with place (Product f g) = Product (formula_with place f) (formula_with place g)
  formula_with place (Quotient f divisor) = Quotient (formula_with place f) divisor
  formula_with place (Magnitude f) = Magnitude (formula_with place f)
  formula_with place (formula.Least f g) = formula.Least (formula_with place f) (formula_with place g)
  formula_with place (formula.Greatest f g) = formula.Greatest (formula_with place f) (formula_with place g)
  formula_with place (formula.Case c f g) = formula.Case (condition_with place c) (formula_with place f) (formula_with place g)

  pub condition_with : (ℕ → ℕ) → Condition → Condition
  condition_with place (Numbers rel f g) = Numbers rel (formula_with place f) (formula_with place g)
  condition_with place (Texts rel a b) = Texts rel (side_with place a) (side_with place b)
  condition_with place (Both c d) = Both (condition_with place c) (condition_with place d)
  condition_with place (Either c d) = Either (condition_with place c) (condition_with place d)
  condition_with place (formula.Not c) = formula.Not (condition_with place c)

-- what an expression is, with other numbers for its arguments
abbrev pub typed_with : (ℕ → ℕ) → Typed → Typed
typed_with place (Number f) = Number (formula_with place f)
typed_with place (Words s) = Words (side_with place s)
typed_with place (Truth c) = Truth (condition_with place c)

-- other numbers leave the widths
mutual
  width-with : (place : ℕ → ℕ) (f : Formula) → width_of (formula_with place f) ≡ width_of f
  width-with place (Argument i) = refl
  width-with place (Constant n) = refl
  width-with place (Negated f) = width-with place f
  width-with place (Sum f g) = λ at. of_two (λ a b. a + b) (width-with place f at) (width-with place g at)
  width-with place (Difference f g) = λ at. of_two (λ a b. a + b) (width-with place f at) (width-with place g at)
  width-with place (Product f g) = λ at. of_two (λ a b. a * b) (width-with place f at) (width-with place g at)
  width-with place (Quotient f divisor) =
      λ at. if nat_abs divisor == 0 then None else option_map (λ a. a / nat_abs divisor) (width-with place f at)
  width-with place (Magnitude f) = width-with place f
  width-with place (formula.Least f g) = λ at. of_two max (width-with place f at) (width-with place g at)
  width-with place (formula.Greatest f g) = λ at. of_two max (width-with place f at) (width-with place g at)
  width-with place (formula.Case c f g) =
      λ at. if narrow_condition-with place c at then of_two max (width-with place f at) (width-with place g at) else None

  narrow_condition-with : (place : ℕ → ℕ) (c : Condition) → is_narrow (condition_with place c) ≡ is_narrow c
  narrow_condition-with place (Numbers rel f g) = λ at. is_some (width-with place f at) && is_some (width-with place g at)
  narrow_condition-with place (Texts rel a b) = refl
  narrow_condition-with place (Both c d) = λ at. narrow_condition-with place c at && narrow_condition-with place d at
  narrow_condition-with place (Either c d) = λ at. narrow_condition-with place c at && narrow_condition-with place d at
  narrow_condition-with place (formula.Not c) = narrow_condition-with place c

module _ (place : ℕ → ℕ) (args others : List Value) where
  -- what an expression is has the same value with other numbers, over other arguments
  abbrev pub SameValue : Typed → Type 0
  SameValue (Number f) = value_of (formula_with place f) others ≡ value_of f args
  SameValue (Words s) = side_of (side_with place s) others ≡ side_of s args
  SameValue (Truth c) = holds (condition_with place c) others ≡ holds c args

  -- it is what an expression is over other numbers, and has the same value
  abbrev Kept : Result Typed BindFault → Typed → Type 0
  Kept own t = (own ≡ Ok (typed_with place t)) × SameValue t

  -- what is answered is this
  same-with : (u t : Typed) → SameValue u → well u ≡ Ok t → Kept (well (typed_with place u)) t
  same-with u t value e =
      let same : u ≡ t = same_Ok u t e in
      (ap (λ v. well (typed_with place v)) same, subst SameValue same value)

  narrow-with : (at : Span) (f : Formula) (t : Typed) → SameValue (Number f) → narrow at f ≡ Ok t → Kept (narrow at (formula_with place f)) t
  narrow-with at f t value e =
      subst (λ (w : Option ℕ). Kept (if is_some w then Ok (Number (formula_with place f)) else Err (At TooWide at)) t) (sym (width-with place f))
      (go (is_some (width_of f)) e) where
        go : (b : Bool) → (if b then Ok (Number f) else Err (At TooWide at)) ≡ Ok t
            → Kept (if b then Ok (Number (formula_with place f)) else Err (At TooWide at)) t
        go true e = same-with (Number f) t value e
        go false e = absurd (cc)

  quotient-with : (at : Span) (f : Formula) (y : Expression) (t : Typed) → SameValue (Number f) → quotient at f y ≡ Ok t
      → Kept (quotient at (formula_with place f) y) t
  quotient-with at f y t value e = go (divisor_of y) e where
    go : (divisor : Option ℤ) → quotient_by at f (span_of y) divisor ≡ Ok t → Kept (quotient_by at (formula_with place f) (span_of y) divisor) t
    go (Some n) e = narrow-with at (Quotient f n) t (ap (λ v. int_div v n) value) e
    go None e = absurd (cc)

  -- an argument is the one of another number, which has the same value
  abbrev IsKept : Result (ℕ × Kind) BindFault → ℕ × Kind → Type 0
  IsKept own found = (own ≡ Ok (place found.0, found.1)) × (slice_get others (place found.0) ≡ slice_get args found.0)

  argument-with : (found : ℕ × Kind) → argument (place found.0, found.1) ≡ typed_with place (argument found)
  argument-with (i, kind.Int) = refl
  argument-with (i, kind.Text) = refl

  argument-value : (found : ℕ × Kind) → slice_get others (place found.0) ≡ slice_get args found.0 → SameValue (argument found)
  argument-value (i, kind.Int) h = ap argument_number h
  argument-value (i, kind.Text) h = ap argument_text h

  column-with : (answer own : Result (ℕ × Kind) BindFault) (t : Typed) → ((found : ℕ × Kind) → answer ≡ Ok found → IsKept own found)
      → (answer >>= λ found. Ok (argument found)) ≡ Ok t → Kept (own >>= λ found. Ok (argument found)) t
  column-with (Ok found) own t backed e =
      let kept = backed found refl in
      let made = same-with (argument found) t (argument-value found kept.1) e in
      (ap (λ (a : Result (ℕ × Kind) BindFault). a >>= λ f. well (argument f)) kept.0 ∙ (ap (λ v. well v) (argument-with found) ∙ made.0), made.1)
  column-with (Err fault) own t backed e = absurd (cc)

  module _ (scope other : Scope) where
    -- a reference stands for an argument of another number
    abbrev pub IsBacked : ColRef → Type 0
    IsBacked c = (found : ℕ × Kind) → scope c ≡ Ok found → IsKept (other c) found

    -- where an expression is a reference
    abbrev OwnBacked : Expression → Type 0
    OwnBacked (Column c) = IsBacked c
    OwnBacked _ = Unit {0}

    -- the rule of a node gives the same, where its parts are the same
    rule-with : (x : Expression) (parts : List Typed) (t : Typed) → OwnBacked x → AllByRecursion SameValue parts → rule scope x parts ≡ Ok t
        → Kept (rule other x (map (typed_with place) parts)) t
    rule-with (Int n at) [] t b h e = same-with (Number (Constant n)) t refl e
    rule-with (Text text at) [] t b h e = same-with (Words (side.Text text)) t refl e
    rule-with (Column c) [] t b h e = column-with (scope c) (other c) t b e
    rule-with (Neg x at) (Number f ∷ []) t b h e = narrow-with at (Negated f) t (ap neg_ℤ h.0) e
    rule-with (Arith Div x y at) (Number f ∷ u ∷ []) t b h e = quotient-with at f y t h.0 e
    rule-with (Arith Add x y at) (Number f ∷ Number g ∷ []) t b h e = narrow-with at (Sum f g) t (λ i. h.0 i +ℤ h.1.0 i) e
    rule-with (Arith Sub x y at) (Number f ∷ Number g ∷ []) t b h e = narrow-with at (Difference f g) t (λ i. h.0 i -ℤ h.1.0 i) e
    rule-with (Arith Mul x y at) (Number f ∷ Number g ∷ []) t b h e = narrow-with at (Product f g) t (λ i. h.0 i *ℤ h.1.0 i) e
    rule-with (Abs x at) (Number f ∷ []) t b h e = narrow-with at (Magnitude f) t (ap (λ v. pos (nat_abs v)) h.0) e
    rule-with (Least x y at) (Number f ∷ Number g ∷ []) t b h e = narrow-with at (formula.Least f g) t (λ i. int_min (h.0 i) (h.1.0 i)) e
    rule-with (Greatest x y at) (Number f ∷ Number g ∷ []) t b h e = narrow-with at (formula.Greatest f g) t (λ i. int_max (h.0 i) (h.1.0 i)) e
    rule-with (Case x y z at) (Truth c ∷ Number f ∷ Number g ∷ []) t b h e =
        narrow-with at (formula.Case c f g) t (λ i. if h.0 i then h.1.0 i else h.1.1.0 i) e
    rule-with (Compare rel x y at) (Number f ∷ Number g ∷ []) t b h e =
        same-with (Truth (Numbers rel f g)) t (λ i. rel_holds rel (int_cmp (h.0 i) (h.1.0 i))) e
    rule-with (Compare rel x y at) (Words p ∷ Words q ∷ []) t b h e =
        same-with (Truth (Texts rel p q)) t (λ i. rel_holds rel (slice_cmp nat_cmp (h.0 i) (h.1.0 i))) e
    rule-with (And x y at) (Truth c ∷ Truth d ∷ []) t b h e = same-with (Truth (Both c d)) t (λ i. h.0 i && h.1.0 i) e
    rule-with (Or x y at) (Truth c ∷ Truth d ∷ []) t b h e = same-with (Truth (Either c d)) t (λ i. h.0 i || h.1.0 i) e
    rule-with (Not x at) (Truth c ∷ []) t b h e = same-with (Truth (formula.Not c)) t (ap not h.0) e
    rule-with x parts t b h e = absurd (cc)

    -- what follows of a part where it is typed
    abbrev Follows : Result Typed BindFault → Result Typed BindFault → Type 0
    Follows first own = (u : Typed) → first ≡ Ok u → Kept own u

    one-with : (x : Expression) (first own : Result Typed BindFault) (t : Typed) → OwnBacked x → Follows first own → one scope x first ≡ Ok t
        → Kept (one other x own) t
    one-with x (Ok u) own t b h e =
        let part = h u refl in
        let made = rule-with x (u ∷ []) t b (part.1, tt) e in
        (ap (one other x) part.0 ∙ made.0, made.1)
    one-with x (Err fault) own t b h e = absurd (cc)

    two-with : (x : Expression) (first own second its : Result Typed BindFault) (t : Typed) → OwnBacked x → Follows first own → Follows second its
        → two scope x first second ≡ Ok t → Kept (two other x own its) t
    two-with x (Ok u) own (Ok v) its t b h k e =
        let left = h u refl in
        let right = k v refl in
        let made = rule-with x (u ∷ v ∷ []) t b (left.1, (right.1, tt)) e in
        ((λ i. two other x (left.0 i) (right.0 i)) ∙ made.0, made.1)
    two-with x (Ok u) own (Err fault) its t b h k e = absurd (cc)
    two-with x (Err fault) own second its t b h k e = absurd (cc)

    three-with : (x : Expression) (first own second its third last : Result Typed BindFault) (t : Typed) → OwnBacked x → Follows first own
        → Follows second its → Follows third last → three scope x first second third ≡ Ok t → Kept (three other x own its last) t
    three-with x (Ok u) own (Ok v) its (Ok w) last t b h k l e =
        let left = h u refl in
        let right = k v refl in
        let rest = l w refl in
        let made = rule-with x (u ∷ v ∷ w ∷ []) t b (left.1, (right.1, (rest.1, tt))) e in
        ((λ i. three other x (left.0 i) (right.0 i) (rest.0 i)) ∙ made.0, made.1)
    three-with x (Ok u) own (Ok v) its (Err fault) last t b h k l e = absurd (cc)
    three-with x (Ok u) own (Err fault) its third last t b h k l e = absurd (cc)
    three-with x (Err fault) own second its third last t b h k l e = absurd (cc)

    abbrev of : Expression → Result Typed BindFault
    of x = type_of scope x

    abbrev own : Expression → Result Typed BindFault
    own x = type_of other x

    abbrev AreBacked : List ColRef → Type 0
    AreBacked references = AllByRecursion IsBacked references

    -- the references of the first of two parts, and of the second one
    front : (x y : Expression) → AreBacked (references_of x ++ references_of y) → AreBacked (references_of x)
    front x y b = each-front IsBacked (references_of x) (references_of y) b

    behind : (x y : Expression) → AreBacked (references_of x ++ references_of y) → AreBacked (references_of y)
    behind x y b = each-behind IsBacked (references_of x) (references_of y) b

    -- an expression that is typed over the one scope is typed over the other one
    pub type_of-with : (x : Expression) (t : Typed) → AreBacked (references_of x) → type_of scope x ≡ Ok t → Kept (type_of other x) t
    type_of-with (Int n at) t b e = rule-with (Int n at) [] t tt tt e
    type_of-with (Text text at) t b e = rule-with (Text text at) [] t tt tt e
    type_of-with (Column c) t b e = rule-with (Column c) [] t b.0 tt e
    type_of-with (Neg x at) t b e = one-with (Neg x at) (of x) (own x) t tt (λ u k. type_of-with x u b k) e
    type_of-with (Arith op x y at) t b e =
        two-with (Arith op x y at) (of x) (own x) (of y) (own y) t tt (λ u k. type_of-with x u (front x y b) k) (λ u k. type_of-with y u (behind x y b) k) e
    type_of-with (Abs x at) t b e = one-with (Abs x at) (of x) (own x) t tt (λ u k. type_of-with x u b k) e
    type_of-with (Least x y at) t b e =
        two-with (Least x y at) (of x) (own x) (of y) (own y) t tt (λ u k. type_of-with x u (front x y b) k) (λ u k. type_of-with y u (behind x y b) k) e
    type_of-with (Greatest x y at) t b e =
        two-with (Greatest x y at) (of x) (own x) (of y) (own y) t tt (λ u k. type_of-with x u (front x y b) k) (λ u k. type_of-with y u (behind x y b) k) e
    type_of-with (Case x y z at) t b e =
        let others_backed = each-behind IsBacked (references_of x) (references_of y ++ references_of z) b in
        three-with (Case x y z at) (of x) (own x) (of y) (own y) (of z) (own z) t tt
        (λ u k. type_of-with x u (each-front IsBacked (references_of x) (references_of y ++ references_of z) b) k)
        (λ u k. type_of-with y u (front y z others_backed) k) (λ u k. type_of-with z u (behind y z others_backed) k) e
    type_of-with (Compare rel x y at) t b e =
        two-with (Compare rel x y at) (of x) (own x) (of y) (own y) t tt (λ u k. type_of-with x u (front x y b) k) (λ u k. type_of-with y u (behind x y b) k) e
    type_of-with (And x y at) t b e =
        two-with (And x y at) (of x) (own x) (of y) (own y) t tt (λ u k. type_of-with x u (front x y b) k) (λ u k. type_of-with y u (behind x y b) k) e
    type_of-with (Or x y at) t b e =
        two-with (Or x y at) (of x) (own x) (of y) (own y) t tt (λ u k. type_of-with x u (front x y b) k) (λ u k. type_of-with y u (behind x y b) k) e
    type_of-with (Not x at) t b e = one-with (Not x at) (of x) (own x) t tt (λ u k. type_of-with x u b k) e
