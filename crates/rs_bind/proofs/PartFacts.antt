-- The parts of a condition that is typed are typed over the columns that they name, and hold together exactly where the whole condition does.
use Rattle.std.proofs.Common.{ℕ, ◌≡◌, Bool, true, false, ◌&&◌, List, [], ◌∷◌, ◌++◌, map, refl, sym, ap, ◌∙◌}
use Rattle.std.specs.Prelude.{Result, Ok, Err}
use Rattle.std.specs.List.{list_all}
use Rattle.rs_value.specs.declared.value.Value.{Value}
use Rattle.rs_lex.specs.declared.token.Span.{Span}
use Rattle.rs_syntax.specs.Syntax.{Expression, And}
use Rattle.rs_value.specs.Results.{◌>>=◌}
use Rattle.rs_expr.specs.Formulas.{Condition, Both}
use Rattle.rs_expr.specs.Meaning.{holds}
use Rattle.rs_query.specs.Conjuncts.{ConjunctDef}
use Rattle.rs_typing.specs.declared.fault.BindFault.{BindFault}
use Rattle.rs_typing.specs.References.{references_of}
use Rattle.rs_typing.specs.Typing.{Scope, Typed, Number, Words, Truth, rule, span_of, as_truth, two, type_of}
use Rattle.rs_typing.proofs.EachFacts.{each-then}
use Rattle.rs_typing.proofs.ResultFacts.{same_Ok, well}
use Rattle.rs_typing.proofs.RetypingFacts.{IsBacked, condition_with, type_of-with}
use Rattle.rs_bind.specs.Conditions.{conjunct_in, conjunct_of, conjuncts_of, named_columns, parts_of_and, places_in}
use Rattle.rs_bind.specs.Sources.{Source}
use Rattle.rs_bind.proofs.ReferenceFacts.{IsBacked-moved, IsNamed, each-reference-named, moved}

-- the conjuncts of the parts of two conditions
and_nothing : (r : Result (List ConjunctDef) BindFault) → (r >>= λ made. well made) ≡ r
and_nothing (Ok made) = refl
and_nothing (Err fault) = refl

regrouped : (a : Result ConjunctDef BindFault) (r q : Result (List ConjunctDef) BindFault)
    → (a >>= λ first. (r >>= λ ms. q >>= λ ns. well (ms ++ ns)) >>= λ rest. well (first ∷ rest))
    ≡ ((a >>= λ first. r >>= λ rest. well (first ∷ rest)) >>= λ ms. q >>= λ ns. well (ms ++ ns))
regrouped (Ok first) (Ok ms) (Ok ns) = refl
regrouped (Ok first) (Ok ms) (Err fault) = refl
regrouped (Ok first) (Err fault) q = refl
regrouped (Err fault) r q = refl

pub conjuncts_of-append : (sources : List Source) (xs ys : List Expression)
    → conjuncts_of sources (xs ++ ys) ≡ (conjuncts_of sources xs >>= λ ms. conjuncts_of sources ys >>= λ ns. Ok (ms ++ ns))
conjuncts_of-append sources [] ys = sym (and_nothing (conjuncts_of sources ys))
conjuncts_of-append sources (x ∷ xs) ys =
    ap (λ (r : Result (List ConjunctDef) BindFault). conjunct_in sources x >>= λ first. r >>= λ rest. well (first ∷ rest)) (conjuncts_of-append sources xs ys)
    ∙ regrouped (conjunct_in sources x) (conjuncts_of sources xs) (conjuncts_of sources ys)

-- an AND that is typed is that of two conditions
record IsBoth (first second : Result Typed BindFault) (c : Condition) : Type 0 where
  left : Condition
  right : Condition
  is_left : first ≡ Ok (Truth left)
  is_right : second ≡ Ok (Truth right)
  is : Both left right ≡ c

IsBoth-rule : (scope : Scope) (x y : Expression) (at : Span) (t u : Typed) (c : Condition) → rule scope (And x y at) (t ∷ u ∷ []) ≡ Ok (Truth c)
    → IsBoth (Ok t) (Ok u) c
IsBoth-rule scope x y at (Truth left) (Truth right) c h =
    let same : Truth (Both left right) ≡ Truth c = same_Ok (Truth (Both left right)) (Truth c) h in
    record { left = left; right = right; is_left = refl; is_right = refl; is = cc }
IsBoth-rule scope x y at (Truth left) (Number g) c h = absurd (cc)
IsBoth-rule scope x y at (Truth left) (Words side) c h = absurd (cc)
IsBoth-rule scope x y at (Number f) u c h = absurd (cc)
IsBoth-rule scope x y at (Words side) u c h = absurd (cc)

IsBoth-typed : (scope : Scope) (x y : Expression) (at : Span) (first second : Result Typed BindFault) (c : Condition)
    → two scope (And x y at) first second ≡ Ok (Truth c) → IsBoth first second c
IsBoth-typed scope x y at (Ok t) (Ok u) c h = IsBoth-rule scope x y at t u c h
IsBoth-typed scope x y at (Ok t) (Err fault) c h = absurd (cc)
IsBoth-typed scope x y at (Err fault) second c h = absurd (cc)

all-append : (test : ConjunctDef → Bool) (ms ns : List ConjunctDef) → list_all test (ms ++ ns) ≡ (list_all test ms && list_all test ns)
all-append test [] ns = refl
all-append test (m ∷ ms) ns = go (test m) (all-append test ms ns) where
  go : (b : Bool) → list_all test (ms ++ ns) ≡ (list_all test ms && list_all test ns)
      → (b && list_all test (ms ++ ns)) ≡ ((b && list_all test ms) && list_all test ns)
  go true more = more
  go false more = refl

and_true : (b : Bool) → (b && true) ≡ b
and_true true = refl
and_true false = refl

module _ (sources : List Source) (cell : ℕ × ℕ → Value) where
  -- whether a conjunct holds, where the columns have these values
  abbrev pub conjunct_true : ConjunctDef → Bool
  conjunct_true conjunct = holds conjunct.condition (map cell conjunct.columns)

  -- these conditions have conjuncts, which hold exactly where another condition holds of these arguments
  pub record HaveConjuncts (parts : List Expression) (args : List Value) (c : Condition) : Type 0 where
    pub made : List ConjunctDef
    pub are : conjuncts_of sources parts ≡ Ok made
    pub hold : list_all conjunct_true made ≡ holds c args

  one-part : (columns : List (ℕ × ℕ)) (x : Expression) (c : Condition) → type_of (places_in columns sources) x ≡ Ok (Truth c)
      → HaveConjuncts (x ∷ []) (map cell columns) c
  one-part columns x c h =
      let own = named_columns sources x in
      let place = moved columns own in
      let backed = each-then (IsNamed sources own) (IsBacked place (map cell columns) (map cell own) (places_in columns sources) (places_in own sources))
      (IsBacked-moved cell columns own sources) (references_of x) (each-reference-named sources x) in
      let kept = type_of-with place (map cell columns) (map cell own) (places_in columns sources) (places_in own sources) x (Truth c) backed h in
      let one = conjunct_of own (condition_with place c) in
      record {
        made = one ∷ [];
        are = ap (λ (r : Result Typed BindFault). ((r >>= as_truth (span_of x)) >>= λ d. well (conjunct_of own d)) >>= λ first. well (first ∷ [])) kept.0;
        hold = and_true (conjunct_true one) ∙ kept.1;
      }

  -- the parts of a condition that is typed over some columns
  pub HaveConjuncts-typed : (columns : List (ℕ × ℕ)) (x : Expression) (c : Condition) → type_of (places_in columns sources) x ≡ Ok (Truth c)
      → HaveConjuncts (parts_of_and x) (map cell columns) c
  HaveConjuncts-typed columns (And x y at) c h =
      let scope = places_in columns sources in
      let both = IsBoth-typed scope x y at (type_of scope x) (type_of scope y) c h in
      let left = HaveConjuncts-typed columns x both.left both.is_left in
      let right = HaveConjuncts-typed columns y both.right both.is_right in
      record {
        made = left.made ++ right.made;
        are = conjuncts_of-append sources (parts_of_and x) (parts_of_and y)
            ∙ (ap (λ (r : Result (List ConjunctDef) BindFault). r >>= λ ms. conjuncts_of sources (parts_of_and y) >>= λ ns. well (ms ++ ns)) left.are
            ∙ ap (λ (r : Result (List ConjunctDef) BindFault). r >>= λ ns. well (left.made ++ ns)) right.are);
        hold = all-append conjunct_true left.made right.made
            ∙ ((λ i. left.hold i && right.hold i) ∙ ap (λ d. holds d (map cell columns)) both.is);
      }
  HaveConjuncts-typed columns x c h = one-part columns x c h
