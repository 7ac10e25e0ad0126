-- Expressions are typed, and refused, by the rules of typing.
use Rattle.std.proofs.Common.{◌≡◌, List, [], ◌∷◌, ◌++◌, refl, sym, subst, ap, ◌∙◌, inl, inr}
use Rattle.std.specs.Prelude.{Result, Ok, Err, ◌↔◌}
use Rattle.std.specs.List.{AllByRecursion}
use Rattle.rs_syntax.specs.Syntax.{Expression, Int, Text, Column, Neg, Arith, Abs, Least, Greatest, Case, Compare, And, Or, Not}
use Rattle.rs_value.specs.Results.{◌>>=◌}
use Rattle.rs_typing.specs.declared.fault.BindFault.{BindFault}
use Rattle.rs_typing.proofs.StepFacts.{Ok-steps, Err-steps}
use Rattle.rs_typing.specs.Rules.{Types, TypesEach, Refused, none, and, by_rule, in_part}
use Rattle.rs_typing.specs.Typing.{Scope, Typed, parts_of, rule, type_of}

-- what holds of an expression where it holds of its parts holds of every expression
pub by_parts : (P : Expression → Type 0) → ((x : Expression) → AllByRecursion P (parts_of x) → P x) → (x : Expression) → P x
by_parts P step (Int n at) = step (Int n at) tt
by_parts P step (Text text at) = step (Text text at) tt
by_parts P step (Column c) = step (Column c) tt
by_parts P step (Neg x at) = step (Neg x at) (by_parts P step x, tt)
by_parts P step (Arith op x y at) = step (Arith op x y at) (by_parts P step x, (by_parts P step y, tt))
by_parts P step (Abs x at) = step (Abs x at) (by_parts P step x, tt)
by_parts P step (Least x y at) = step (Least x y at) (by_parts P step x, (by_parts P step y, tt))
by_parts P step (Greatest x y at) = step (Greatest x y at) (by_parts P step x, (by_parts P step y, tt))
by_parts P step (Case x y z at) = step (Case x y z at) (by_parts P step x, (by_parts P step y, (by_parts P step z, tt)))
by_parts P step (Compare rel x y at) = step (Compare rel x y at) (by_parts P step x, (by_parts P step y, tt))
by_parts P step (And x y at) = step (And x y at) (by_parts P step x, (by_parts P step y, tt))
by_parts P step (Or x y at) = step (Or x y at) (by_parts P step x, (by_parts P step y, tt))
by_parts P step (Not x at) = step (Not x at) (by_parts P step x, tt)

-- one, two or three parts are a list of them
one_part : (r : List Typed → Result Typed BindFault) (a : Result Typed BindFault)
    → (a >>= λ t. r (t ∷ [])) ≡ ((a >>= λ t. Ok (t ∷ [])) >>= r)
one_part r (Ok t) = refl
one_part r (Err fault) = refl

two_parts : (r : List Typed → Result Typed BindFault) (a b : Result Typed BindFault)
    → (a >>= λ t. b >>= λ u. r (t ∷ u ∷ [])) ≡ ((a >>= λ t. ((b >>= λ u. Ok (u ∷ [])) >>= λ ts. Ok (t ∷ ts))) >>= r)
two_parts r (Ok t) (Ok u) = refl
two_parts r (Ok t) (Err fault) = refl
two_parts r (Err fault) b = refl

three_parts : (r : List Typed → Result Typed BindFault) (a b c : Result Typed BindFault)
    → (a >>= λ t. b >>= λ u. c >>= λ v. r (t ∷ u ∷ v ∷ []))
    ≡ ((a >>= λ t. ((b >>= λ u. ((c >>= λ v. Ok (v ∷ [])) >>= λ ts. Ok (u ∷ ts))) >>= λ ts. Ok (t ∷ ts))) >>= r)
three_parts r (Ok t) (Ok u) (Ok v) = refl
three_parts r (Ok t) (Ok u) (Err fault) = refl
three_parts r (Ok t) (Err fault) c = refl
three_parts r (Err fault) b c = refl

module _ (scope : Scope) where
  -- what expressions are, from left to right
  abbrev pub types_of : List Expression → Result (List Typed) BindFault
  types_of [] = Ok []
  types_of (x ∷ xs) = type_of scope x >>= λ t. types_of xs >>= λ ts. Ok (t ∷ ts)

  -- an expression is what its rule says of its parts
  pub type_of-parts : (x : Expression) → type_of scope x ≡ (types_of (parts_of x) >>= rule scope x)
  type_of-parts (Int n at) = refl
  type_of-parts (Text text at) = refl
  type_of-parts (Column c) = refl
  type_of-parts (Neg x at) = one_part (rule scope (Neg x at)) (type_of scope x)
  type_of-parts (Arith op x y at) = two_parts (rule scope (Arith op x y at)) (type_of scope x) (type_of scope y)
  type_of-parts (Abs x at) = one_part (rule scope (Abs x at)) (type_of scope x)
  type_of-parts (Least x y at) = two_parts (rule scope (Least x y at)) (type_of scope x) (type_of scope y)
  type_of-parts (Greatest x y at) = two_parts (rule scope (Greatest x y at)) (type_of scope x) (type_of scope y)
  type_of-parts (Case x y z at) = three_parts (rule scope (Case x y z at)) (type_of scope x) (type_of scope y) (type_of scope z)
  type_of-parts (Compare rel x y at) = two_parts (rule scope (Compare rel x y at)) (type_of scope x) (type_of scope y)
  type_of-parts (And x y at) = two_parts (rule scope (And x y at)) (type_of scope x) (type_of scope y)
  type_of-parts (Or x y at) = two_parts (rule scope (Or x y at)) (type_of scope x) (type_of scope y)
  type_of-parts (Not x at) = one_part (rule scope (Not x at)) (type_of scope x)

  mutual
    type_of-Types : {x : Expression} {t : Typed} → Types scope x t → type_of scope x ≡ Ok t
    type_of-Types (by_rule x parts t each says) =
        type_of-parts x ∙ (ap (λ r. r >>= rule scope x) (types_of-TypesEach each) ∙ says)

    types_of-TypesEach : {xs : List Expression} {ts : List Typed} → TypesEach scope xs ts → types_of xs ≡ Ok ts
    types_of-TypesEach none = refl
    types_of-TypesEach (and x xs t ts h hs) =
        ap (λ r. r >>= λ u. types_of xs >>= λ us. Ok (u ∷ us)) (type_of-Types h) ∙ ap (λ r. r >>= λ us. Ok (t ∷ us)) (types_of-TypesEach hs)

  -- a part is refused behind typed parts
  types_of-refused : (part : Expression) (behind : List Expression) (fault : BindFault) → type_of scope part ≡ Err fault
      → {before : List Expression} {ts : List Typed} → TypesEach scope before ts → types_of (before ++ part ∷ behind) ≡ Err fault
  types_of-refused part behind fault h none = ap (λ r. r >>= λ u. types_of behind >>= λ us. Ok (u ∷ us)) h
  types_of-refused part behind fault h (and x xs t ts typed each) =
      ap (λ r. r >>= λ u. types_of (xs ++ part ∷ behind) >>= λ us. Ok (u ∷ us)) (type_of-Types typed)
      ∙ ap (λ r. r >>= λ us. Ok (t ∷ us)) (types_of-refused part behind fault h each)

  type_of-Refused : {x : Expression} {fault : BindFault} → Refused scope x fault → type_of scope x ≡ Err fault
  type_of-Refused (in_part x part before behind typed fault split each refused) =
      type_of-parts x ∙ (ap (λ xs. types_of xs >>= rule scope x) split ∙ ap (λ r. r >>= rule scope x)
      (types_of-refused part behind fault (type_of-Refused refused) each))
  type_of-Refused (by_rule x parts fault each says) =
      type_of-parts x ∙ (ap (λ r. r >>= rule scope x) (types_of-TypesEach each) ∙ says)

  -- what is typed so is so by the rules, where that holds of its parts
  abbrev IsTyped : Expression → Type 0
  IsTyped x = (t : Typed) → type_of scope x ≡ Ok t → Types scope x t

  TypesEach-types_of : (xs : List Expression) → AllByRecursion IsTyped xs → (ts : List Typed) → types_of xs ≡ Ok ts → TypesEach scope xs ts
  TypesEach-types_of [] parts ts h = let same : [] ≡ ts = cc in subst (TypesEach scope []) same none
  TypesEach-types_of (x ∷ xs) parts ts h =
      let first = Ok-steps (type_of scope x) (λ t. types_of xs >>= λ us. Ok (t ∷ us)) ts h in
      let rest = Ok-steps (types_of xs) (λ us. Ok (first.0 ∷ us)) ts first.2 in
      let same : first.0 ∷ rest.0 ≡ ts = cc in
      subst (TypesEach scope (x ∷ xs)) same (and x xs first.0 rest.0 (parts.0 first.0 first.1) (TypesEach-types_of xs parts.1 rest.0 rest.1))

  Types-type_of : (x : Expression) → IsTyped x
  Types-type_of = by_parts IsTyped (λ x parts t h.
      let steps = Ok-steps (types_of (parts_of x)) (rule scope x) t (sym (type_of-parts x) ∙ h) in
      by_rule x steps.0 t (TypesEach-types_of (parts_of x) parts steps.0 steps.1) steps.2)

  -- the first part that fails
  record FirstRefused (xs : List Expression) (fault : BindFault) : Type 0 where
    before : List Expression
    part : Expression
    behind : List Expression
    typed : List Typed
    split : xs ≡ before ++ part ∷ behind
    each : TypesEach scope before typed
    refused : Refused scope part fault

  abbrev IsRefused : Expression → Type 0
  IsRefused x = (fault : BindFault) → type_of scope x ≡ Err fault → Refused scope x fault

  FirstRefused-behind : (x : Expression) (xs : List Expression) (t : Typed) (fault : BindFault) → Types scope x t → FirstRefused xs fault
      → FirstRefused (x ∷ xs) fault
  FirstRefused-behind x xs t fault h first = record {
    before = x ∷ first.before;
    part = first.part;
    behind = first.behind;
    typed = t ∷ first.typed;
    split = ap (λ ys. x ∷ ys) first.split;
    each = and x first.before t first.typed h first.each;
    refused = first.refused;
  }

  FirstRefused-types_of : (xs : List Expression) → AllByRecursion IsRefused xs → (fault : BindFault) → types_of xs ≡ Err fault → FirstRefused xs fault
  FirstRefused-types_of [] parts fault h = cc
  FirstRefused-types_of (x ∷ xs) parts fault h = elim (Err-steps (type_of scope x) (λ t. types_of xs >>= λ us. Ok (t ∷ us)) fault h) [
    | inl refuses ↦ record { before = []; part = x; behind = xs; typed = []; split = refl; each = none; refused = parts.0 fault refuses }
    | inr first ↦ elim (Err-steps (types_of xs) (λ us. Ok (first.0 ∷ us)) fault first.2) [
      | inl refuses ↦ FirstRefused-behind x xs first.0 fault (Types-type_of x first.0 first.1) (FirstRefused-types_of xs parts.1 fault refuses)
      | inr rest ↦ cc
    ]
  ]

  Refused-type_of : (x : Expression) → IsRefused x
  Refused-type_of = by_parts IsRefused (λ x parts fault h.
      elim (Err-steps (types_of (parts_of x)) (rule scope x) fault (sym (type_of-parts x) ∙ h)) [
        | inl refuses ↦ (let first = FirstRefused-types_of (parts_of x) parts fault refuses in
            in_part x first.part first.before first.behind first.typed fault first.split first.each first.refused)
        | inr steps ↦ by_rule x steps.0 fault (TypesEach-types_of (parts_of x) (all_typed (parts_of x)) steps.0 steps.1) steps.2
      ]) where
        all_typed : (xs : List Expression) → AllByRecursion IsTyped xs
        all_typed [] = tt
        all_typed (x ∷ xs) = (Types-type_of x, all_typed xs)

  pub typed_by_rules : (x : Expression) (t : Typed) → (type_of scope x ≡ Ok t) ↔ Types scope x t
  typed_by_rules x t = (λ h. Types-type_of x t h, λ h. type_of-Types h)

  pub refused_by_rules : (x : Expression) (fault : BindFault) → (type_of scope x ≡ Err fault) ↔ Refused scope x fault
  refused_by_rules x fault = (λ h. Refused-type_of x fault h, λ h. type_of-Refused h)
