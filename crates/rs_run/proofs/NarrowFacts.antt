-- A query that is written and bound is well formed: the numbers in its WHERE are in range, so each formula in it has a width.
use Rattle.std.proofs.Common.{ℕ, ◌≡◌, ◌≤◌, true, List, [], ◌∷◌, refl, ap, subst, arith}
use Rattle.std.specs.Prelude.{ℤ, nat_abs, Option, Some, None, Ok, IfSome, is_some, if◌then◌else◌}
use Rattle.std.specs.List.{AllByRecursion}
use Rattle.std.proofs.lemmas.Bool.{le-leb}
use Rattle.rs_value.specs.Number.{greatest_int}
use Rattle.rs_value.specs.Results.{◌>>=◌}
use Rattle.rs_value.specs.declared.kind.Kind.{Kind}
use Rattle.rs_value.specs.declared.kind.Kind.TheVariants as kind
use Rattle.rs_value.specs.declared.set_op.SetOp.{SetOp}
use Rattle.rs_order.proofs.EachFacts.{each-append}
use Rattle.rs_lex.specs.declared.token.Span.{Span}
use Rattle.rs_syntax.specs.Syntax.{Expression}
use Rattle.rs_syntax.specs.Syntax as syntax
use Rattle.rs_syntax.specs.Written.{IsWrittenBlock, IsWrittenExpression, IsWrittenQuery}
use Rattle.rs_expr.specs.Formulas.{Condition, Constant}
use Rattle.rs_expr.specs.Widths.{is_narrow, most_width}
use Rattle.rs_expr.specs.declared.expr.TextSide.TheVariants as side
use Rattle.rs_catalog.specs.Catalog.{CatalogDef}
use Rattle.rs_query.specs.Conjuncts.{ConjunctDef}
use Rattle.rs_query.specs.Tops.{with_tops}
use Rattle.rs_query.specs.WellFormed.{IsQuery}
use Rattle.rs_query.specs.declared.query.Query.{Query}
use Rattle.rs_query.specs.declared.query.Query.TheVariants.{One, Set}
use Rattle.rs_typing.specs.Typing.{Scope, Typed, Number, Words, Truth, argument, as_truth, has_width, one, rule, span_of, three, two, type_of}
use Rattle.rs_typing.proofs.ResultFacts.{same_Ok, well}
use Rattle.rs_typing.proofs.TypingFacts.{rule-has_width}
use Rattle.rs_bind.specs.Conditions.{condition_over, conjunct_in, conjunct_of, conjuncts_of, few_parts, filter_of, named_columns, parts_of_and, places_in}
use Rattle.rs_bind.specs.Narrow.{HaveNarrowConjuncts, IsNarrow}
use Rattle.rs_bind.specs.Queries.{Unranked, bound_query, one_of, set_of, typed_query, unranked_of, with_terms}
use Rattle.rs_bind.specs.Sources.{Source, sources_of}
use Rattle.rs_bind.proofs.FormedFacts.{HasParts-unranked_of, IsOne-one_of, IsSet-set_of, bound-formed}
use Rattle.rs_statement.proofs.HeldSteps.{Ok-then}

width-same : (u t : Typed) → well u ≡ Ok t → has_width u ≡ true → has_width t ≡ true
width-same u t e h = subst (λ v. has_width v ≡ true) (same_Ok u t e) h

constant-width : (n : ℤ) → nat_abs n ≤ greatest_int → has_width (Number (Constant n)) ≡ true
constant-width n is_written = ap (λ b. is_some (if b then Some (nat_abs n) else None)) (le-leb (nat_abs n) most_width (omega (arith, is_written)))

argument-width : (found : ℕ × Kind) → has_width (argument found) ≡ true
argument-width (n, kind.Int) = refl
argument-width (n, kind.Text) = refl

-- what an expression is has widths
module _ (scope : Scope) where
  abbrev HasWidth : Expression → Type 0
  HasWidth x = (t : Typed) → type_of scope x ≡ Ok t → has_width t ≡ true

  one-width : (x p : Expression) (t : Typed) → HasWidth p → one scope x (type_of scope p) ≡ Ok t → has_width t ≡ true
  one-width x p t each e =
      let first = Ok-then (type_of scope p) (λ u. rule scope x (u ∷ [])) t e in
      rule-has_width scope x first.0 [] t (each first.0 first.1, tt) first.2

  two-width : (x p q : Expression) (t : Typed) → HasWidth p → HasWidth q → two scope x (type_of scope p) (type_of scope q) ≡ Ok t → has_width t ≡ true
  two-width x p q t each other e =
      let first = Ok-then (type_of scope p) (λ u. type_of scope q >>= λ v. rule scope x (u ∷ v ∷ [])) t e in
      let second = Ok-then (type_of scope q) (λ v. rule scope x (first.0 ∷ v ∷ [])) t first.2 in
      rule-has_width scope x first.0 (second.0 ∷ []) t (each first.0 first.1, (other second.0 second.1, tt)) second.2

  three-width : (x p q r : Expression) (t : Typed) → HasWidth p → HasWidth q → HasWidth r → three scope x (type_of scope p) (type_of scope q) (type_of scope r) ≡ Ok t → has_width t ≡ true
  three-width x p q r t each other last e =
      let first = Ok-then (type_of scope p) (λ u. type_of scope q >>= λ v. type_of scope r >>= λ w. rule scope x (u ∷ v ∷ w ∷ [])) t e in
      let second = Ok-then (type_of scope q) (λ v. type_of scope r >>= λ w. rule scope x (first.0 ∷ v ∷ w ∷ [])) t first.2 in
      let third = Ok-then (type_of scope r) (λ w. rule scope x (first.0 ∷ second.0 ∷ w ∷ [])) t second.2 in
      rule-has_width scope x first.0 (second.0 ∷ third.0 ∷ []) t (each first.0 first.1, (other second.0 second.1, (last third.0 third.1, tt))) third.2

  typed-width : (x : Expression) → IsWrittenExpression x → HasWidth x
  typed-width (syntax.Int n at) is_written t e = width-same (Number (Constant n)) t e (constant-width n is_written)
  typed-width (syntax.Text text at) is_written t e = width-same (Words (side.Text text)) t e refl
  typed-width (syntax.Column c) is_written t e =
      let found = Ok-then (scope c) (λ f. well (argument f)) t e in
      width-same (argument found.0) t found.2 (argument-width found.0)
  typed-width (syntax.Neg x at) is_written t e = one-width (syntax.Neg x at) x t (typed-width x is_written) e
  typed-width (syntax.Arith op x y at) is_written t e = two-width (syntax.Arith op x y at) x y t (typed-width x is_written.0) (typed-width y is_written.1) e
  typed-width (syntax.Abs x at) is_written t e = one-width (syntax.Abs x at) x t (typed-width x is_written) e
  typed-width (syntax.Least x y at) is_written t e = two-width (syntax.Least x y at) x y t (typed-width x is_written.0) (typed-width y is_written.1) e
  typed-width (syntax.Greatest x y at) is_written t e = two-width (syntax.Greatest x y at) x y t (typed-width x is_written.0) (typed-width y is_written.1) e
  typed-width (syntax.Case x y z at) is_written t e = three-width (syntax.Case x y z at) x y z t (typed-width x is_written.0) (typed-width y is_written.1) (typed-width z is_written.2) e
  typed-width (syntax.Compare rel x y at) is_written t e = two-width (syntax.Compare rel x y at) x y t (typed-width x is_written.0) (typed-width y is_written.1) e
  typed-width (syntax.And x y at) is_written t e = two-width (syntax.And x y at) x y t (typed-width x is_written.0) (typed-width y is_written.1) e
  typed-width (syntax.Or x y at) is_written t e = two-width (syntax.Or x y at) x y t (typed-width x is_written.0) (typed-width y is_written.1) e
  typed-width (syntax.Not x at) is_written t e = one-width (syntax.Not x at) x t (typed-width x is_written) e

truth-narrow : (at : Span) (t : Typed) (c : Condition) → as_truth at t ≡ Ok c → has_width t ≡ true → is_narrow c ≡ true
truth-narrow at (Number f) c e h = absurd cc
truth-narrow at (Words s) c e h = absurd cc
truth-narrow at (Truth d) c e h = let same : d ≡ c = cc in subst (λ d. is_narrow d ≡ true) same h

-- the parts that AND joins have the numbers of the whole
parts-numbers : (x : Expression) → IsWrittenExpression x → AllByRecursion IsWrittenExpression (parts_of_and x)
parts-numbers (syntax.And x y at) is_written = each-append IsWrittenExpression (parts_of_and x) (parts_of_and y) (parts-numbers x is_written.0) (parts-numbers y is_written.1)
parts-numbers (syntax.Int n at) is_written = (is_written, tt)
parts-numbers (syntax.Text text at) is_written = (is_written, tt)
parts-numbers (syntax.Column c) is_written = (is_written, tt)
parts-numbers (syntax.Neg x at) is_written = (is_written, tt)
parts-numbers (syntax.Arith op x y at) is_written = (is_written, tt)
parts-numbers (syntax.Abs x at) is_written = (is_written, tt)
parts-numbers (syntax.Least x y at) is_written = (is_written, tt)
parts-numbers (syntax.Greatest x y at) is_written = (is_written, tt)
parts-numbers (syntax.Case x y z at) is_written = (is_written, tt)
parts-numbers (syntax.Compare rel x y at) is_written = (is_written, tt)
parts-numbers (syntax.Or x y at) is_written = (is_written, tt)
parts-numbers (syntax.Not x at) is_written = (is_written, tt)

-- so conditions have widths
abbrev AreNarrow : List ConjunctDef → Type 0
AreNarrow made = AllByRecursion IsNarrow made

module _ (sources : List Source) where
  conjunct-narrow : (x : Expression) (c : ConjunctDef) → IsWrittenExpression x → conjunct_in sources x ≡ Ok c → IsNarrow c
  conjunct-narrow x c is_written e =
      let columns = named_columns sources x in
      let made = Ok-then (condition_over columns sources x) (λ d. well (conjunct_of columns d)) c e in
      let typed = Ok-then (type_of (places_in columns sources) x) (as_truth (span_of x)) made.0 made.1 in
      subst IsNarrow (same_Ok (conjunct_of columns made.0) c made.2)
      (truth-narrow (span_of x) typed.0 made.0 typed.2 (typed-width (places_in columns sources) x is_written typed.0 typed.1))

  conjuncts-narrow : (xs : List Expression) (made : List ConjunctDef) → AllByRecursion IsWrittenExpression xs → conjuncts_of sources xs ≡ Ok made → AreNarrow made
  conjuncts-narrow [] made is_written e = subst AreNarrow (same_Ok [] made e) tt
  conjuncts-narrow (x ∷ xs) made is_written e =
      let first = Ok-then (conjunct_in sources x) (λ c. conjuncts_of sources xs >>= λ rest. well (c ∷ rest)) made e in
      let rest = Ok-then (conjuncts_of sources xs) (λ rest. well (first.0 ∷ rest)) made first.2 in
      subst AreNarrow (same_Ok (first.0 ∷ rest.0) made rest.2) (conjunct-narrow x first.0 is_written.0 first.1, conjuncts-narrow xs rest.0 is_written.1 rest.1)

  filter-narrow : (filter : Option Expression) (made : List ConjunctDef) → IfSome filter IsWrittenExpression → filter_of sources filter ≡ Ok made → AreNarrow made
  filter-narrow None made is_written e = subst AreNarrow (same_Ok [] made e) tt
  filter-narrow (Some x) made is_written e =
      let whole = Ok-then (conjunct_in sources x) (λ c. few_parts (parts_of_and x) >>= λ some. conjuncts_of sources (parts_of_and x)) made e in
      let counted = Ok-then (few_parts (parts_of_and x)) (λ some. conjuncts_of sources (parts_of_and x)) made whole.2 in
      conjuncts-narrow (parts_of_and x) made (parts-numbers x is_written) counted.2

-- and so have those of a query that is bound
module _ (catalogue : CatalogDef) where
  unranked-narrow : (written : syntax.Block) (block : Unranked) → IsWrittenBlock written → unranked_of catalogue written ≡ Ok block → AreNarrow block.conjuncts
  unranked-narrow written block is e =
      filter-narrow (sources_of catalogue block.from) written.filter block.conjuncts is.filter (HasParts-unranked_of catalogue written block e).conjuncts

  one-narrow : (query : syntax.Query) (bound : Query) → IsWrittenBlock query.left → one_of catalogue query ≡ Ok bound → HaveNarrowConjuncts bound
  one-narrow query bound is_written e =
      let made = IsOne-one_of catalogue query bound e in
      subst HaveNarrowConjuncts {x = One (with_terms made.block made.terms) made.limit} made.is (unranked-narrow query.left made.block is_written made.is_block)

  set-narrow : (query : syntax.Query) (op : SetOp) (second : syntax.Block) (bound : Query) → IsWrittenBlock query.left → IsWrittenBlock second
      → set_of catalogue query op second ≡ Ok bound → HaveNarrowConjuncts bound
  set-narrow query op second bound is_written other e =
      let made = IsSet-set_of catalogue query op second bound e in
      subst HaveNarrowConjuncts {x = Set op (with_terms made.left made.terms) (with_terms made.right made.others) made.limit} made.is
      (unranked-narrow query.left made.left is_written made.is_left, unranked-narrow second made.right other made.is_right)

  typed-narrow : (query : syntax.Query) (typed : Query) → IsWrittenBlock query.left → IfSome query.right (λ (second : SetOp × syntax.Block). IsWrittenBlock second.1)
      → typed_query catalogue query ≡ Ok typed → HaveNarrowConjuncts typed
  typed-narrow query typed is_written others is = go query.right others is where
    go : (right : Option (SetOp × syntax.Block)) → IfSome right (λ (second : SetOp × syntax.Block). IsWrittenBlock second.1)
        → typed_query catalogue (record query { right = right }) ≡ Ok typed → HaveNarrowConjuncts typed
    go None others is = one-narrow (record query { right = None }) typed is_written is
    go (Some right) others is = set-narrow (record query { right = Some right }) right.0 right.1 typed is_written others is

  tops-narrow : (typed : Query) → HaveNarrowConjuncts typed → HaveNarrowConjuncts (with_tops catalogue typed)
  tops-narrow (One block limit) narrow = narrow
  tops-narrow (Set op left right limit) narrow = narrow

  pub bound-well : (query : syntax.Query) (bound : Query) → IsWrittenQuery query → bound_query catalogue query ≡ Ok bound → IsQuery catalogue bound
  bound-well query bound written is =
      let typed = Ok-then (typed_query catalogue query) (λ q. well (with_tops catalogue q)) bound is in
      bound-formed catalogue query bound written
      (subst HaveNarrowConjuncts (same_Ok (with_tops catalogue typed.0) bound typed.2) (tops-narrow typed.0 (typed-narrow query typed.0 written.left written.right typed.1))) is
