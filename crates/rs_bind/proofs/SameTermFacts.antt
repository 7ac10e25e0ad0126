-- The terms of a set query, which its two blocks have alike.
use Rattle.std.proofs.Common.{ℕ, suc, ◌≡◌, ◌==◌, Bool, true, false, List, [], ◌∷◌, length, refl, sym, subst, ap, ◌∙◌}
use Rattle.std.specs.Prelude.{map, Option, Some, None, option_map, slice_get, Ok, Err, if◌then◌else◌}
use Rattle.std.specs.List.{AllByRecursion, list_any}
use Rattle.std.specs.Str.{bytes_eq}
use Rattle.std.proofs.lemmas.Option.{slice_get-map}
use Rattle.rs_value.specs.declared.kind.Kind.{Kind}
use Rattle.rs_value.specs.declared.kind.Kind.TheVariants as kind
use Rattle.rs_lex.specs.declared.token.Span.{Span}
use Rattle.rs_syntax.specs.declared.name.Arg.{Arg}
use Rattle.rs_syntax.specs.declared.name.Arg.TheVariants as arg
use Rattle.rs_syntax.specs.declared.name.ColRef.{ColRef}
use Rattle.rs_syntax.specs.declared.name.Name.{Name}
use Rattle.rs_syntax.specs.declared.select.TermSyn.{TermSyn}
use Rattle.rs_value.specs.Results.{◌>>=◌}
use Rattle.rs_expr.specs.Uses.{is_kind}
use Rattle.rs_catalog.specs.Catalog.{CatalogDef}
use Rattle.rs_catalog.specs.declared.index.BoundArg.{BoundArg}
use Rattle.rs_catalog.specs.declared.index.BoundArg.TheVariants as bound
use Rattle.rs_query.specs.declared.block.Block.{Block}
use Rattle.rs_query.specs.declared.term.Term.{Term}
use Rattle.rs_query.specs.WellFormed.{IsArg, AreSameArg, AreSameArgs, AreSameTerm, AreSameTerms, column_kind}
use Rattle.rs_typing.specs.declared.fault.BindFault.TheVariants.{At}
use Rattle.rs_typing.specs.declared.fault.Why.TheVariants.{ConstantTerm, WrongCount, WrongKind}
use Rattle.rs_typing.specs.Typing.{span_of_column}
use Rattle.rs_typing.proofs.EachFacts.{parts_true}
use Rattle.rs_typing.proofs.StepFacts.{Ok-steps, Ok-test}
use Rattle.rs_bind.specs.Indexes.{Entries, arg_of, args_of, is_column, of_kind, params_in, term_args}
use Rattle.rs_bind.specs.Queries.{agree, as_argument, called, output_columns, terms_behind, terms_of}
use Rattle.rs_bind.specs.Sources.{Found, the_only}
use Rattle.rs_bind.proofs.ColumnFacts.{IsFound, the_only-is}
use Rattle.rs_bind.proofs.TermFacts.{AreArguments, IsArg-found, IsMade-terms, same-kind, term_with}

-- an output column that a reference stands for, by its name
record IsCalled (names : List (List ℕ)) (items : List Found) (name : List ℕ) (found : BoundArg × Kind) : Type 0 where
  item : Found
  only : called name names items ≡ item ∷ []
  is : as_argument item ≡ found

output-called : (names : List (List ℕ)) (items : List Found) (c : ColRef) (found : BoundArg × Kind) → output_columns names items c ≡ Ok found
    → IsCalled names items c.column.text found
output-called names items c found h = go c.alias refl where
  go : (alias : Option Name) → c.alias ≡ alias → IsCalled names items c.column.text found
  go (Some alias) e = let k = rw e at h in cc
  go None e =
      let k = rw e at h in
      let steps = Ok-steps (the_only c.column.at (called c.column.text names items)) (λ (item : Found). Ok (as_argument item)) found k in
      let same : as_argument steps.0 ≡ found = cc in
      record { item = steps.0; only = the_only-is c.column.at (called c.column.text names items) steps.0 steps.1; is = same }

-- what holds of each output column holds of those of a name
each-called : (P : Found → Type 0) (name : List ℕ) (names : List (List ℕ)) (items : List Found) → AllByRecursion P items
    → AllByRecursion P (called name names items)
each-called P name [] items h = tt
each-called P name (own ∷ names) [] h = tt
each-called P name (own ∷ names) (item ∷ items) h = go (bytes_eq own name) (each-called P name names items h.1) where
  go : (test : Bool) → AllByRecursion P (called name names items)
      → AllByRecursion P (if test then item ∷ called name names items else called name names items)
  go true others = (h.0, others)
  go false others = others

-- what a reference of a set query stands for is an argument of either block
pub AreArguments-output : (catalogue : CatalogDef) (block : Block) (names : List (List ℕ)) (items : List Found)
    → AllByRecursion (IsFound catalogue block) items → AreArguments catalogue block (output_columns names items)
AreArguments-output catalogue block names items are c found h =
    let is = output-called names items c found h in
    let each = subst (AllByRecursion (IsFound catalogue block)) is.only (each-called (IsFound catalogue block) c.column.text names items are) in
    subst (λ (f : BoundArg × Kind). IsArg catalogue block f.1 f.0) is.is (IsArg-found catalogue block is.item each.0)

-- two output columns of one name stand at one place
abbrev HavePlace : List Found → List Found → Found → Found → Type 0
HavePlace left right a b = (place : ℕ) × (slice_get left place ≡ Some a) × (slice_get right place ≡ Some b)

same-place : (name : List ℕ) (names : List (List ℕ)) (left right : List Found) (a b : Found) → called name names left ≡ a ∷ []
    → called name names right ≡ b ∷ [] → HavePlace left right a b
same-place name [] left right a b h k = cc
same-place name (own ∷ names) [] right a b h k = cc
same-place name (own ∷ names) (l ∷ left) [] a b h k = cc
same-place name (own ∷ names) (l ∷ left) (r ∷ right) a b h k = go (bytes_eq own name) (same-place name names left right a b) h k where
  go : (test : Bool) → (called name names left ≡ a ∷ [] → called name names right ≡ b ∷ [] → HavePlace left right a b)
      → (if test then l ∷ called name names left else called name names left) ≡ a ∷ []
      → (if test then r ∷ called name names right else called name names right) ≡ b ∷ [] → HavePlace (l ∷ left) (r ∷ right) a b
  go true others h k =
      let first : l ≡ a = cc in
      let second : r ≡ b = cc in
      (0, ap (λ x. Some x) first, ap (λ x. Some x) second)
  go false others h k = let found = others h k in (suc found.0, found.1, found.2)

-- the output columns of the two blocks
module _ (left right : Block) (names : List (List ℕ)) (lefts rights : List Found) (left_items : map (λ (item : Found). item.0) lefts ≡ left.items)
    (right_items : map (λ (item : Found). item.0) rights ≡ right.items) where
  abbrev in_left : Entries
  in_left = output_columns names lefts

  abbrev in_right : Entries
  in_right = output_columns names rights

  placed-item : (items : List Found) (columns : List (ℕ × ℕ)) (place : ℕ) (a : Found) → map (λ (item : Found). item.0) items ≡ columns
      → slice_get items place ≡ Some a → slice_get columns place ≡ Some a.0
  placed-item items columns place a same is =
      ap (λ (cs : List (ℕ × ℕ)). slice_get cs place) (sym same)
      ∙ (slice_get-map (λ (item : Found). item.0) items place ∙ ap (option_map (λ (item : Found). item.0)) is)

  same-columns : (a b : Found) → HavePlace lefts rights a b → AreSameArg left right (as_argument a).0 (as_argument b).0
  same-columns a b h = (h.0, placed-item lefts left.items h.0 a left_items h.1, placed-item rights right.items h.0 b right_items h.2)

  -- what a reference stands for in either block
  same-entries : (c : ColRef) (a b : BoundArg × Kind) → in_left c ≡ Ok a → in_right c ≡ Ok b → AreSameArg left right a.0 b.0
  same-entries c a b h k =
      let first = output-called names lefts c a h in
      let second = output-called names rights c b k in
      let place = same-place c.column.text names lefts rights first.item second.item first.only second.only in
      subst (λ (f : BoundArg × Kind). AreSameArg left right f.0 b.0) first.is
      (subst (λ (f : BoundArg × Kind). AreSameArg left right (as_argument first.item).0 f.0) second.is (same-columns first.item second.item place))

  -- what is made of two arguments of a kind
  same-of_kind : (wanted : Kind) (at : Span) (a b : BoundArg × Kind) (made other : BoundArg) → AreSameArg left right a.0 b.0
      → of_kind wanted at a ≡ Ok made → of_kind wanted at b ≡ Ok other → AreSameArg left right made other
  same-of_kind wanted at a b made other is h k =
      let first = Ok-test (is_kind wanted (Some a.1)) (Ok a.0) (At WrongKind at) made h in
      let second = Ok-test (is_kind wanted (Some b.1)) (Ok b.0) (At WrongKind at) other k in
      let left_same : a.0 ≡ made = cc in
      let right_same : b.0 ≡ other = cc in
      subst (λ (m : BoundArg). AreSameArg left right m other) left_same (subst (AreSameArg left right a.0) right_same is)

  same-arg : (wanted : Kind) (a : Arg) (made other : BoundArg) → arg_of in_left wanted a ≡ Ok made → arg_of in_right wanted a ≡ Ok other
      → AreSameArg left right made other
  same-arg wanted (arg.Column c) made other h k =
      let first = Ok-steps (in_left c) (of_kind wanted (span_of_column c)) made h in
      let second = Ok-steps (in_right c) (of_kind wanted (span_of_column c)) other k in
      same-of_kind wanted (span_of_column c) first.0 second.0 made other (same-entries c first.0 second.0 first.1 second.1) first.2 second.2
  same-arg wanted (arg.Int n at) made other h k = same-of_kind wanted at (bound.Int n, kind.Int) (bound.Int n, kind.Int) made other refl h k
  same-arg wanted (arg.Text text at) made other h k = same-of_kind wanted at (bound.Text text, kind.Text) (bound.Text text, kind.Text) made other refl h k

  same-args : (kinds : List Kind) (args : List Arg) (made other : List BoundArg) → args_of in_left kinds args ≡ Ok made
      → args_of in_right kinds args ≡ Ok other → AreSameArgs left right made other
  same-args [] args made other h k =
      let first : [] ≡ made = cc in
      let second : [] ≡ other = cc in
      subst (λ (m : List BoundArg). AreSameArgs left right m other) first (subst (AreSameArgs left right []) second tt)
  same-args (wanted ∷ kinds) [] made other h k =
      let first : [] ≡ made = cc in
      let second : [] ≡ other = cc in
      subst (λ (m : List BoundArg). AreSameArgs left right m other) first (subst (AreSameArgs left right []) second tt)
  same-args (wanted ∷ kinds) (a ∷ args) made other h k =
      let first = Ok-steps (arg_of in_left wanted a) (λ b. args_of in_left kinds args >>= λ bs. Ok (b ∷ bs)) made h in
      let rest = Ok-steps (args_of in_left kinds args) (λ bs. Ok (first.0 ∷ bs)) made first.2 in
      let first' = Ok-steps (arg_of in_right wanted a) (λ b. args_of in_right kinds args >>= λ bs. Ok (b ∷ bs)) other k in
      let rest' = Ok-steps (args_of in_right kinds args) (λ bs. Ok (first'.0 ∷ bs)) other first'.2 in
      let left_same : first.0 ∷ rest.0 ≡ made = cc in
      let right_same : first'.0 ∷ rest'.0 ≡ other = cc in
      subst (λ (m : List BoundArg). AreSameArgs left right m other) left_same
      (subst (AreSameArgs left right (first.0 ∷ rest.0)) right_same
      (same-arg wanted a first.0 first'.0 first.1 first'.1, same-args kinds args rest.0 rest'.0 rest.1 rest'.1))

  -- the arguments of a term are what `args_of` makes
  made-args : (entries : Entries) (kinds : List Kind) (args : List Arg) (at : Span) (made : List BoundArg) → term_args entries kinds args at ≡ Ok made
      → args_of entries kinds args ≡ Ok made
  made-args entries kinds args at made h =
      let made_of = args_of entries kinds args in
      let count = Ok-test (length args == length kinds) (made_of >>= λ bs. if list_any is_column bs then Ok bs else Err (At ConstantTerm at)) (At WrongCount at) made h in
      let steps = Ok-steps made_of (λ bs. if list_any is_column bs then Ok bs else Err (At ConstantTerm at)) made count.1 in
      let test = Ok-test (list_any is_column steps.0) (Ok steps.0) (At ConstantTerm at) made steps.2 in
      cc

  same-terms : (catalogue : CatalogDef) (before : ℕ) (written : List TermSyn) (made other : List Term)
      → terms_behind catalogue in_left None before written ≡ Ok made → terms_behind catalogue in_right None before written ≡ Ok other
      → AreSameTerms left right made other
  same-terms catalogue before [] made other h k =
      let first : [] ≡ made = cc in
      let second : [] ≡ other = cc in
      subst (λ (m : List Term). AreSameTerms left right m other) first (subst (AreSameTerms left right []) second tt)
  same-terms catalogue before (term ∷ rest) made other h k =
      let a = IsMade-terms catalogue in_left None before term rest made h in
      let b = IsMade-terms catalogue in_right None before term rest other k in
      let same_weight : a.weight ≡ b.weight = cc (a.is_weight, b.is_weight) in
      let same_predicate : a.predicate ≡ b.predicate = cc (a.is_predicate, b.is_predicate) in
      let made_left = made-args in_left (params_in catalogue a.predicate) term.args term.at a.args a.is_args in
      let made_right : args_of in_right (params_in catalogue a.predicate) term.args ≡ Ok b.args =
      ap (λ p. args_of in_right (params_in catalogue p) term.args) same_predicate
      ∙ made-args in_right (params_in catalogue b.predicate) term.args term.at b.args b.is_args in
      let first : AreSameTerm left right (term_with catalogue a.weight a.predicate a.args) (term_with catalogue b.weight b.predicate b.args) = record {
        weight = same_weight;
        predicate = same_predicate;
        max = ap (λ p. (term_with catalogue a.weight p a.args).max) same_predicate;
        args = same-args (params_in catalogue a.predicate) term.args a.args b.args made_left made_right;
      } in
      subst (λ (m : List Term). AreSameTerms left right m other) a.is
      (subst (AreSameTerms left right (term_with catalogue a.weight a.predicate a.args ∷ a.more)) b.is
      (first, same-terms catalogue (suc before) rest a.more b.more a.is_more b.is_more))

  pub terms_of-same : (catalogue : CatalogDef) (written : List TermSyn) (made other : List Term) → terms_of catalogue in_left None written ≡ Ok made
      → terms_of catalogue in_right None written ≡ Ok other → AreSameTerms left right made other
  terms_of-same catalogue written made other h k = same-terms catalogue 0 written made other h k

-- the kinds of the output columns of two blocks
kinds-found : (catalogue : CatalogDef) (block : Block) (items : List Found) → AllByRecursion (IsFound catalogue block) items
    → map (column_kind catalogue block) (map (λ (item : Found). item.0) items) ≡ map (λ (item : Found). Some item.1) items
kinds-found catalogue block [] h = refl
kinds-found catalogue block (item ∷ items) h = λ i. h.0.has_kind i ∷ kinds-found catalogue block items h.1 i

kinds-agree : (left right : List Found) → agree left right ≡ true
    → map (λ (item : Found). Some item.1) left ≡ map (λ (item : Found). Some item.1) right
kinds-agree [] [] h = refl
kinds-agree [] (b ∷ right) h = cc
kinds-agree (a ∷ left) [] h = cc
kinds-agree (a ∷ left) (b ∷ right) h =
    let parts = parts_true (is_kind a.1 (Some b.1)) (agree left right) h in
    λ i. Some (sym (same-kind a.1 b.1 parts.0) i) ∷ kinds-agree left right parts.1 i

pub same-kinds : (catalogue : CatalogDef) (left right : Block) (lefts rights : List Found) → AllByRecursion (IsFound catalogue left) lefts
    → AllByRecursion (IsFound catalogue right) rights → agree lefts rights ≡ true
    → map (column_kind catalogue left) (map (λ (item : Found). item.0) lefts) ≡ map (column_kind catalogue right) (map (λ (item : Found). item.0) rights)
same-kinds catalogue left right lefts rights h k test =
    kinds-found catalogue left lefts h ∙ (kinds-agree lefts rights test ∙ sym (kinds-found catalogue right rights k))
