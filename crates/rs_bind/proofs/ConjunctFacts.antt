-- The conjuncts of a WHERE condition are well formed.
use Rattle.std.proofs.Common.{ℕ, suc, ◌≡◌, ◌≤◌, true, List, [], ◌∷◌, length, drop, refl, sym, subst, ap, arith, length-drop}
use Rattle.std.specs.Prelude.{Option, Some, None, Result, Ok, Err}
use Rattle.std.specs.List.{AllByRecursion}
use Rattle.rs_value.specs.declared.kind.Kind.{Kind}
use Rattle.rs_value.specs.declared.kind.Kind.TheVariants as kind
use Rattle.rs_syntax.specs.declared.name.ColRef.{ColRef}
use Rattle.rs_syntax.specs.Syntax.{Expression}
use Rattle.rs_value.specs.Results.{◌>>=◌}
use Rattle.rs_expr.specs.Formulas.{Condition}
use Rattle.rs_expr.specs.Uses.{is_kind}
use Rattle.rs_catalog.specs.Catalog.{CatalogDef}
use Rattle.rs_query.specs.declared.block.Block.{Block}
use Rattle.rs_query.specs.Conjuncts.{ConjunctDef}
use Rattle.rs_query.specs.WellFormed.{IsColumn, IsConjunct, has_kind}
use Rattle.rs_typing.specs.declared.fault.BindFault.{BindFault}
use Rattle.rs_typing.specs.Typing.{Scope, Typed, Number, Words, Truth, span_of, as_truth, type_of}
use Rattle.rs_typing.proofs.ResultFacts.{same_Ok, well}
use Rattle.rs_typing.proofs.StepFacts.{Ok-steps}
use Rattle.rs_typing.proofs.UsesFacts.{type_of-uses}
use Rattle.rs_bind.specs.Conditions.{condition_over, conjunct_in, conjunct_of, conjuncts_in, conjuncts_of, few_parts, filter_of, most_conjuncts, named_columns, own_places, parts_of_and, places_in}
use Rattle.rs_bind.specs.Narrow.{IsNarrow}
use Rattle.rs_bind.specs.Sources.{Source, sources_of}
use Rattle.rs_bind.proofs.ColumnFacts.{IsColumn-found, column_in-found}
use Rattle.rs_bind.proofs.ReferenceFacts.{AreDistinct-named, IsPlace-found, each-named-column}

-- few parts
few-parts : (parts : List Expression) → few_parts parts ≡ Ok tt → length parts ≤ 32
few-parts parts h = go (drop most_conjuncts parts) refl where
  go : (more : List Expression) → drop most_conjuncts parts ≡ more → length parts ≤ 32
  go [] e = let none : length (drop 32 parts) ≡ 0 = ap length e in omega (arith, none, length-drop 32 parts)
  go (x ∷ more) e = let k = rw e at h in cc

typed-truth : (scope : Scope) (x : Expression) (condition : Condition) → (type_of scope x >>= as_truth (span_of x)) ≡ Ok condition
    → type_of scope x ≡ Ok (Truth condition)
typed-truth scope x condition h = go (type_of scope x) h where
  go : (typed : Result Typed BindFault) → (typed >>= as_truth (span_of x)) ≡ Ok condition → typed ≡ Ok (Truth condition)
  go (Ok (Number f)) e = cc
  go (Ok (Words side)) e = cc
  go (Ok (Truth c)) e = cc
  go (Err fault) e = cc

is_kind-same : (k : Kind) → is_kind k (Some k) ≡ true
is_kind-same kind.Int = refl
is_kind-same kind.Text = refl

module _ (catalogue : CatalogDef) (block : Block) where
  abbrev sources : List Source
  sources = sources_of catalogue block.from

  -- the argument that a reference stands for is a column of its kind
  place-kind : (columns : List (ℕ × ℕ)) (c : ColRef) (found : ℕ × Kind) → places_in columns sources c ≡ Ok found
      → has_kind catalogue block columns found.1 found.0 ≡ true
  place-kind columns c found h =
      let p = IsPlace-found columns sources c found h in
      let of_block = column_in-found catalogue block c p.column p.is_column in
      rw (p.place, of_block.has_kind, p.has_kind) (is_kind-same found.1)

  IsConjunct-of : (x : Expression) (made : ConjunctDef) → IsNarrow made → conjunct_in sources x ≡ Ok made → IsConjunct catalogue block made
  IsConjunct-of x made narrow h =
      let own = named_columns sources x in
      let steps = Ok-steps (condition_over own sources x) (λ c. well (conjunct_of own c)) made h in
      let typed = typed-truth (own_places sources x) x steps.0 steps.1 in
      let same = same_Ok (conjunct_of own steps.0) made steps.2 in
      let own_narrow : IsNarrow (conjunct_of own steps.0) = subst IsNarrow (sym same) narrow in
      subst (IsConjunct catalogue block) same (record {
        columns = each-named-column (IsColumn catalogue block) sources x
            (λ c found is. IsColumn-found catalogue block found (column_in-found catalogue block c found is));
        distinct = AreDistinct-named sources x;
        entries = refl;
        uses = type_of-uses (has_kind catalogue block own) (own_places sources x) (place-kind own) x (Truth steps.0) typed;
        narrow = own_narrow;
        equality = refl;
      })

  -- as many conjuncts as parts
  record AreOf (parts : List Expression) (made : List ConjunctDef) : Type 0 where
    count : length made ≡ length parts
    each : AllByRecursion (IsConjunct catalogue block) made

  AreOf-conjuncts : (parts : List Expression) (made : List ConjunctDef) → AllByRecursion IsNarrow made → conjuncts_of sources parts ≡ Ok made
      → AreOf parts made
  AreOf-conjuncts [] made narrow h =
      let same = same_Ok {A = List ConjunctDef} [] made h in
      subst (AreOf []) same (record { count = refl; each = tt })
  AreOf-conjuncts (x ∷ parts) made narrow h =
      let first = Ok-steps (conjunct_in sources x) (λ one. conjuncts_of sources parts >>= λ rest. well (one ∷ rest)) made h in
      let rest = Ok-steps (conjuncts_of sources parts) (λ more. well (first.0 ∷ more)) made first.2 in
      let same = same_Ok (first.0 ∷ rest.0) made rest.2 in
      let each_narrow : AllByRecursion IsNarrow (first.0 ∷ rest.0) = subst (AllByRecursion IsNarrow) (sym same) narrow in
      let others = AreOf-conjuncts parts rest.0 each_narrow.1 rest.1 in
      subst (AreOf (x ∷ parts)) same
      (record { count = ap suc others.count; each = (IsConjunct-of x first.0 each_narrow.0 first.1, others.each) })

  -- the conjuncts of a block
  pub record AreConjuncts (made : List ConjunctDef) : Type 0 where
    pub most : length made ≤ 32
    pub each : AllByRecursion (IsConjunct catalogue block) made

  conjuncts_in-formed : (x : Expression) (made : List ConjunctDef) → AllByRecursion IsNarrow made → conjuncts_in sources x ≡ Ok made → AreConjuncts made
  conjuncts_in-formed x made narrow h =
      let behind = λ (whole : ConjunctDef). few_parts (parts_of_and x) >>= λ few. conjuncts_of sources (parts_of_and x) in
      let first = Ok-steps (conjunct_in sources x) behind made h in
      let second = Ok-steps (few_parts (parts_of_and x)) (λ few. conjuncts_of sources (parts_of_and x)) made first.2 in
      let are = AreOf-conjuncts (parts_of_and x) made narrow second.2 in
      let most : length (parts_of_and x) ≤ 32 = few-parts (parts_of_and x) second.1 in
      let count = are.count in
      record { most = omega (arith, count, most); each = are.each }

  pub filter_of-formed : (filter : Option Expression) (made : List ConjunctDef) → AllByRecursion IsNarrow made → filter_of sources filter ≡ Ok made
      → AreConjuncts made
  filter_of-formed None made narrow h = let same : [] ≡ made = cc in subst AreConjuncts same (record { most = omega arith; each = tt })
  filter_of-formed (Some x) made narrow h = conjuncts_in-formed x made narrow h
