-- The terms of ORDER BY.
use Rattle.std.proofs.Common.{ℕ, suc, ◌≡◌, ◌≤◌, ◌+◌, ◌==◌, true, false, ◌&&◌, List, [], ◌∷◌, length, refl, subst, ap, arith}
use Rattle.std.specs.Prelude.{ℤ, pos, negsuc, nat_le, Option, Some, None, option_map, unwrap_or, Ok, Err, if◌then◌else◌}
use Rattle.std.specs.List.{AllByRecursion, list_any}
use Rattle.std.proofs.lemmas.Bool.Decides.{nat_tests}
use Rattle.rs_value.specs.declared.kind.Kind.{Kind}
use Rattle.rs_value.specs.declared.kind.Kind.TheVariants as kind
use Rattle.rs_lex.specs.declared.token.Span.{Span}
use Rattle.rs_syntax.specs.declared.name.Arg.{Arg}
use Rattle.rs_syntax.specs.declared.name.Arg.TheVariants as arg
use Rattle.rs_syntax.specs.declared.name.ColRef.{ColRef}
use Rattle.rs_syntax.specs.declared.select.TermSyn.{TermSyn}
use Rattle.rs_value.specs.Results.{◌>>=◌}
use Rattle.rs_expr.specs.Predicates.{PredicateDef}
use Rattle.rs_expr.specs.Uses.{is_kind}
use Rattle.rs_catalog.specs.Catalog.{CatalogDef, number_named}
use Rattle.rs_catalog.specs.declared.index.BoundArg.{BoundArg}
use Rattle.rs_catalog.specs.declared.index.BoundArg.TheVariants as bound
use Rattle.rs_catalog.specs.declared.room.What.TheVariants as what
use Rattle.rs_query.specs.declared.block.Block.{Block}
use Rattle.rs_query.specs.declared.term.Term.{Term}
use Rattle.rs_query.specs.WellFormed.{AreArgs, IsArg, IsLimit, IsTerm, argument_columns, entries_mask}
use Rattle.rs_typing.specs.declared.fault.BindFault.TheVariants.{At}
use Rattle.rs_typing.specs.declared.fault.Why.TheVariants.{ConstantTerm, DistinctNeedsOutput, LimitOf, NoPredicate, WrongCount, WrongKind}
use Rattle.rs_typing.specs.Missing.{or_fault}
use Rattle.rs_typing.specs.Typing.{span_of_column}
use Rattle.rs_bind.specs.Indexes.{Entries, arg_of, args_of, is_column, of_kind, params_in, term_args}
use Rattle.rs_bind.specs.Names.{number_in}
use Rattle.rs_bind.specs.Queries.{are_outputs, as_argument, block_columns, bound_limit, max_in, most_rows, most_weight, terms_behind, terms_of}
use Rattle.rs_bind.specs.Sources.{Found, column_in, sources_of}
use Rattle.rs_syntax.specs.Written.{AreWrittenArgs, IsWrittenArg, IsWrittenTerm}
use Rattle.rs_typing.proofs.ResultFacts.{Ok-else, same_Ok, well}
use Rattle.rs_typing.proofs.StepFacts.{Ok-steps, Ok-test, Ok-or_fault}
use Rattle.rs_bind.proofs.ColumnFacts.{IsColumn-found, IsFound, column_in-found}
use Rattle.rs_bind.proofs.PlaceFacts.{slice_get-numbered}

-- a number in its limits
number_in-within : (least most : ℕ) (number : ℤ × Span) (n : ℕ) → number_in least most number ≡ Ok n → (least ≤ n) × (n ≤ most)
number_in-within least most (pos m, at) n h =
    let test = Ok-test (nat_le least m && nat_le m most) (Ok m) (At LimitOf at) n h in
    let same : m ≡ n = cc in
    subst (λ k. (least ≤ k) × (k ≤ most)) same (grind (arith, nat_tests, test.0), grind (arith, nat_tests, test.0))
number_in-within least most (negsuc m, at) n h = cc

pub IsLimit-limit_of : (limit : Option (ℤ × Span)) (made : Option ℕ) → bound_limit limit ≡ Ok made → IsLimit made
IsLimit-limit_of None made h = let same : None ≡ made = cc in subst IsLimit same tt
IsLimit-limit_of (Some limit) made h =
    let steps = Ok-steps (number_in 0 most_rows limit) (λ n. Ok (Some n)) made h in
    let same : Some steps.0 ≡ made = cc in
    subst IsLimit same (number_in-within 0 most_rows limit steps.0 steps.1).1

pub same-kind : (wanted own : Kind) → is_kind wanted (Some own) ≡ true → own ≡ wanted
same-kind kind.Int kind.Int h = refl
same-kind kind.Text kind.Text h = refl
same-kind kind.Int kind.Text h = cc
same-kind kind.Text kind.Int h = cc

-- a column that was found as an argument
pub IsArg-found : (catalogue : CatalogDef) (block : Block) (found : Found) → IsFound catalogue block found
    → IsArg catalogue block (as_argument found).1 (as_argument found).0
IsArg-found catalogue block found h = (IsColumn-found catalogue block found h, h.has_kind)

-- what a reference stands for is an argument of the block
abbrev pub AreArguments : CatalogDef → Block → Entries → Type 0
AreArguments catalogue block entries = (c : ColRef) (found : BoundArg × Kind) → entries c ≡ Ok found → IsArg catalogue block found.1 found.0

pub AreArguments-block : (catalogue : CatalogDef) (block : Block) → AreArguments catalogue block (block_columns (sources_of catalogue block.from))
AreArguments-block catalogue block c found h =
    let steps = Ok-steps (column_in (sources_of catalogue block.from) c) (λ column. Ok (as_argument column)) found h in
    let same : as_argument steps.0 ≡ found = cc in
    subst (λ (f : BoundArg × Kind). IsArg catalogue block f.1 f.0) same (IsArg-found catalogue block steps.0 (column_in-found catalogue block c steps.0 steps.1))

-- the term of this weight, predicate and arguments
abbrev pub term_with : CatalogDef → ℕ → ℕ → List BoundArg → Term
term_with catalogue weight predicate args =
    record { weight = weight; predicate = predicate; args = args; max = max_in catalogue predicate; entries = entries_mask (argument_columns args) }

-- where output columns are needed, the columns of an argument are such
pub record AreNeeded (needed : Option (List Found)) (term : Term) : Type 0 where
  pub outputs : are_outputs needed (argument_columns term.args) ≡ true

-- what the first one of some terms is made of
pub record IsMade (catalogue : CatalogDef) (entries : Entries) (needed : Option (List Found)) (before : ℕ) (term : TermSyn) (rest : List TermSyn) (made : List Term) : Type 0 where
  pub weight : ℕ
  pub predicate : ℕ
  pub args : List BoundArg
  pub more : List Term
  pub past : (before == 8) ≡ false
  pub is_weight : number_in 1 most_weight term.weight ≡ Ok weight
  pub is_predicate : number_named what.Predicate term.predicate.text catalogue ≡ Some predicate
  pub is_args : term_args entries (params_in catalogue predicate) term.args term.at ≡ Ok args
  pub outputs : are_outputs needed (argument_columns args) ≡ true
  pub is_more : terms_behind catalogue entries needed (suc before) rest ≡ Ok more
  pub is : term_with catalogue weight predicate args ∷ more ≡ made

pub IsMade-terms : (catalogue : CatalogDef) (entries : Entries) (needed : Option (List Found)) (before : ℕ) (term : TermSyn) (rest : List TermSyn) (made : List Term)
    → terms_behind catalogue entries needed before (term ∷ rest) ≡ Ok made → IsMade catalogue entries needed before term rest made
IsMade-terms catalogue entries needed before term rest made h =
    let weight = number_in 1 most_weight term.weight in
    let no_predicate = At NoPredicate term.predicate.at in
    let number = number_named what.Predicate term.predicate.text catalogue in
    let needs = At DistinctNeedsOutput term.at in
    let behind = terms_behind catalogue entries needed (suc before) rest in
    let of_args = λ (w p : ℕ) (args : List BoundArg) (more : List Term). well (term_with catalogue w p args ∷ more) in
    let after_args = λ (w p : ℕ) (args : List BoundArg). (if are_outputs needed (argument_columns args) then behind else Err needs) >>= of_args w p args in
    let after_predicate = λ (w p : ℕ). term_args entries (params_in catalogue p) term.args term.at >>= after_args w p in
    let after_weight = λ (w : ℕ). or_fault no_predicate number >>= after_predicate w in
    let past = Ok-else (before == 8) (weight >>= after_weight) (At LimitOf term.at) made h in
    let first = Ok-steps weight after_weight made past.1 in
    let second = Ok-steps (or_fault no_predicate number) (after_predicate first.0) made first.2 in
    let third = Ok-steps (term_args entries (params_in catalogue second.0) term.args term.at) (after_args first.0 second.0) made second.2 in
    let fourth = Ok-steps (if are_outputs needed (argument_columns third.0) then behind else Err needs) (of_args first.0 second.0 third.0) made third.2 in
    let test = Ok-test (are_outputs needed (argument_columns third.0)) behind needs fourth.0 fourth.1 in
    let same = same_Ok (term_with catalogue first.0 second.0 third.0 ∷ fourth.0) made fourth.2 in
    record {
      weight = first.0;
      predicate = second.0;
      args = third.0;
      more = fourth.0;
      past = past.0;
      is_weight = first.1;
      is_predicate = Ok-or_fault no_predicate number second.0 second.1;
      is_args = third.1;
      outputs = test.0;
      is_more = test.1;
      is = same;
    }

module _ (catalogue : CatalogDef) (block : Block) (entries : Entries) (are : AreArguments catalogue block entries) where
  -- an argument is one for its parameter
  of_kind-fits : (wanted : Kind) (at : Span) (found : BoundArg × Kind) (made : BoundArg) → IsArg catalogue block found.1 found.0
      → of_kind wanted at found ≡ Ok made → IsArg catalogue block wanted made
  of_kind-fits wanted at found made is h =
      let test = Ok-test (is_kind wanted (Some found.1)) (Ok found.0) (At WrongKind at) made h in
      let own = same-kind wanted found.1 test.0 in
      let same : found.0 ≡ made = cc in
      subst (IsArg catalogue block wanted) same (subst (λ k. IsArg catalogue block k found.0) own is)

  arg-fits : (wanted : Kind) (a : Arg) (made : BoundArg) → IsWrittenArg a → arg_of entries wanted a ≡ Ok made → IsArg catalogue block wanted made
  arg-fits wanted (arg.Column c) made written h =
      let steps = Ok-steps (entries c) (of_kind wanted (span_of_column c)) made h in
      of_kind-fits wanted (span_of_column c) steps.0 made (are c steps.0 steps.1) steps.2
  arg-fits wanted (arg.Int n at) made written h = of_kind-fits wanted at (bound.Int n, kind.Int) made written h
  arg-fits wanted (arg.Text text at) made written h = of_kind-fits wanted at (bound.Text text, kind.Text) made tt h

  args-fit : (kinds : List Kind) (args : List Arg) (made : List BoundArg) → AreWrittenArgs args → length args ≡ length kinds
      → args_of entries kinds args ≡ Ok made → AreArgs catalogue block kinds made
  args-fit [] args made written many h = let same : [] ≡ made = cc in subst (AreArgs catalogue block []) same tt
  args-fit (wanted ∷ kinds) [] made written many h = absurd (omega (arith, many))
  args-fit (wanted ∷ kinds) (a ∷ args) made written many h =
      let first = Ok-steps (arg_of entries wanted a) (λ b. args_of entries kinds args >>= λ bs. Ok (b ∷ bs)) made h in
      let rest = Ok-steps (args_of entries kinds args) (λ bs. Ok (first.0 ∷ bs)) made first.2 in
      let same : first.0 ∷ rest.0 ≡ made = cc in
      subst (AreArgs catalogue block (wanted ∷ kinds)) same
      (arg-fits wanted a first.0 written.0 first.1, args-fit kinds args rest.0 written.1 (omega (arith, many)) rest.1)

  some-column : (args : List BoundArg) → list_any is_column args ≡ true → 1 ≤ length (argument_columns args)
  some-column [] h = cc
  some-column (bound.Column entry column ∷ args) h = omega arith
  some-column (bound.Int n ∷ args) h = some-column args h
  some-column (bound.Text t ∷ args) h = some-column args h

  -- the arguments of a term
  record AreTermArgs (kinds : List Kind) (made : List BoundArg) : Type 0 where
    fit : AreArgs catalogue block kinds made
    some : 1 ≤ length (argument_columns made)

  term_args-fit : (kinds : List Kind) (args : List Arg) (at : Span) (made : List BoundArg) → AreWrittenArgs args → term_args entries kinds args at ≡ Ok made
      → AreTermArgs kinds made
  term_args-fit kinds args at made written h =
      let made_of = args_of entries kinds args in
      let count = Ok-test (length args == length kinds) (made_of >>= λ bs. if list_any is_column bs then Ok bs else Err (At ConstantTerm at)) (At WrongCount at) made h in
      let steps = Ok-steps made_of (λ bs. if list_any is_column bs then Ok bs else Err (At ConstantTerm at)) made count.1 in
      let test = Ok-test (list_any is_column steps.0) (Ok steps.0) (At ConstantTerm at) made steps.2 in
      let same : steps.0 ≡ made = cc in
      let many : length args ≡ length kinds = grind (arith, nat_tests, count.0) in
      subst (AreTermArgs kinds) same (record { fit = args-fit kinds args steps.0 written many steps.1; some = some-column steps.0 test.0 })

  -- a term of such arguments
  term-fits : (weight : ℤ × Span) (name : List ℕ) (w p : ℕ) (made : List BoundArg) → number_in 1 most_weight weight ≡ Ok w
      → number_named what.Predicate name catalogue ≡ Some p → AreTermArgs (params_in catalogue p) made
      → IsTerm catalogue block (term_with catalogue w p made)
  term-fits weight name w p made is_weight is_predicate fits =
      let called = slice_get-numbered (λ p. p.name) catalogue.predicates name p is_predicate in
      let is_params : params_in catalogue p ≡ called.0.params = ap (λ o. unwrap_or (option_map (λ (q : PredicateDef). q.params) o) []) called.1 in
      let is_max : max_in catalogue p ≡ called.0.max = ap (λ o. unwrap_or (option_map (λ (q : PredicateDef). q.max) o) 0) called.1 in
      let within = number_in-within 1 most_weight weight w is_weight in
      record {
        predicate = called.0;
        has_predicate = called.1;
        args = subst (λ kinds. AreArgs catalogue block kinds made) is_params fits.fit;
        some_column = fits.some;
        entries = refl;
        some_weight = within.0;
        most_weight = within.1;
        max = omega (arith, is_max);
      }

  -- terms behind this many others
  pub record AreTerms (needed : Option (List Found)) (before : ℕ) (made : List Term) : Type 0 where
    pub most : before + length made ≤ 8
    pub each : AllByRecursion (IsTerm catalogue block) made
    pub outputs : AllByRecursion (AreNeeded needed) made

  terms : (needed : Option (List Found)) (before : ℕ) (written : List TermSyn) (made : List Term) → AllByRecursion IsWrittenTerm written → before ≤ 8
      → terms_behind catalogue entries needed before written ≡ Ok made → AreTerms needed before made
  terms needed before [] made are_written most h =
      let same : [] ≡ made = cc in
      subst (AreTerms needed before) same (record { most = omega (arith, most); each = tt; outputs = tt })
  terms needed before (term ∷ rest) made are_written most h =
      let first = IsMade-terms catalogue entries needed before term rest made h in
      let past = first.past in
      let room : suc before ≤ 8 = grind (arith, nat_tests, past) in
      let others = terms needed (suc before) rest first.more are_written.1 room first.is_more in
      let fits = term_args-fit (params_in catalogue first.predicate) term.args term.at first.args are_written.0 first.is_args in
      let behind = others.most in
      subst (AreTerms needed before) first.is (record {
        most = omega (arith, behind);
        each = (term-fits term.weight term.predicate.text first.weight first.predicate first.args first.is_weight first.is_predicate fits, others.each);
        outputs = (record { outputs = first.outputs }, others.outputs);
      })

  pub terms_of-formed : (needed : Option (List Found)) (written : List TermSyn) (made : List Term) → AllByRecursion IsWrittenTerm written
      → terms_of catalogue entries needed written ≡ Ok made → AreTerms needed 0 made
  terms_of-formed needed written made are_written h = terms needed 0 written made are_written (omega arith) h
