-- A query is typed, and refused, by its rules.
use Rattle.std.proofs.Common.{ℕ, suc, ◌≡◌, ◌≢◌, ◌==◌, Bool, true, false, ◌||◌, List, [], ◌∷◌, length, refl, sym, subst, ap, ◌∙◌, inl, inr}
use Rattle.std.specs.Prelude.{◌↔◌, ℤ, Option, Some, None, Result, Ok, Err, if◌then◌else◌}
use Rattle.std.specs.List.{list_any}
use Rattle.std.specs.Str.{bytes_eq}
use Rattle.rs_value.specs.declared.kind.Kind.{Kind}
use Rattle.rs_lex.specs.declared.token.Span.{Span}
use Rattle.rs_syntax.specs.declared.name.Arg.{Arg}
use Rattle.rs_syntax.specs.declared.name.Arg.TheVariants as arg
use Rattle.rs_syntax.specs.declared.name.ColRef.{ColRef}
use Rattle.rs_syntax.specs.declared.name.Name.{Name}
use Rattle.rs_value.specs.declared.set_op.SetOp.{SetOp}
use Rattle.rs_syntax.specs.declared.select.TermSyn.{TermSyn}
use Rattle.rs_syntax.specs.Syntax as syntax
use Rattle.rs_value.specs.Results.{◌>>=◌}
use Rattle.rs_expr.specs.Uses.{is_kind}
use Rattle.rs_catalog.specs.Catalog.{CatalogDef, number_named}
use Rattle.rs_catalog.specs.declared.index.BoundArg.{BoundArg}
use Rattle.rs_catalog.specs.declared.room.What.TheVariants as what
use Rattle.rs_query.specs.Tops.{with_tops}
use Rattle.rs_query.specs.WellFormed.{argument_columns, entries_mask}
use Rattle.rs_query.specs.declared.query.Query.{Query}
use Rattle.rs_query.specs.declared.query.Query.TheVariants.{One, Set}
use Rattle.rs_query.specs.declared.term.Term.{Term}
use Rattle.rs_typing.specs.declared.fault.BindFault.{BindFault}
use Rattle.rs_typing.specs.declared.fault.BindFault.TheVariants.{At}
use Rattle.rs_typing.specs.declared.fault.Why.TheVariants.{DistinctNeedsOutput, LimitOf, NoPredicate, SetColumnsDiffer, WrongKind}
use Rattle.rs_typing.specs.Missing.{or_fault}
use Rattle.rs_typing.specs.Typing.{span_of_column}
use Rattle.rs_typing.proofs.EachFacts.{both_true, parts_true}
use Rattle.rs_typing.proofs.ResultFacts.{Ok-else, same_Ok, well}
use Rattle.rs_typing.proofs.StepFacts.{Err-steps, Ok-or_fault, Ok-steps, Ok-test}
use Rattle.rs_bind.specs.ArgumentRules.{IsWithin, TypesArgs}
use Rattle.rs_bind.specs.BlockRules.{TypesBlock}
use Rattle.rs_bind.specs.Indexes.{Entries, arg_of, args_of, is_column, of_kind, params_in, term_args}
use Rattle.rs_bind.specs.InOrder.{Each, none, and}
use Rattle.rs_bind.specs.Names.{number_in}
use Rattle.rs_bind.specs.Queries.{Unranked, agree, are_outputs, as_argument, bound_query, typed_query, called, first_item, bound_limit, most_rows, most_weight, output_names, needed_by, one_of, output_columns, set_of, terms_behind, terms_of, unranked_of, with_terms}
use Rattle.rs_bind.specs.QueryRules.{HasPredicate, RefusedLimit, RefusedQuery, RefusedTerm, RefusedTerms, TypesLimit, TypesQuery, TypesTerm, TypesTerms, columns_in, outputs_in}
use Rattle.rs_bind.specs.QueryRules.{too_many, wrong_weight, no_predicate, in_args, no_output, no_limit, within, outside, one_block, two_blocks, in_left, in_right, differ, in_terms, in_set_terms, in_limit, in_set_limit}
use Rattle.rs_bind.specs.Sources.{Found, the_only}
use Rattle.rs_bind.proofs.ArgumentRuleFacts.{args-are, args-typed, outside-is, outside-refused, term_args-are, term_args-are_refused, term_args-refused, term_args-typed, within-is, within-typed}
use Rattle.rs_bind.proofs.BlockRuleFacts.{block-is, block-is_refused, block-refused, block-typed}
use Rattle.rs_bind.proofs.ColumnFacts.{the_only-is}
use Rattle.rs_bind.proofs.InOrderFacts.{Each-steps, FirstRefused-steps, Follows, steps, steps-Each, steps-FirstRefused}
use Rattle.rs_bind.proofs.TermFacts.{same-kind, term_with}
use Rattle.rs_bind.proofs.TestFacts.{Err-else, Err-or_fault, Err-test, apart-test, equal-test, is-apart, is-equal}

-- terms
module _ (catalogue : CatalogDef) (entries : Entries) (needed : Option (List Found)) where
  abbrev params_of : ℕ → List Kind
  params_of predicate = params_in catalogue predicate

  abbrev behind_args : TermSyn → ℕ → ℕ → List BoundArg → Result Term BindFault
  behind_args term w predicate made =
      if are_outputs needed (argument_columns made) then well (term_with catalogue w predicate made) else Err (At DistinctNeedsOutput term.at)

  abbrev predicate_of : TermSyn → Result ℕ BindFault
  predicate_of term = or_fault (At NoPredicate term.predicate.at) (number_named what.Predicate term.predicate.text catalogue)

  abbrev behind_predicate : TermSyn → ℕ → ℕ → Result Term BindFault
  behind_predicate term w predicate = term_args entries (params_of predicate) term.args term.at >>= behind_args term w predicate

  abbrev behind_weight : TermSyn → ℕ → Result Term BindFault
  behind_weight term w = predicate_of term >>= behind_predicate term w

  abbrev behind_room : TermSyn → Result Term BindFault
  behind_room term = number_in 1 most_weight term.weight >>= behind_weight term

  abbrev term_step : List Term → TermSyn → Result Term BindFault
  term_step before term = if length before == 8 then Err (At LimitOf term.at) else behind_room term

  -- what is known of a term up to its predicate
  predicated : (before : List Term) (term : TermSyn) (w predicate : ℕ) → (length before == 8) ≡ false → number_in 1 most_weight term.weight ≡ Ok w
      → predicate_of term ≡ Ok predicate → HasPredicate catalogue before term predicate
  predicated before term w predicate room weighs is = record {
    room = is-apart (length before) 8 room;
    weight = w;
    is_weight = within-typed 1 most_weight term.weight w weighs;
    is_predicate = Ok-or_fault (At NoPredicate term.predicate.at) (number_named what.Predicate term.predicate.text catalogue) predicate is;
  }

  term-typed : (before : List Term) (term : TermSyn) (made : Term) → term_step before term ≡ Ok made → TypesTerm catalogue entries needed before term made
  term-typed before term made h =
      let past = Ok-else (length before == 8) (behind_room term) (At LimitOf term.at) made h in
      let first = Ok-steps (number_in 1 most_weight term.weight) (behind_weight term) made past.1 in
      let second = Ok-steps (predicate_of term) (behind_predicate term first.0) made first.2 in
      let third = Ok-steps (term_args entries (params_of second.0) term.args term.at) (behind_args term first.0 second.0) made second.2 in
      let test = Ok-test (are_outputs needed (argument_columns third.0)) (well (term_with catalogue first.0 second.0 third.0)) (At DistinctNeedsOutput term.at) made third.2 in
      let same = same_Ok (term_with catalogue first.0 second.0 third.0) made test.1 in
      let has = predicated before term first.0 second.0 past.0 first.1 second.1 in
      subst (TypesTerm catalogue entries needed before term) same (record {
        room = has.room;
        weight = within-typed 1 most_weight term.weight first.0 first.1;
        predicate = has.is_predicate;
        args = term_args-typed entries (params_of second.0) term.args term.at third.0 third.1;
        outputs = test.0;
        max = refl;
        entries_are = refl;
      })

  -- the steps of a term whose parts are known
  past-room : (before : List Term) (term : TermSyn) → length before ≢ 8 → term_step before term ≡ behind_room term
  past-room before term room = ap (λ b. if b then Err (At LimitOf term.at) else behind_room term) (apart-test (length before) 8 room)

  past-weight : (before : List Term) (term : TermSyn) (w : ℕ) → length before ≢ 8 → IsWithin 1 most_weight term.weight.0 w → term_step before term ≡ behind_weight term w
  past-weight before term w room weighs = past-room before term room ∙ ap (λ r. r >>= behind_weight term) (within-is 1 most_weight term.weight w weighs)

  past-predicate : (before : List Term) (term : TermSyn) (w predicate : ℕ) → length before ≢ 8 → IsWithin 1 most_weight term.weight.0 w
      → number_named what.Predicate term.predicate.text catalogue ≡ Some predicate → term_step before term ≡ behind_predicate term w predicate
  past-predicate before term w predicate room weighs is =
      past-weight before term w room weighs ∙ ap (λ p. or_fault (At NoPredicate term.predicate.at) p >>= behind_predicate term w) is

  past-args : (before : List Term) (term : TermSyn) (w predicate : ℕ) (made : List BoundArg) → length before ≢ 8 → IsWithin 1 most_weight term.weight.0 w
      → number_named what.Predicate term.predicate.text catalogue ≡ Some predicate → TypesArgs entries (params_of predicate) term.args made
      → term_step before term ≡ behind_args term w predicate made
  past-args before term w predicate made room weighs is args =
      past-predicate before term w predicate room weighs is
      ∙ ap (λ r. r >>= behind_args term w predicate) (term_args-are entries (params_of predicate) term.args term.at made args)

  term-is : (before : List Term) (term : TermSyn) (made : Term) → TypesTerm catalogue entries needed before term made → term_step before term ≡ Ok made
  term-is before term made t =
      past-args before term made.weight made.predicate made.args t.room t.weight t.predicate t.args
      ∙ (ap (λ b. if b then well (term_with catalogue made.weight made.predicate made.args) else Err (At DistinctNeedsOutput term.at)) t.outputs
      ∙ (ap (λ m. well (record { weight = made.weight; predicate = made.predicate; args = made.args; max = m; entries = entries_mask (argument_columns made.args) })) (sym t.max)
      ∙ ap (λ e. well (record { weight = made.weight; predicate = made.predicate; args = made.args; max = made.max; entries = e })) (sym t.entries_are)))

  term-refused : (before : List Term) (term : TermSyn) (fault : BindFault) → term_step before term ≡ Err fault → RefusedTerm catalogue entries needed before term fault
  term-refused before term fault h =
      elim (Err-else (length before == 8) (behind_room term) (At LimitOf term.at) fault h) [
        | inl full ↦ subst (RefusedTerm catalogue entries needed before term) full.1 (too_many (is-equal (length before) 8 full.0))
        | inr past ↦ elim (Err-steps (number_in 1 most_weight term.weight) (behind_weight term) fault past.1) [
          | inl refuses ↦ (let out = outside-refused 1 most_weight term.weight fault refuses in
              subst (RefusedTerm catalogue entries needed before term) out.1 (wrong_weight (is-apart (length before) 8 past.0) out.0))
          | inr first ↦ elim (Err-steps (predicate_of term) (behind_predicate term first.0) fault first.2) [
            | inl refuses ↦ (let missing = Err-or_fault (At NoPredicate term.predicate.at) fault (number_named what.Predicate term.predicate.text catalogue) refuses in
                subst (RefusedTerm catalogue entries needed before term) missing.1
                (no_predicate first.0 (is-apart (length before) 8 past.0) (within-typed 1 most_weight term.weight first.0 first.1) missing.0))
            | inr second ↦ behind_known first.0 second.0 (predicated before term first.0 second.0 past.0 first.1 second.1) second.2
          ]
        ]
      ] where
        behind_known : (w predicate : ℕ) → HasPredicate catalogue before term predicate → behind_predicate term w predicate ≡ Err fault
            → RefusedTerm catalogue entries needed before term fault
        behind_known w predicate has k = elim (Err-steps (term_args entries (params_of predicate) term.args term.at) (behind_args term w predicate) fault k) [
          | inl refuses ↦ in_args predicate fault has (term_args-refused entries (params_of predicate) term.args term.at fault refuses)
          | inr made ↦ elim (Err-test (are_outputs needed (argument_columns made.0)) (well (term_with catalogue w predicate made.0)) (At DistinctNeedsOutput term.at) fault made.2) [
            | inl fails ↦ subst (RefusedTerm catalogue entries needed before term) fails.1
                (no_output predicate made.0 has (term_args-typed entries (params_of predicate) term.args term.at made.0 made.1) fails.0)
            | inr passes ↦ cc
          ]
        ]

  term-is_refused : (before : List Term) (term : TermSyn) (fault : BindFault) → RefusedTerm catalogue entries needed before term fault → term_step before term ≡ Err fault
  term-is_refused before term fault (too_many full) = ap (λ b. if b then Err (At LimitOf term.at) else behind_room term) (equal-test (length before) 8 full)
  term-is_refused before term fault (wrong_weight room out) =
      past-room before term room ∙ ap (λ r. r >>= behind_weight term) (outside-is 1 most_weight term.weight out)
  term-is_refused before term fault (no_predicate n room weighs missing) =
      past-weight before term n room weighs ∙ ap (λ p. or_fault (At NoPredicate term.predicate.at) p >>= behind_predicate term n) missing
  term-is_refused before term fault (in_args predicate f has refused) =
      past-predicate before term has.weight predicate has.room has.is_weight has.is_predicate
      ∙ ap (λ r. r >>= behind_args term has.weight predicate) (term_args-are_refused entries (params_of predicate) term.args term.at f refused)
  term-is_refused before term fault (no_output predicate made has args fails) =
      past-args before term has.weight predicate made has.room has.is_weight has.is_predicate args
      ∙ ap (λ b. if b then well (term_with catalogue has.weight predicate made) else Err (At DistinctNeedsOutput term.at)) fails

  term-follows : Follows (TypesTerm catalogue entries needed) (RefusedTerm catalogue entries needed) term_step
  term-follows = record { typed = term-typed; is_typed = term-is; refused = term-refused; is_refused = term-is_refused }

  -- the terms behind one more term are such steps
  abbrev Again : List Term → List TermSyn → Type 0
  Again before terms = (b : Term) → terms_behind catalogue entries needed (suc (length before)) terms ≡ steps term_step (b ∷ before) terms

  terms-steps : (before : List Term) (terms : List TermSyn) → terms_behind catalogue entries needed (length before) terms ≡ steps term_step before terms
  terms-steps before [] = refl
  terms-steps before (term ∷ terms) = go (λ b. terms-steps (b ∷ before) terms) (length before == 8) (number_in 1 most_weight term.weight) where
    with_args : Again before terms → (w p : ℕ) (made : List BoundArg) (outputs : Bool)
        → ((if outputs then terms_behind catalogue entries needed (suc (length before)) terms else Err (At DistinctNeedsOutput term.at))
        >>= λ more. Ok (term_with catalogue w p made ∷ more))
        ≡ ((if outputs then well (term_with catalogue w p made) else Err (At DistinctNeedsOutput term.at)) >>= λ b. steps term_step (b ∷ before) terms >>= λ more. Ok (b ∷ more))
    with_args again w p made true = ap (λ s. s >>= λ more. Ok (term_with catalogue w p made ∷ more)) (again (term_with catalogue w p made))
    with_args again w p made false = refl

    with_predicate : Again before terms → (w p : ℕ) (r : Result (List BoundArg) BindFault)
        → (r >>= λ made. (if are_outputs needed (argument_columns made) then terms_behind catalogue entries needed (suc (length before)) terms
        else Err (At DistinctNeedsOutput term.at)) >>= λ more. Ok (term_with catalogue w p made ∷ more))
        ≡ ((r >>= behind_args term w p) >>= λ b. steps term_step (b ∷ before) terms >>= λ more. Ok (b ∷ more))
    with_predicate again w p (Err fault) = refl
    with_predicate again w p (Ok made) = with_args again w p made (are_outputs needed (argument_columns made))

    with_weight : Again before terms → (w : ℕ) (r : Result ℕ BindFault)
        → (r >>= λ p. term_args entries (params_of p) term.args term.at >>= λ made. (if are_outputs needed (argument_columns made)
        then terms_behind catalogue entries needed (suc (length before)) terms else Err (At DistinctNeedsOutput term.at))
        >>= λ more. Ok (term_with catalogue w p made ∷ more))
        ≡ ((r >>= behind_predicate term w) >>= λ b. steps term_step (b ∷ before) terms >>= λ more. Ok (b ∷ more))
    with_weight again w (Err fault) = refl
    with_weight again w (Ok p) = with_predicate again w p (term_args entries (params_of p) term.args term.at)

    go : Again before terms → (full : Bool) (r : Result ℕ BindFault)
        → (if full then Err (At LimitOf term.at) else (r >>= λ w. predicate_of term >>= λ p. term_args entries (params_of p) term.args term.at
        >>= λ made. (if are_outputs needed (argument_columns made) then terms_behind catalogue entries needed (suc (length before)) terms
        else Err (At DistinctNeedsOutput term.at)) >>= λ more. Ok (term_with catalogue w p made ∷ more)))
        ≡ ((if full then Err (At LimitOf term.at) else (r >>= behind_weight term)) >>= λ b. steps term_step (b ∷ before) terms >>= λ more. Ok (b ∷ more))
    go again true r = refl
    go again false (Err fault) = refl
    go again false (Ok w) = with_weight again w (predicate_of term)

  terms-typed : (terms : List TermSyn) (made : List Term) → terms_of catalogue entries needed terms ≡ Ok made → TypesTerms catalogue entries needed terms made
  terms-typed terms made h =
      Each-steps (TypesTerm catalogue entries needed) (RefusedTerm catalogue entries needed) term_step term-follows [] terms made (sym (terms-steps [] terms) ∙ h)

  terms-are : (terms : List TermSyn) (made : List Term) → TypesTerms catalogue entries needed terms made → terms_of catalogue entries needed terms ≡ Ok made
  terms-are terms made each =
      terms-steps [] terms ∙ steps-Each (TypesTerm catalogue entries needed) (RefusedTerm catalogue entries needed) term_step term-follows each

  terms-refused : (terms : List TermSyn) (fault : BindFault) → terms_of catalogue entries needed terms ≡ Err fault
      → RefusedTerms catalogue entries needed terms fault
  terms-refused terms fault h =
      FirstRefused-steps (TypesTerm catalogue entries needed) (RefusedTerm catalogue entries needed) term_step term-follows [] terms fault (sym (terms-steps [] terms) ∙ h)

  terms-are_refused : (terms : List TermSyn) (fault : BindFault) → RefusedTerms catalogue entries needed terms fault
      → terms_of catalogue entries needed terms ≡ Err fault
  terms-are_refused terms fault first =
      terms-steps [] terms ∙ steps-FirstRefused (TypesTerm catalogue entries needed) (RefusedTerm catalogue entries needed) term_step term-follows first

-- LIMIT
limit-typed : (written : Option (ℤ × Span)) (made : Option ℕ) → bound_limit written ≡ Ok made → TypesLimit written made
limit-typed None made h = let same : None ≡ made = cc in subst (TypesLimit None) same no_limit
limit-typed (Some limit) made h =
    let found = Ok-steps (number_in 0 most_rows limit) (λ n. well (Some n)) made h in
    let same = same_Ok (Some found.0) made found.2 in
    subst (TypesLimit (Some limit)) same (within limit.0 limit.1 found.0 (within-typed 0 most_rows limit found.0 found.1))

limit-is : (written : Option (ℤ × Span)) (made : Option ℕ) → TypesLimit written made → bound_limit written ≡ Ok made
limit-is written made no_limit = refl
limit-is written made (within n at m is) = ap (λ r. r >>= λ k. well (Some k)) (within-is 0 most_rows (n, at) m is)

limit-refused : (written : Option (ℤ × Span)) (fault : BindFault) → bound_limit written ≡ Err fault → RefusedLimit written fault
limit-refused None fault h = cc
limit-refused (Some limit) fault h = elim (Err-steps (number_in 0 most_rows limit) (λ n. well (Some n)) fault h) [
  | inl refuses ↦ (let out = outside-refused 0 most_rows limit fault refuses in subst (RefusedLimit (Some limit)) out.1 (outside limit.0 limit.1 out.0))
  | inr found ↦ cc
]

limit-is_refused : (written : Option (ℤ × Span)) (fault : BindFault) → RefusedLimit written fault → bound_limit written ≡ Err fault
limit-is_refused written fault (outside n at out) = ap (λ r. r >>= λ k. well (Some k)) (outside-is 0 most_rows (n, at) out)

agree-called : (name : List ℕ) (names : List (List ℕ)) (left right : List Found) → agree left right ≡ true
    → agree (called name names left) (called name names right) ≡ true
agree-called name [] left right h = refl
agree-called name (own ∷ names) [] [] h = refl
agree-called name (own ∷ names) [] (b ∷ right) h = cc
agree-called name (own ∷ names) (a ∷ left) [] h = cc
agree-called name (own ∷ names) (a ∷ left) (b ∷ right) h =
    let parts = parts_true (is_kind a.1 (Some b.1)) (agree left right) h in
    go (bytes_eq own name) parts.0 (agree-called name names left right parts.1) where
      go : (test : Bool) → is_kind a.1 (Some b.1) ≡ true → agree (called name names left) (called name names right) ≡ true
          → agree (if test then a ∷ called name names left else called name names left) (if test then b ∷ called name names right else called name names right) ≡ true
      go true k others = both_true (is_kind a.1 (Some b.1)) (agree (called name names left) (called name names right)) k others
      go false k others = others

-- the only one of a list that agrees with another list
record HasTwin (right : List Found) (a : Found) : Type 0 where
  twin : Found
  only : right ≡ twin ∷ []
  kind_is : twin.1 ≡ a.1

twin-of : (left right : List Found) (a : Found) → left ≡ a ∷ [] → agree left right ≡ true → HasTwin right a
twin-of left right a e h = go right (ap (λ l. agree l right) (sym e) ∙ h) where
  go : (rest : List Found) → agree (a ∷ []) rest ≡ true → HasTwin rest a
  go [] k = cc
  go (b ∷ []) k = let parts = parts_true (is_kind a.1 (Some b.1)) true k in record { twin = b; only = refl; kind_is = same-kind a.1 b.1 parts.0 }
  go (b ∷ c ∷ rest) k = let parts = parts_true (is_kind a.1 (Some b.1)) false k in cc

module _ (names : List (List ℕ)) (left right : List Found) (alike : agree left right ≡ true) where
  -- what a reference stands for in the right block, where it stands for a column in the left one
  record HasOther (c : ColRef) (found : BoundArg × Kind) : Type 0 where
    other : BoundArg
    is : output_columns names right c ≡ Ok (other, found.1)
    are_columns : is_column found.0 ≡ is_column other

  other-found : (c : ColRef) (twin : Found) → c.alias ≡ None → called c.column.text names right ≡ twin ∷ [] → output_columns names right c ≡ Ok (as_argument twin)
  other-found c twin e only = rw (e, only) refl

  other-of : (c : ColRef) (found : BoundArg × Kind) → output_columns names left c ≡ Ok found → HasOther c found
  other-of c found h = go c.alias refl where
    go : (alias : Option Name) → c.alias ≡ alias → HasOther c found
    go (Some alias) e = let k = rw e at h in cc
    go None e =
        let k = rw e at h in
        let item = Ok-steps (the_only c.column.at (called c.column.text names left)) (λ (i : Found). well (as_argument i)) found k in
        let only = the_only-is c.column.at (called c.column.text names left) item.0 item.1 in
        let twin = twin-of (called c.column.text names left) (called c.column.text names right) item.0 only (agree-called c.column.text names left right alike) in
        let same = same_Ok (as_argument item.0) found item.2 in
        let own = twin.kind_is ∙ ap (λ (f : BoundArg × Kind). f.1) same in
        record {
          other = (as_argument twin.twin).0;
          is = other-found c twin.twin e twin.only ∙ ap (λ k. well ((as_argument twin.twin).0, k)) own;
          are_columns = ap (λ (f : BoundArg × Kind). is_column f.0) (sym same);
        }

  record HasOtherArg (wanted : Kind) (a : Arg) (made : BoundArg) : Type 0 where
    other : BoundArg
    is : arg_of (output_columns names right) wanted a ≡ Ok other
    are_columns : is_column made ≡ is_column other

  other-arg : (wanted : Kind) (a : Arg) (made : BoundArg) → arg_of (output_columns names left) wanted a ≡ Ok made → HasOtherArg wanted a made
  other-arg wanted (arg.Column c) made h =
      let found = Ok-steps (output_columns names left c) (of_kind wanted (span_of_column c)) made h in
      let test = Ok-test (is_kind wanted (Some found.0.1)) (well found.0.0) (At WrongKind (span_of_column c)) made found.2 in
      let same = same_Ok found.0.0 made test.1 in
      let other = other-of c found.0 found.1 in
      record {
        other = other.other;
        is = ap (λ r. r >>= of_kind wanted (span_of_column c)) other.is ∙ ap (λ b. if b then well other.other else Err (At WrongKind (span_of_column c))) test.0;
        are_columns = ap is_column (sym same) ∙ other.are_columns;
      }
  other-arg wanted (arg.Int n at) made h = record { other = made; is = h; are_columns = refl }
  other-arg wanted (arg.Text t at) made h = record { other = made; is = h; are_columns = refl }

  record HasOtherArgs (kinds : List Kind) (args : List Arg) (made : List BoundArg) : Type 0 where
    others : List BoundArg
    is : args_of (output_columns names right) kinds args ≡ Ok others
    some_column : list_any is_column made ≡ list_any is_column others

  other-args : (kinds : List Kind) (args : List Arg) (made : List BoundArg) → args_of (output_columns names left) kinds args ≡ Ok made → HasOtherArgs kinds args made
  other-args [] args made h = let same = same_Ok [] made h in record { others = []; is = refl; some_column = ap (list_any is_column) (sym same) }
  other-args (wanted ∷ kinds) [] made h = let same = same_Ok [] made h in record { others = []; is = refl; some_column = ap (list_any is_column) (sym same) }
  other-args (wanted ∷ kinds) (a ∷ args) made h =
      let first = Ok-steps (arg_of (output_columns names left) wanted a) (λ b. args_of (output_columns names left) kinds args >>= λ bs. well (b ∷ bs)) made h in
      let rest = Ok-steps (args_of (output_columns names left) kinds args) (λ bs. well (first.0 ∷ bs)) made first.2 in
      let same = same_Ok (first.0 ∷ rest.0) made rest.2 in
      let one = other-arg wanted a first.0 first.1 in
      let more = other-args kinds args rest.0 rest.1 in
      record {
        others = one.other ∷ more.others;
        is = ap (λ r. r >>= λ b. args_of (output_columns names right) kinds args >>= λ bs. well (b ∷ bs)) one.is ∙ ap (λ r. r >>= λ bs. well (one.other ∷ bs)) more.is;
        some_column = ap (list_any is_column) (sym same) ∙ (ap (λ b. b || list_any is_column rest.0) one.are_columns ∙ ap (λ b. is_column one.other || b) more.some_column);
      }

  -- terms that are typed in the left block are typed in the right one
  other-terms : (catalogue : CatalogDef) {before : List Term} (others_before : List Term) {terms : List TermSyn} {made : List Term} → length before ≡ length others_before
      → Each (TypesTerm catalogue (output_columns names left) None) before terms made
      → (others : List Term) × Each (TypesTerm catalogue (output_columns names right) None) others_before terms others
  other-terms catalogue others_before e (none before) = ([], none others_before)
  other-terms catalogue others_before e (and before term terms made more is each) =
      let params = params_in catalogue made.predicate in
      let found = other-args params term.args made.args (args-are (output_columns names left) params term.args made.args is.args.each) in
      let other = term_with catalogue made.weight made.predicate found.others in
      let rest = other-terms catalogue (other ∷ others_before) (ap suc e) each in (
        other ∷ rest.0,
        and others_before term terms other rest.0 (record {
          room = subst (λ n. n ≢ 8) e is.room;
          weight = is.weight;
          predicate = is.predicate;
          args = record {
            count = is.args.count;
            each = args-typed (output_columns names right) params term.args found.others found.is;
            column = sym found.some_column ∙ is.args.column;
          };
          outputs = refl;
          max = refl;
          entries_are = refl;
        }) rest.1,
      )

module _ (catalogue : CatalogDef) where
  -- a query of one block
  abbrev with_limit : Unranked → List Term → Option ℕ → Result Query BindFault
  with_limit block terms limit = well (One (with_terms block terms) limit)

  abbrev behind_terms : syntax.Query → Unranked → List Term → Result Query BindFault
  behind_terms query block terms = bound_limit query.limit >>= with_limit block terms

  abbrev block_terms : syntax.Query → Unranked → Result (List Term) BindFault
  block_terms query block = terms_of catalogue (columns_in catalogue block) (needed_by block) query.terms

  abbrev behind_block : syntax.Query → Unranked → Result Query BindFault
  behind_block query block = block_terms query block >>= behind_terms query block

  one-typed : (query : syntax.Query) (made : Query) → query.right ≡ None → one_of catalogue query ≡ Ok made → TypesQuery catalogue query made
  one-typed query made e h =
      let first = Ok-steps (unranked_of catalogue query.left) (behind_block query) made h in
      let second = Ok-steps (block_terms query first.0) (behind_terms query first.0) made first.2 in
      let third = Ok-steps (bound_limit query.limit) (with_limit first.0 second.0) made second.2 in
      let same = same_Ok (One (with_terms first.0 second.0) third.0) made third.2 in
      subst (TypesQuery catalogue query) same
      (one_block query first.0 second.0 third.0 e (block-typed catalogue query.left first.0 first.1)
      (terms-typed catalogue (columns_in catalogue first.0) (needed_by first.0) query.terms second.0 second.1) (limit-typed query.limit third.0 third.1))

  one-refused : (query : syntax.Query) (fault : BindFault) → query.right ≡ None → one_of catalogue query ≡ Err fault → RefusedQuery catalogue query fault
  one-refused query fault e h = elim (Err-steps (unranked_of catalogue query.left) (behind_block query) fault h) [
    | inl refuses ↦ in_left query fault (block-refused catalogue query.left fault refuses)
    | inr first ↦ elim (Err-steps (block_terms query first.0) (behind_terms query first.0) fault first.2) [
      | inl refuses ↦ in_terms query first.0 fault e (block-typed catalogue query.left first.0 first.1)
          (terms-refused catalogue (columns_in catalogue first.0) (needed_by first.0) query.terms fault refuses)
      | inr second ↦ elim (Err-steps (bound_limit query.limit) (with_limit first.0 second.0) fault second.2) [
        | inl refuses ↦ in_limit query first.0 second.0 fault e (block-typed catalogue query.left first.0 first.1)
            (terms-typed catalogue (columns_in catalogue first.0) (needed_by first.0) query.terms second.0 second.1) (limit-refused query.limit fault refuses)
        | inr third ↦ cc
      ]
    ]
  ]

  -- a query of two blocks
  abbrev with_set_limit : SetOp → Unranked → Unranked → List Term → List Term → Option ℕ → Result Query BindFault
  with_set_limit op left right terms others limit = well (Set op (with_terms left terms) (with_terms right others) limit)

  abbrev behind_others : syntax.Query → SetOp → Unranked → Unranked → List Term → List Term → Result Query BindFault
  behind_others query op left right terms others = bound_limit query.limit >>= with_set_limit op left right terms others

  abbrev set_terms : syntax.Query → Unranked → Unranked → Result (List Term) BindFault
  set_terms query left block = terms_of catalogue (outputs_in catalogue left block) None query.terms

  abbrev behind_set_terms : syntax.Query → SetOp → Unranked → Unranked → List Term → Result Query BindFault
  behind_set_terms query op left right terms = set_terms query left right >>= behind_others query op left right terms

  abbrev agreed_terms : syntax.Query → syntax.Block → Unranked → Unranked → Result (List Term) BindFault
  agreed_terms query second left right = if agree left.items right.items then set_terms query left left else Err (At SetColumnsDiffer (first_item second.items))

  abbrev behind_right : syntax.Query → SetOp → syntax.Block → Unranked → Unranked → Result Query BindFault
  behind_right query op second left right = agreed_terms query second left right >>= behind_set_terms query op left right

  abbrev behind_left : syntax.Query → SetOp → syntax.Block → Unranked → Result Query BindFault
  behind_left query op second left = unranked_of catalogue second >>= behind_right query op second left

  set-typed : (query : syntax.Query) (op : SetOp) (second : syntax.Block) (made : Query) → query.right ≡ Some (op, second) → set_of catalogue query op second ≡ Ok made
      → TypesQuery catalogue query made
  set-typed query op second made e h =
      let left = Ok-steps (unranked_of catalogue query.left) (behind_left query op second) made h in
      let right = Ok-steps (unranked_of catalogue second) (behind_right query op second left.0) made left.2 in
      let terms = Ok-steps (agreed_terms query second left.0 right.0) (behind_set_terms query op left.0 right.0) made right.2 in
      let agreed = Ok-test (agree left.0.items right.0.items) (set_terms query left.0 left.0) (At SetColumnsDiffer (first_item second.items)) terms.0 terms.1 in
      let others = Ok-steps (set_terms query left.0 right.0) (behind_others query op left.0 right.0 terms.0) made terms.2 in
      let limit = Ok-steps (bound_limit query.limit) (with_set_limit op left.0 right.0 terms.0 others.0) made others.2 in
      let same = same_Ok (Set op (with_terms left.0 terms.0) (with_terms right.0 others.0) limit.0) made limit.2 in
      subst (TypesQuery catalogue query) same
      (two_blocks query op second left.0 right.0 terms.0 others.0 limit.0 e (block-typed catalogue query.left left.0 left.1)
      (block-typed catalogue second right.0 right.1) agreed.0
      (terms-typed catalogue (outputs_in catalogue left.0 left.0) None query.terms terms.0 agreed.1)
      (terms-typed catalogue (outputs_in catalogue left.0 right.0) None query.terms others.0 others.1) (limit-typed query.limit limit.0 limit.1))

  -- the terms over the right block, where those over the left one are typed
  others-typed : (query : syntax.Query) (left right : Unranked) (terms : List Term) → agree left.items right.items ≡ true
      → TypesTerms catalogue (outputs_in catalogue left left) None query.terms terms → (others : List Term) × (set_terms query left right ≡ Ok others)
  others-typed query left right terms agreed each =
      let found = other-terms (output_names catalogue left) left.items right.items agreed catalogue [] refl each in
      (found.0, terms-are catalogue (outputs_in catalogue left right) None query.terms found.0 found.1)

  set-refused : (query : syntax.Query) (op : SetOp) (second : syntax.Block) (fault : BindFault) → query.right ≡ Some (op, second)
      → set_of catalogue query op second ≡ Err fault → RefusedQuery catalogue query fault
  set-refused query op second fault e h = elim (Err-steps (unranked_of catalogue query.left) (behind_left query op second) fault h) [
    | inl refuses ↦ in_left query fault (block-refused catalogue query.left fault refuses)
    | inr left ↦ elim (Err-steps (unranked_of catalogue second) (behind_right query op second left.0) fault left.2) [
      | inl refuses ↦ in_right query op second left.0 fault e (block-typed catalogue query.left left.0 left.1) (block-refused catalogue second fault refuses)
      | inr right ↦ behind_blocks left.0 right.0 (block-typed catalogue query.left left.0 left.1) (block-typed catalogue second right.0 right.1) right.2
    ]
  ] where
    behind_agreed : (left right : Unranked) (terms : List Term) → TypesBlock catalogue query.left left → TypesBlock catalogue second right
        → agree left.items right.items ≡ true → TypesTerms catalogue (outputs_in catalogue left left) None query.terms terms
        → behind_set_terms query op left right terms ≡ Err fault → RefusedQuery catalogue query fault
    behind_agreed left right terms l r agreed each k =
        let others = others-typed query left right terms agreed each in
        let rest = ap (λ o. o >>= behind_others query op left right terms) others.1 in
        elim (Err-steps (bound_limit query.limit) (with_set_limit op left right terms others.0) fault (sym rest ∙ k)) [
          | inl refuses ↦ in_set_limit query op second left right terms fault e l r agreed each (limit-refused query.limit fault refuses)
          | inr limit ↦ cc
        ]

    behind_blocks : (left right : Unranked) → TypesBlock catalogue query.left left → TypesBlock catalogue second right
        → behind_right query op second left right ≡ Err fault → RefusedQuery catalogue query fault
    behind_blocks left right l r k = elim (Err-steps (agreed_terms query second left right) (behind_set_terms query op left right) fault k) [
      | inl refuses ↦ elim (Err-test (agree left.items right.items) (set_terms query left left) (At SetColumnsDiffer (first_item second.items)) fault refuses) [
        | inl apart ↦ subst (RefusedQuery catalogue query) apart.1 (differ query op second left right e l r apart.0)
        | inr agreed ↦ in_set_terms query op second left right fault e l r agreed.0
            (terms-refused catalogue (outputs_in catalogue left left) None query.terms fault agreed.1)
      ]
      | inr terms ↦ (let agreed = Ok-test (agree left.items right.items) (set_terms query left left) (At SetColumnsDiffer (first_item second.items)) terms.0 terms.1 in
          behind_agreed left right terms.0 l r agreed.0 (terms-typed catalogue (outputs_in catalogue left left) None query.terms terms.0 agreed.1) terms.2)
    ]

  query-typed : (query : syntax.Query) (made : Query) → typed_query catalogue query ≡ Ok made → TypesQuery catalogue query made
  query-typed query made h = go query.right refl where
    go : (right : Option (SetOp × syntax.Block)) → query.right ≡ right → TypesQuery catalogue query made
    go None e = let k = rw e at h in one-typed query made e k
    go (Some right) e = let k = rw e at h in set-typed query right.0 right.1 made e k

  query-refused : (query : syntax.Query) (fault : BindFault) → typed_query catalogue query ≡ Err fault → RefusedQuery catalogue query fault
  query-refused query fault h = go query.right refl where
    go : (right : Option (SetOp × syntax.Block)) → query.right ≡ right → RefusedQuery catalogue query fault
    go None e = let k = rw e at h in one-refused query fault e k
    go (Some right) e = let k = rw e at h in set-refused query right.0 right.1 fault e k

  -- what a query of each form is bound by
  bound-one : (query : syntax.Query) → query.right ≡ None → typed_query catalogue query ≡ one_of catalogue query
  bound-one query e = rw e refl

  bound-set : (query : syntax.Query) (op : SetOp) (second : syntax.Block) → query.right ≡ Some (op, second) → typed_query catalogue query ≡ set_of catalogue query op second
  bound-set query op second e = rw e refl

  left-known : (query : syntax.Query) (block : Unranked) → TypesBlock catalogue query.left block → one_of catalogue query ≡ behind_block query block
  left-known query block l = ap (λ r. r >>= behind_block query) (block-is catalogue query.left block l)

  both-known : (query : syntax.Query) (op : SetOp) (second : syntax.Block) (left right : Unranked) → TypesBlock catalogue query.left left
      → TypesBlock catalogue second right → set_of catalogue query op second ≡ behind_right query op second left right
  both-known query op second left right l r =
      ap (λ b. b >>= behind_left query op second) (block-is catalogue query.left left l)
      ∙ ap (λ b. b >>= behind_right query op second left) (block-is catalogue second right r)

  terms-known : (query : syntax.Query) (op : SetOp) (second : syntax.Block) (left right : Unranked) (terms : List Term) → TypesBlock catalogue query.left left
      → TypesBlock catalogue second right → agree left.items right.items ≡ true → TypesTerms catalogue (outputs_in catalogue left left) None query.terms terms
      → set_of catalogue query op second ≡ behind_set_terms query op left right terms
  terms-known query op second left right terms l r agreed each =
      both-known query op second left right l r
      ∙ (ap (λ b. (if b then set_terms query left left else Err (At SetColumnsDiffer (first_item second.items))) >>= behind_set_terms query op left right) agreed
      ∙ ap (λ t. t >>= behind_set_terms query op left right) (terms-are catalogue (outputs_in catalogue left left) None query.terms terms each))

  query-is : (query : syntax.Query) (made : Query) → TypesQuery catalogue query made → typed_query catalogue query ≡ Ok made
  query-is query made (one_block q block terms limit e l each is) =
      bound-one q e
      ∙ (left-known q block l
      ∙ (ap (λ t. t >>= behind_terms q block) (terms-are catalogue (columns_in catalogue block) (needed_by block) q.terms terms each)
      ∙ ap (λ n. n >>= with_limit block terms) (limit-is q.limit limit is)))
  query-is query made (two_blocks q op second left right terms others limit e l r agreed each each_other is) =
      bound-set q op second e
      ∙ (terms-known q op second left right terms l r agreed each
      ∙ (ap (λ t. t >>= behind_others q op left right terms) (terms-are catalogue (outputs_in catalogue left right) None q.terms others each_other)
      ∙ ap (λ n. n >>= with_set_limit op left right terms others) (limit-is q.limit limit is)))

  query-is_refused : (query : syntax.Query) (fault : BindFault) → RefusedQuery catalogue query fault → typed_query catalogue query ≡ Err fault
  query-is_refused query fault (in_left q f refused) = go q.right refl where
    go : (right : Option (SetOp × syntax.Block)) → q.right ≡ right → typed_query catalogue q ≡ Err f
    go None e = bound-one q e ∙ ap (λ r. r >>= behind_block q) (block-is_refused catalogue q.left f refused)
    go (Some right) e = bound-set q right.0 right.1 e ∙ ap (λ r. r >>= behind_left q right.0 right.1) (block-is_refused catalogue q.left f refused)
  query-is_refused query fault (in_right q op second left f e l refused) =
      bound-set q op second e
      ∙ (ap (λ b. b >>= behind_left q op second) (block-is catalogue q.left left l)
      ∙ ap (λ b. b >>= behind_right q op second left) (block-is_refused catalogue second f refused))
  query-is_refused query fault (differ q op second left right e l r apart) =
      bound-set q op second e
      ∙ (both-known q op second left right l r
      ∙ ap (λ b. (if b then set_terms q left left else Err (At SetColumnsDiffer (first_item second.items))) >>= behind_set_terms q op left right) apart)
  query-is_refused query fault (in_terms q block f e l refused) =
      bound-one q e
      ∙ (left-known q block l ∙ ap (λ t. t >>= behind_terms q block) (terms-are_refused catalogue (columns_in catalogue block) (needed_by block) q.terms f refused))
  query-is_refused query fault (in_set_terms q op second left right f e l r agreed refused) =
      bound-set q op second e
      ∙ (both-known q op second left right l r
      ∙ (ap (λ b. (if b then set_terms q left left else Err (At SetColumnsDiffer (first_item second.items))) >>= behind_set_terms q op left right) agreed
      ∙ ap (λ t. t >>= behind_set_terms q op left right) (terms-are_refused catalogue (outputs_in catalogue left left) None q.terms f refused)))
  query-is_refused query fault (in_limit q block terms f e l each refused) =
      bound-one q e
      ∙ (left-known q block l
      ∙ (ap (λ t. t >>= behind_terms q block) (terms-are catalogue (columns_in catalogue block) (needed_by block) q.terms terms each)
      ∙ ap (λ n. n >>= with_limit block terms) (limit-is_refused q.limit f refused)))
  query-is_refused query fault (in_set_limit q op second left right terms f e l r agreed each refused) =
      let others = others-typed q left right terms agreed each in
      bound-set q op second e
      ∙ (terms-known q op second left right terms l r agreed each
      ∙ (ap (λ t. t >>= behind_others q op left right terms) others.1
      ∙ ap (λ n. n >>= with_set_limit op left right terms others.0) (limit-is_refused q.limit f refused)))

  pub queries_typed_by_rules : (query : syntax.Query) (made : Query) → (typed_query catalogue query ≡ Ok made) ↔ TypesQuery catalogue query made
  queries_typed_by_rules query made = (λ h. query-typed query made h, λ h. query-is query made h)

  pub queries_refused_by_rules : (query : syntax.Query) (fault : BindFault) → (typed_query catalogue query ≡ Err fault) ↔ RefusedQuery catalogue query fault
  queries_refused_by_rules query fault = (λ h. query-refused query fault h, λ h. query-is_refused query fault h)

  -- what is bound is what is typed, with its tops
  pub queries_bound_by_rules : (query : syntax.Query) (made : Query) → (bound_query catalogue query ≡ Ok made) ↔ ((typed : Query) × TypesQuery catalogue query typed × (with_tops catalogue typed ≡ made))
  queries_bound_by_rules query made = (
    λ h.
        let step = Ok-steps (typed_query catalogue query) (λ typed. well (with_tops catalogue typed)) made h in
        (step.0, query-typed query step.0 step.1, same_Ok (with_tops catalogue step.0) made step.2),
    λ h. ap (λ r. r >>= λ typed. well (with_tops catalogue typed)) (query-is query h.0 h.1) ∙ ap well h.2,
  )

  pub queries_not_bound_by_rules : (query : syntax.Query) (fault : BindFault) → (bound_query catalogue query ≡ Err fault) ↔ RefusedQuery catalogue query fault
  queries_not_bound_by_rules query fault = (
    λ h. elim (Err-steps (typed_query catalogue query) (λ typed. well (with_tops catalogue typed)) fault h) [
      | inl refused ↦ query-refused query fault refused
      | inr typed ↦ absurd (let same = typed.2 in cc)
    ],
    λ h. ap (λ r. r >>= λ typed. well (with_tops catalogue typed)) (query-is_refused query fault h),
  )

  pub typed_once : (query : syntax.Query) (made other : Query) → TypesQuery catalogue query made → TypesQuery catalogue query other → made ≡ other
  typed_once query made other h k =
      let first = query-is query made h in
      let second = query-is query other k in
      same_Ok made other (sym first ∙ second)
