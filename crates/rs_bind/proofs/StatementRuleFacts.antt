-- The CREATE statements and the number in FETCH are typed, and refused, by their rules.
use Rattle.std.proofs.Common.{ℕ, ◌≡◌, ◌≢◌, ◌==◌, Bool, true, false, List, [], ◌∷◌, length, map, refl, sym, subst, ap, ◌∙◌, inl, inr}
use Rattle.std.specs.Prelude.{◌↔◌, ℤ, Option, Some, None, Result, Ok, Err, if◌then◌else◌}
use Rattle.std.specs.List.{list_any}
use Rattle.std.specs.Str.{bytes_eq}
use Rattle.rs_value.specs.declared.kind.Kind.{Kind}
use Rattle.rs_lex.specs.declared.token.Span.{Span}
use Rattle.rs_syntax.specs.declared.name.Arg.{Arg}
use Rattle.rs_syntax.specs.declared.name.Name.{Name}
use Rattle.rs_syntax.specs.Syntax.{Expression, CreatePredicate, CreateRankIndex}
use Rattle.rs_table.specs.Column.{Column, is_named}
use Rattle.rs_value.specs.Results.{◌>>=◌}
use Rattle.rs_expr.specs.Formulas.{Formula}
use Rattle.rs_expr.specs.Predicates.{PredicateDef}
use Rattle.rs_catalog.specs.Catalog.{CatalogDef, number_named}
use Rattle.rs_catalog.specs.declared.index.BoundArg.{BoundArg}
use Rattle.rs_catalog.specs.declared.index.IndexDef.{IndexDef}
use Rattle.rs_catalog.specs.declared.room.What.TheVariants as what
use Rattle.rs_typing.specs.declared.fault.BindFault.{BindFault}
use Rattle.rs_typing.specs.declared.fault.BindFault.TheVariants.{At}
use Rattle.rs_typing.specs.declared.fault.Why.TheVariants.{LimitOf, NameTwice, NoPredicate, NoTable, WrongKind}
use Rattle.rs_typing.specs.Missing.{or_fault}
use Rattle.rs_typing.specs.Parameters.{formula_in, parameter_in}
use Rattle.rs_typing.specs.Typing.{Typed, Number, Words, Truth, as_number, span_of, type_of}
use Rattle.rs_typing.proofs.ResultFacts.{Ok-else, same_Ok, well}
use Rattle.rs_typing.proofs.RuleFacts.{refused_by_rules, typed_by_rules}
use Rattle.rs_typing.proofs.StepFacts.{Err-steps, Ok-or_fault, Ok-steps}
use Rattle.rs_bind.specs.ArgumentRules.{IsOutside, IsWithin}
use Rattle.rs_bind.specs.Indexes.{index_def_of, params_in, term_args}
use Rattle.rs_bind.specs.Names.{named, named_behind, number_in}
use Rattle.rs_bind.specs.Predicates.{cost_of, predicate_of}
use Rattle.rs_bind.specs.Queries.{count_of, most_rows}
use Rattle.rs_bind.specs.StatementRules.{IsNoNumber, RefusedCost, RefusedIndex, RefusedName, RefusedNames, RefusedPredicate, TypesCost, TypesIndex, TypesName, TypesNames, TypesPredicate, index_columns}
use Rattle.rs_bind.specs.StatementRules.{too_many, twice, no_cost, within, outside, made, in_params, wrong_max, wrong_cost, in_formula, no_number, no_table, no_predicate, in_args}
use Rattle.rs_bind.proofs.ArgumentRuleFacts.{outside-is, outside-refused, term_args-are, term_args-are_refused, term_args-refused, term_args-typed, within-is, within-typed}
use Rattle.rs_bind.proofs.BlockRuleFacts.{any-map, length-map}
use Rattle.rs_bind.proofs.InOrderFacts.{Each-steps, FirstRefused-steps, Follows, steps, steps-Each, steps-FirstRefused}
use Rattle.rs_bind.proofs.TestFacts.{Err-else, Err-or_fault, apart-test, equal-test, is-apart, is-equal}

-- names with kinds
module _ (most : ℕ) where
  abbrev names_in : List Column → List (List ℕ)
  names_in before = map (λ (c : Column). c.0) before

  abbrev free_name : List Column → Name × Kind → Result Column BindFault
  free_name before written =
      if list_any (is_named written.0.text) before then Err (At NameTwice written.0.at) else well (written.0.text, written.1)

  abbrev name_step : List Column → Name × Kind → Result Column BindFault
  name_step before written = if length before == most then Err (At LimitOf written.0.at) else free_name before written

  name-typed : (before : List Column) (written : Name × Kind) (column : Column) → name_step before written ≡ Ok column → TypesName most before written column
  name-typed before written column h =
      let past = Ok-else (length before == most) (free_name before written) (At LimitOf written.0.at) column h in
      let free = Ok-else (list_any (is_named written.0.text) before) (well (written.0.text, written.1)) (At NameTwice written.0.at) column past.1 in
      record { room = is-apart (length before) most past.0; free = free.0; is = sym (same_Ok (written.0.text, written.1) column free.1) }

  name-roomy : (before : List Column) (written : Name × Kind) → length before ≢ most → name_step before written ≡ free_name before written
  name-roomy before written room = ap (λ b. if b then Err (At LimitOf written.0.at) else free_name before written) (apart-test (length before) most room)

  name-is : (before : List Column) (written : Name × Kind) (column : Column) → TypesName most before written column → name_step before written ≡ Ok column
  name-is before written column t =
      name-roomy before written t.room
      ∙ (ap (λ b. if b then Err (At NameTwice written.0.at) else well (written.0.text, written.1)) t.free ∙ ap (λ c. well c) (sym t.is))

  name-refused : (before : List Column) (written : Name × Kind) (fault : BindFault) → name_step before written ≡ Err fault → RefusedName most before written fault
  name-refused before written fault h =
      elim (Err-else (length before == most) (free_name before written) (At LimitOf written.0.at) fault h) [
        | inl full ↦ subst (RefusedName most before written) full.1 (too_many (is-equal (length before) most full.0))
        | inr past ↦ elim (Err-else (list_any (is_named written.0.text) before) (well (written.0.text, written.1)) (At NameTwice written.0.at) fault past.1) [
          | inl taken ↦ subst (RefusedName most before written) taken.1 (twice (is-apart (length before) most past.0) taken.0)
          | inr free ↦ cc
        ]
      ]

  name-is_refused : (before : List Column) (written : Name × Kind) (fault : BindFault) → RefusedName most before written fault → name_step before written ≡ Err fault
  name-is_refused before written fault (too_many full) =
      ap (λ b. if b then Err (At LimitOf written.0.at) else free_name before written) (equal-test (length before) most full)
  name-is_refused before written fault (twice room taken) =
      name-roomy before written room ∙ ap (λ b. if b then Err (At NameTwice written.0.at) else well (written.0.text, written.1)) taken

  name-follows : Follows (TypesName most) (RefusedName most) name_step
  name-follows = record { typed = name-typed; is_typed = name-is; refused = name-refused; is_refused = name-is_refused }

  names-steps : (before : List Column) (written : List (Name × Kind)) → named_behind most (names_in before) written ≡ steps name_step before written
  names-steps before [] = refl
  names-steps before (c ∷ written) =
      rw (length-map (λ (column : Column). column.0) before, any-map (λ name. bytes_eq name c.0.text) (λ (column : Column). column.0) before)
      (go (names-steps ((c.0.text, c.1) ∷ before) written) (length before == most) (list_any (is_named c.0.text) before)) where
        go : named_behind most (c.0.text ∷ names_in before) written ≡ steps name_step ((c.0.text, c.1) ∷ before) written → (full taken : Bool)
            → (if full then Err (At LimitOf c.0.at)
            else if taken then Err (At NameTwice c.0.at)
            else (named_behind most (c.0.text ∷ names_in before) written >>= λ columns. Ok ((c.0.text, c.1) ∷ columns)))
            ≡ ((if full then Err (At LimitOf c.0.at) else if taken then Err (At NameTwice c.0.at) else well (c.0.text, c.1))
            >>= λ b. steps name_step (b ∷ before) written >>= λ more. Ok (b ∷ more))
        go again true taken = refl
        go again false true = refl
        go again false false = ap (λ r. r >>= λ columns. Ok ((c.0.text, c.1) ∷ columns)) again

  pub names-typed : (written : List (Name × Kind)) (columns : List Column) → named most written ≡ Ok columns → TypesNames most written columns
  names-typed written columns h = Each-steps (TypesName most) (RefusedName most) name_step name-follows [] written columns (sym (names-steps [] written) ∙ h)

  pub names-are : (written : List (Name × Kind)) (columns : List Column) → TypesNames most written columns → named most written ≡ Ok columns
  names-are written columns each = names-steps [] written ∙ steps-Each (TypesName most) (RefusedName most) name_step name-follows each

  pub names-refused : (written : List (Name × Kind)) (fault : BindFault) → named most written ≡ Err fault → RefusedNames most written fault
  names-refused written fault h =
      FirstRefused-steps (TypesName most) (RefusedName most) name_step name-follows [] written fault (sym (names-steps [] written) ∙ h)

  pub names-are_refused : (written : List (Name × Kind)) (fault : BindFault) → RefusedNames most written fault → named most written ≡ Err fault
  names-are_refused written fault first =
      names-steps [] written ∙ steps-FirstRefused (TypesName most) (RefusedName most) name_step name-follows first

  pub names_by_rules : (written : List (Name × Kind)) (columns : List Column) → (named most written ≡ Ok columns) ↔ TypesNames most written columns
  names_by_rules written columns = (λ h. names-typed written columns h, λ h. names-are written columns h)

  pub names_refused_by_rules : (written : List (Name × Kind)) (fault : BindFault) → (named most written ≡ Err fault) ↔ RefusedNames most written fault
  names_refused_by_rules written fault = (λ h. names-refused written fault h, λ h. names-are_refused written fault h)

-- COST
cost-typed : (written : Option (ℤ × Span)) (n : ℕ) → cost_of written ≡ Ok n → TypesCost written n
cost-typed None n h = subst (TypesCost None) (same_Ok 1 n h) no_cost
cost-typed (Some cost) n h = within cost.0 cost.1 n (within-typed 0 65535 cost n h)

cost-is : (written : Option (ℤ × Span)) (n : ℕ) → TypesCost written n → cost_of written ≡ Ok n
cost-is written n no_cost = refl
cost-is written n (within w at m is) = within-is 0 65535 (w, at) m is

cost-refused : (written : Option (ℤ × Span)) (fault : BindFault) → cost_of written ≡ Err fault → RefusedCost written fault
cost-refused None fault h = cc
cost-refused (Some cost) fault h =
    let out = outside-refused 0 65535 cost fault h in subst (RefusedCost (Some cost)) out.1 (outside cost.0 cost.1 out.0)

cost-is_refused : (written : Option (ℤ × Span)) (fault : BindFault) → RefusedCost written fault → cost_of written ≡ Err fault
cost-is_refused written fault (outside w at out) = outside-is 0 65535 (w, at) out

-- a formula, which is a number
number-is : (at : Span) (t : Typed) (f : Formula) → as_number at t ≡ Ok f → t ≡ Number f
number-is at (Number g) f h = let same : g ≡ f = cc in ap (λ e. Number e) same
number-is at (Words side) f h = cc
number-is at (Truth c) f h = cc

no-number-refused : (at : Span) (t : Typed) → IsNoNumber t → as_number at t ≡ Err (At WrongKind at)
no-number-refused at (Number f) h = absurd h
no-number-refused at (Words side) h = refl
no-number-refused at (Truth c) h = refl

refused-no-number : (at : Span) (t : Typed) (fault : BindFault) → as_number at t ≡ Err fault → IsNoNumber t × (At WrongKind at ≡ fault)
refused-no-number at (Number f) fault h = cc
refused-no-number at (Words side) fault h = (tt, cc)
refused-no-number at (Truth c) fault h = (tt, cc)

-- a predicate
module _ (name : Name) (params : List (Name × Kind)) (max : ℤ × Span) (cost : Option (ℤ × Span)) (formula : Expression) where
  abbrev def_of : List Column → ℕ → ℕ → Formula → PredicateDef
  def_of columns most price body = record { name = name.text; params = map (λ c. c.1) columns; max = most; cost = price; formula = body }

  abbrev behind_cost : List Column → ℕ → ℕ → Result PredicateDef BindFault
  behind_cost columns most price = formula_in columns formula >>= λ body. well (def_of columns most price body)

  abbrev behind_max : List Column → ℕ → Result PredicateDef BindFault
  behind_max columns most = cost_of cost >>= behind_cost columns most

  abbrev behind_params : List Column → Result PredicateDef BindFault
  behind_params columns = number_in 1 4294967295 max >>= behind_max columns

  abbrev command_def : Result PredicateDef BindFault
  command_def = predicate_of (CreatePredicate name params max cost formula)

  predicate-typed : (def : PredicateDef) → command_def ≡ Ok def → TypesPredicate name params max cost formula def
  predicate-typed def h =
      let first = Ok-steps (named 8 params) behind_params def h in
      let second = Ok-steps (number_in 1 4294967295 max) (behind_max first.0) def first.2 in
      let third = Ok-steps (cost_of cost) (behind_cost first.0 second.0) def second.2 in
      let fourth = Ok-steps (formula_in first.0 formula) (λ body. well (def_of first.0 second.0 third.0 body)) def third.2 in
      let typed = Ok-steps (type_of (parameter_in first.0) formula) (as_number (span_of formula)) fourth.0 fourth.1 in
      let same = same_Ok (def_of first.0 second.0 third.0 fourth.0) def fourth.2 in
      subst (TypesPredicate name params max cost formula) same
      (made first.0 second.0 third.0 fourth.0 (names-typed 8 params first.0 first.1) (within-typed 1 4294967295 max second.0 second.1)
      (cost-typed cost third.0 third.1)
      ((typed_by_rules (parameter_in first.0) formula (Number fourth.0)).0 (typed.1 ∙ ap (λ t. Ok t) (number-is (span_of formula) typed.0 fourth.0 typed.2))))

  -- the steps whose parts are known
  past-params : (columns : List Column) → TypesNames 8 params columns → command_def ≡ behind_params columns
  past-params columns each = ap (λ r. r >>= behind_params) (names-are 8 params columns each)

  past-max : (columns : List Column) (most : ℕ) → TypesNames 8 params columns → IsWithin 1 4294967295 max.0 most → command_def ≡ behind_max columns most
  past-max columns most each is = past-params columns each ∙ ap (λ r. r >>= behind_max columns) (within-is 1 4294967295 max most is)

  past-cost : (columns : List Column) (most price : ℕ) → TypesNames 8 params columns → IsWithin 1 4294967295 max.0 most → TypesCost cost price
      → command_def ≡ behind_cost columns most price
  past-cost columns most price each is costs = past-max columns most each is ∙ ap (λ r. r >>= behind_cost columns most) (cost-is cost price costs)

  predicate-is : (def : PredicateDef) → TypesPredicate name params max cost formula def → command_def ≡ Ok def
  predicate-is def (made columns most price body each is costs typed) =
      past-cost columns most price each is costs
      ∙ ap (λ r. (r >>= as_number (span_of formula)) >>= λ b. well (def_of columns most price b))
      ((typed_by_rules (parameter_in columns) formula (Number body)).1 typed)

  predicate-refused : (fault : BindFault) → command_def ≡ Err fault → RefusedPredicate params max cost formula fault
  predicate-refused fault h = elim (Err-steps (named 8 params) behind_params fault h) [
    | inl refuses ↦ in_params fault (names-refused 8 params fault refuses)
    | inr first ↦ elim (Err-steps (number_in 1 4294967295 max) (behind_max first.0) fault first.2) [
      | inl refuses ↦ (let out = outside-refused 1 4294967295 max fault refuses in
          subst (RefusedPredicate params max cost formula) out.1 (wrong_max first.0 (names-typed 8 params first.0 first.1) out.0))
      | inr second ↦ elim (Err-steps (cost_of cost) (behind_cost first.0 second.0) fault second.2) [
        | inl refuses ↦ wrong_cost first.0 second.0 fault (names-typed 8 params first.0 first.1) (within-typed 1 4294967295 max second.0 second.1)
            (cost-refused cost fault refuses)
        | inr third ↦ in_body first.0 second.0 third.0 (names-typed 8 params first.0 first.1) (within-typed 1 4294967295 max second.0 second.1)
            (cost-typed cost third.0 third.1) third.2
      ]
    ]
  ] where
    in_body : (columns : List Column) (most price : ℕ) → TypesNames 8 params columns → IsWithin 1 4294967295 max.0 most → TypesCost cost price
        → behind_cost columns most price ≡ Err fault → RefusedPredicate params max cost formula fault
    in_body columns most price each is costs k =
        elim (Err-steps (formula_in columns formula) (λ body. well (def_of columns most price body)) fault k) [
          | inl refuses ↦ elim (Err-steps (type_of (parameter_in columns) formula) (as_number (span_of formula)) fault refuses) [
            | inl untyped ↦ in_formula columns most price fault each is costs ((refused_by_rules (parameter_in columns) formula fault).0 untyped)
            | inr typed ↦ (let wrong = refused-no-number (span_of formula) typed.0 fault typed.2 in
                subst (RefusedPredicate params max cost formula) wrong.1
                (no_number columns most price typed.0 each is costs ((typed_by_rules (parameter_in columns) formula typed.0).0 typed.1) wrong.0))
          ]
          | inr body ↦ cc
        ]

  predicate-is_refused : (fault : BindFault) → RefusedPredicate params max cost formula fault → command_def ≡ Err fault
  predicate-is_refused fault (in_params f first) = ap (λ r. r >>= behind_params) (names-are_refused 8 params f first)
  predicate-is_refused fault (wrong_max columns each out) =
      past-params columns each ∙ ap (λ r. r >>= behind_max columns) (outside-is 1 4294967295 max out)
  predicate-is_refused fault (wrong_cost columns most f each is refused) =
      past-max columns most each is ∙ ap (λ r. r >>= behind_cost columns most) (cost-is_refused cost f refused)
  predicate-is_refused fault (in_formula columns most price f each is costs refused) =
      past-cost columns most price each is costs
      ∙ ap (λ r. (r >>= as_number (span_of formula)) >>= λ b. well (def_of columns most price b)) ((refused_by_rules (parameter_in columns) formula f).1 refused)
  predicate-is_refused fault (no_number columns most price t each is costs typed is_none) =
      past-cost columns most price each is costs
      ∙ (ap (λ r. (r >>= as_number (span_of formula)) >>= λ b. well (def_of columns most price b)) ((typed_by_rules (parameter_in columns) formula t).1 typed)
      ∙ ap (λ r. r >>= λ b. well (def_of columns most price b)) (no-number-refused (span_of formula) t is_none))

  pub predicates_by_rules : (def : PredicateDef) → (command_def ≡ Ok def) ↔ TypesPredicate name params max cost formula def
  predicates_by_rules def = (λ h. predicate-typed def h, λ h. predicate-is def h)

  pub predicates_refused_by_rules : (fault : BindFault) → (command_def ≡ Err fault) ↔ RefusedPredicate params max cost formula fault
  predicates_refused_by_rules fault = (λ h. predicate-refused fault h, λ h. predicate-is_refused fault h)

-- a rank index
module _ (catalogue : CatalogDef) (name table predicate : Name) (args : List Arg) (at : Span) where
  abbrev index_of : ℕ → ℕ → List BoundArg → IndexDef
  index_of t p bound = record { name = name.text; table = t; predicate = p; args = bound }

  abbrev own_args : ℕ → ℕ → Result (List BoundArg) BindFault
  own_args t p = term_args (index_columns catalogue table t) (params_in catalogue p) args at

  abbrev behind_predicate : ℕ → ℕ → Result IndexDef BindFault
  behind_predicate t p = own_args t p >>= λ bound. well (index_of t p bound)

  abbrev behind_table : ℕ → Result IndexDef BindFault
  behind_table t = or_fault (At NoPredicate predicate.at) (number_named what.Predicate predicate.text catalogue) >>= behind_predicate t

  abbrev command_index : Result IndexDef BindFault
  command_index = index_def_of catalogue (CreateRankIndex name table predicate args at)

  index-typed : (def : IndexDef) → command_index ≡ Ok def → TypesIndex catalogue name table predicate args def
  index-typed def h =
      let first = Ok-steps (or_fault (At NoTable table.at) (number_named what.Table table.text catalogue)) behind_table def h in
      let second = Ok-steps (or_fault (At NoPredicate predicate.at) (number_named what.Predicate predicate.text catalogue)) (behind_predicate first.0) def first.2 in
      let third = Ok-steps (own_args first.0 second.0) (λ bound. well (index_of first.0 second.0 bound)) def second.2 in
      subst (TypesIndex catalogue name table predicate args) (same_Ok (index_of first.0 second.0 third.0) def third.2) (record {
        is_named_so = refl;
        is_table = Ok-or_fault (At NoTable table.at) (number_named what.Table table.text catalogue) first.0 first.1;
        is_predicate = Ok-or_fault (At NoPredicate predicate.at) (number_named what.Predicate predicate.text catalogue) second.0 second.1;
        are_args = term_args-typed (index_columns catalogue table first.0) (params_in catalogue second.0) args at third.0 third.1;
      })

  past-table : (t : ℕ) → number_named what.Table table.text catalogue ≡ Some t → command_index ≡ behind_table t
  past-table t is = ap (λ o. or_fault (At NoTable table.at) o >>= behind_table) is

  past-predicate : (t p : ℕ) → number_named what.Table table.text catalogue ≡ Some t → number_named what.Predicate predicate.text catalogue ≡ Some p
      → command_index ≡ behind_predicate t p
  past-predicate t p is has = past-table t is ∙ ap (λ o. or_fault (At NoPredicate predicate.at) o >>= behind_predicate t) has

  index-is : (def : IndexDef) → TypesIndex catalogue name table predicate args def → command_index ≡ Ok def
  index-is def t =
      past-predicate def.table def.predicate t.is_table t.is_predicate
      ∙ (ap (λ r. r >>= λ bound. well (index_of def.table def.predicate bound))
      (term_args-are (index_columns catalogue table def.table) (params_in catalogue def.predicate) args at def.args t.are_args)
      ∙ ap (λ n. well (record { name = n; table = def.table; predicate = def.predicate; args = def.args })) (sym t.is_named_so))

  index-refused : (fault : BindFault) → command_index ≡ Err fault → RefusedIndex catalogue table predicate args at fault
  index-refused fault h = elim (Err-steps (or_fault (At NoTable table.at) (number_named what.Table table.text catalogue)) behind_table fault h) [
    | inl refuses ↦ (let missing = Err-or_fault (At NoTable table.at) fault (number_named what.Table table.text catalogue) refuses in
        subst (RefusedIndex catalogue table predicate args at) missing.1 (no_table missing.0))
    | inr first ↦ elim (Err-steps (or_fault (At NoPredicate predicate.at) (number_named what.Predicate predicate.text catalogue)) (behind_predicate first.0) fault first.2) [
      | inl refuses ↦ (let missing = Err-or_fault (At NoPredicate predicate.at) fault (number_named what.Predicate predicate.text catalogue) refuses in
          subst (RefusedIndex catalogue table predicate args at) missing.1
          (no_predicate first.0 (Ok-or_fault (At NoTable table.at) (number_named what.Table table.text catalogue) first.0 first.1) missing.0))
      | inr second ↦ elim (Err-steps (own_args first.0 second.0) (λ bound. well (index_of first.0 second.0 bound)) fault second.2) [
        | inl refuses ↦ in_args first.0 second.0 fault (Ok-or_fault (At NoTable table.at) (number_named what.Table table.text catalogue) first.0 first.1)
            (Ok-or_fault (At NoPredicate predicate.at) (number_named what.Predicate predicate.text catalogue) second.0 second.1)
            (term_args-refused (index_columns catalogue table first.0) (params_in catalogue second.0) args at fault refuses)
        | inr third ↦ cc
      ]
    ]
  ]

  index-is_refused : (fault : BindFault) → RefusedIndex catalogue table predicate args at fault → command_index ≡ Err fault
  index-is_refused fault (no_table missing) = ap (λ o. or_fault (At NoTable table.at) o >>= behind_table) missing
  index-is_refused fault (no_predicate t is missing) =
      past-table t is ∙ ap (λ o. or_fault (At NoPredicate predicate.at) o >>= behind_predicate t) missing
  index-is_refused fault (in_args t p f is has refused) =
      past-predicate t p is has
      ∙ ap (λ r. r >>= λ bound. well (index_of t p bound)) (term_args-are_refused (index_columns catalogue table t) (params_in catalogue p) args at f refused)

  pub indexes_by_rules : (def : IndexDef) → (command_index ≡ Ok def) ↔ TypesIndex catalogue name table predicate args def
  indexes_by_rules def = (λ h. index-typed def h, λ h. index-is def h)

  pub indexes_refused_by_rules : (fault : BindFault) → (command_index ≡ Err fault) ↔ RefusedIndex catalogue table predicate args at fault
  indexes_refused_by_rules fault = (λ h. index-refused fault h, λ h. index-is_refused fault h)

-- the number in FETCH
pub counts_by_rules : (count : ℤ × Span) (n : ℕ) → (count_of count ≡ Ok n) ↔ IsWithin 0 most_rows count.0 n
counts_by_rules count n = (λ h. within-typed 0 most_rows count n h, λ h. within-is 0 most_rows count n h)

pub counts_refused_by_rules : (count : ℤ × Span) (fault : BindFault) → (count_of count ≡ Err fault) ↔ (IsOutside 0 most_rows count.0 × (At LimitOf count.1 ≡ fault))
counts_refused_by_rules count fault =
    (λ h. outside-refused 0 most_rows count fault h, λ h. outside-is 0 most_rows count h.0 ∙ ap (λ f. Err f) h.1)
