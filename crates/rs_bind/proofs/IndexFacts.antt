-- A rank index whose binding is well is one of the catalogue.
use Rattle.std.proofs.Common.{◌≡◌, ℕ, true, List, [], ◌∷◌, length, sym, subst, ap, ◌∙◌, refl, arith, inl, inr}
use Rattle.std.specs.Prelude.{ℤ, nat_abs, ◌&&◌, ◌≤◌, Option, Some, None, option_map, Result, Ok, Err, unwrap_or, ◌==◌, if◌then◌else◌}
use Rattle.std.specs.List.{list_any}
use Rattle.std.proofs.lemmas.Bool.{le-leb}
use Rattle.std.proofs.lemmas.Bool.Decides.{nat_tests}
use Rattle.rs_value.specs.Answer.{Gives}
use Rattle.rs_value.specs.Number.{greatest_int}
use Rattle.rs_value.specs.declared.kind.Kind.{Kind}
use Rattle.rs_value.specs.declared.kind.Kind.TheVariants as kind
use Rattle.rs_lex.specs.declared.token.Span.{Span}
use Rattle.rs_syntax.specs.declared.name.ColRef.{ColRef}
use Rattle.rs_syntax.specs.declared.name.Name.{Name}
use Rattle.rs_syntax.specs.declared.name.Arg.{Arg}
use Rattle.rs_syntax.specs.declared.name.Arg.TheVariants as arg
use Rattle.rs_syntax.specs.Syntax.{Command, CreateRankIndex}
use Rattle.rs_table.specs.Column.{Column}
use Rattle.rs_value.specs.Results.{◌>>=◌}
use Rattle.rs_expr.specs.Predicates.{PredicateDef}
use Rattle.rs_expr.specs.Uses.{is_kind}
use Rattle.rs_catalog.specs.Catalog.{CatalogDef, NamedTable, number_named}
use Rattle.rs_catalog.specs.declared.room.What.TheVariants as what
use Rattle.rs_catalog.specs.declared.index.IndexDef.{IndexDef}
use Rattle.rs_catalog.specs.Indexes.{IsIndex, arg_fits, args_fit}
use Rattle.rs_catalog.specs.declared.index.BoundArg.{BoundArg}
use Rattle.rs_catalog.specs.declared.index.BoundArg.TheVariants as bound
use Rattle.rs_typing.specs.declared.fault.BindFault.{BindFault}
use Rattle.rs_typing.specs.declared.fault.BindFault.TheVariants.{At, Memory}
use Rattle.rs_typing.specs.declared.fault.Why.TheVariants.{ConstantTerm, NoColumn, NoPredicate, NoTable, WrongCount, WrongKind}
use Rattle.rs_typing.specs.Missing.{or_fault}
use Rattle.rs_typing.specs.Parameters.{placed}
use Rattle.rs_typing.specs.Typing.{span_of_column}
use Rattle.rs_bind.specs.Indexes.{arg_of, args_of, columns_in, entry_column, in_first_entry, index_def_of, is_column, is_of_entry, of_kind, params_in, term_args}
use Rattle.rs_syntax.specs.Written.{IsWritten, IsWrittenArg, AreWrittenArgs}
use Rattle.rs_typing.proofs.StepFacts.{Ok-steps, Ok-test, Ok-or_fault}
use Rattle.rs_bind.proofs.PlaceFacts.{kind-placed, slice_get-numbered}

-- a column of the entry, of the kind that is wanted
fits-found : (columns : List Column) (wanted : Kind) (name : List ℕ) (found : ℕ × Kind) (made : BoundArg) → placed name columns ≡ Some found
    → is_kind wanted (Some found.1) ≡ true → bound.Column 1 found.0 ≡ made → arg_fits columns wanted made ≡ true
fits-found columns wanted name found made is_found is_wanted same =
    subst (λ b. arg_fits columns wanted b ≡ true) same (ap (is_kind wanted) (kind-placed name columns found is_found) ∙ is_wanted)

fits-column : (columns : List Column) (alias : List ℕ) (wanted : Kind) (c : ColRef) (made : BoundArg)
    → arg_of (entry_column alias columns) wanted (arg.Column c) ≡ Ok made → arg_fits columns wanted made ≡ true
fits-column columns alias wanted c made h =
    let steps = Ok-steps (entry_column alias columns c) (of_kind wanted (span_of_column c)) made h in
    let test = Ok-test (is_kind wanted (Some steps.0.1)) (Ok steps.0.0) (At WrongKind (span_of_column c)) made steps.2 in
    let fault = At NoColumn (span_of_column c) in
    let entry = Ok-test (is_of_entry alias c.alias) (or_fault fault (option_map in_first_entry (placed c.column.text columns))) fault steps.0 steps.1 in
    let is_made : steps.0.0 ≡ made = cc in
    go (placed c.column.text columns) refl steps.0 (Ok-or_fault fault (option_map in_first_entry (placed c.column.text columns)) steps.0 entry.1) test.0 is_made where
      go : (place : Option (ℕ × Kind)) → placed c.column.text columns ≡ place → (found : BoundArg × Kind) → option_map in_first_entry place ≡ Some found
          → is_kind wanted (Some found.1) ≡ true → found.0 ≡ made → arg_fits columns wanted made ≡ true
      go None is found e is_wanted is_made = cc
      go (Some place) is found e is_wanted is_made =
          let is_found : in_first_entry place ≡ found = cc in
          fits-found columns wanted c.column.text place made is (subst (λ (f : BoundArg × Kind). is_kind wanted (Some f.1) ≡ true) (sym is_found) is_wanted)
          (ap (λ (f : BoundArg × Kind). f.0) is_found ∙ is_made)

fits-int : (columns : List Column) (wanted : Kind) (n : ℤ) (at : Span) (made : BoundArg) → nat_abs n ≤ greatest_int
    → of_kind wanted at (bound.Int n, kind.Int) ≡ Ok made → arg_fits columns wanted made ≡ true
fits-int columns kind.Int n at made within h =
    let same : bound.Int n ≡ made = cc in
    subst (λ b. arg_fits columns kind.Int b ≡ true) same (le-leb (nat_abs n) greatest_int within)
fits-int columns kind.Text n at made within h = cc

fits-text : (columns : List Column) (wanted : Kind) (text : List ℕ) (at : Span) (made : BoundArg)
    → of_kind wanted at (bound.Text text, kind.Text) ≡ Ok made → arg_fits columns wanted made ≡ true
fits-text columns kind.Int text at made h = cc
fits-text columns kind.Text text at made h =
    let same : bound.Text text ≡ made = cc in
    subst (λ b. arg_fits columns kind.Text b ≡ true) same refl

fits-arg : (columns : List Column) (alias : List ℕ) (wanted : Kind) (a : Arg) (made : BoundArg) → IsWrittenArg a
    → arg_of (entry_column alias columns) wanted a ≡ Ok made → arg_fits columns wanted made ≡ true
fits-arg columns alias wanted (arg.Column c) made written h = fits-column columns alias wanted c made h
fits-arg columns alias wanted (arg.Int n at) made written h = fits-int columns wanted n at made written h
fits-arg columns alias wanted (arg.Text text at) made written h = fits-text columns wanted text at made h

-- arguments, as many as parameters
fits-args : (columns : List Column) (alias : List ℕ) (kinds : List Kind) (args : List Arg) (made : List BoundArg) → AreWrittenArgs args
    → length args ≡ length kinds → args_of (entry_column alias columns) kinds args ≡ Ok made → args_fit columns kinds made ≡ true
fits-args columns alias [] args made written many h =
    let same : [] ≡ made = cc in
    subst (λ bs. args_fit columns [] bs ≡ true) same refl
fits-args columns alias (wanted ∷ kinds) [] made written many h = absurd (omega (arith, many))
fits-args columns alias (wanted ∷ kinds) (a ∷ args) made written many h =
    let first = Ok-steps (arg_of (entry_column alias columns) wanted a) (λ b. args_of (entry_column alias columns) kinds args >>= λ bs. Ok (b ∷ bs)) made h in
    let rest = Ok-steps (args_of (entry_column alias columns) kinds args) (λ bs. Ok (first.0 ∷ bs)) made first.2 in
    let same : first.0 ∷ rest.0 ≡ made = cc in
    subst (λ bs. args_fit columns (wanted ∷ kinds) bs ≡ true) same
    (ap (λ b. b && args_fit columns kinds rest.0) (fits-arg columns alias wanted a first.0 written.0 first.1)
    ∙ fits-args columns alias kinds args rest.0 written.1 (omega (arith, many)) rest.1)

fits-term : (columns : List Column) (alias : List ℕ) (kinds : List Kind) (args : List Arg) (at : Span) (made : List BoundArg) → AreWrittenArgs args
    → term_args (entry_column alias columns) kinds args at ≡ Ok made → args_fit columns kinds made ≡ true
fits-term columns alias kinds args at made written h =
    let made_of = args_of (entry_column alias columns) kinds args in
    let count = Ok-test (length args == length kinds) (made_of >>= λ bs. if list_any is_column bs then Ok bs else Err (At ConstantTerm at)) (At WrongCount at) made h in
    let steps = Ok-steps made_of (λ bs. if list_any is_column bs then Ok bs else Err (At ConstantTerm at)) made count.1 in
    let test = Ok-test (list_any is_column steps.0) (Ok steps.0) (At ConstantTerm at) made steps.2 in
    let same : steps.0 ≡ made = cc in
    subst (λ bs. args_fit columns kinds bs ≡ true) same (fits-args columns alias kinds args steps.0 written (grind (arith, nat_tests)) steps.1)

-- the index of a statement, behind its table, its predicate and its arguments
module _ (catalogue : CatalogDef) (name table predicate : Name) (args : List Arg) (at : Span) where
  abbrev of_args : ℕ → ℕ → List BoundArg → IndexDef
  of_args t p made = record { name = name.text; table = t; predicate = p; args = made }

  abbrev of_predicate : ℕ → ℕ → Result IndexDef BindFault
  of_predicate t p = term_args (entry_column table.text (columns_in catalogue t)) (params_in catalogue p) args at >>= λ made. Ok (of_args t p made)

  abbrev of_table : ℕ → Result IndexDef BindFault
  of_table t = or_fault (At NoPredicate predicate.at) (number_named what.Predicate predicate.text catalogue) >>= of_predicate t

  IsIndex-of_args : (t p : ℕ) (made : List BoundArg) → AreWrittenArgs args → number_named what.Table table.text catalogue ≡ Some t
      → number_named what.Predicate predicate.text catalogue ≡ Some p
      → term_args (entry_column table.text (columns_in catalogue t)) (params_in catalogue p) args at ≡ Ok made → IsIndex catalogue (of_args t p made)
  IsIndex-of_args t p made written is_table is_predicate h =
      let found = slice_get-numbered (λ t. t.name) catalogue.tables table.text t is_table in
      let called = slice_get-numbered (λ p. p.name) catalogue.predicates predicate.text p is_predicate in
      let is_schema : columns_in catalogue t ≡ found.0.table.schema = ap (λ o. unwrap_or (option_map (λ (n : NamedTable). n.table.schema) o) []) found.1 in
      let is_params : params_in catalogue p ≡ called.0.params = ap (λ o. unwrap_or (option_map (λ (q : PredicateDef). q.params) o) []) called.1 in
      record {
        table = found.0;
        has_table = found.1;
        predicate = called.0;
        has_predicate = called.1;
        fits =
            ap (λ columns. args_fit columns called.0.params made) (sym is_schema)
            ∙ (ap (λ kinds. args_fit (columns_in catalogue t) kinds made) (sym is_params)
            ∙ fits-term (columns_in catalogue t) table.text (params_in catalogue p) args at made written h);
      }

  IsIndex-index_def_of : (def : IndexDef) → AreWrittenArgs args → index_def_of catalogue (CreateRankIndex name table predicate args at) ≡ Ok def
      → IsIndex catalogue def
  IsIndex-index_def_of def written h =
      let first = Ok-steps (or_fault (At NoTable table.at) (number_named what.Table table.text catalogue)) of_table def h in
      let second = Ok-steps (or_fault (At NoPredicate predicate.at) (number_named what.Predicate predicate.text catalogue)) (of_predicate first.0) def first.2 in
      let third = Ok-steps (term_args (entry_column table.text (columns_in catalogue first.0)) (params_in catalogue second.0) args at)
      (λ made. Ok (of_args first.0 second.0 made)) def second.2 in
      let same : of_args first.0 second.0 third.0 ≡ def = cc in
      subst (IsIndex catalogue) {x = of_args first.0 second.0 third.0} same (IsIndex-of_args first.0 second.0 third.0 written
      (Ok-or_fault (At NoTable table.at) (number_named what.Table table.text catalogue) first.0 first.1)
      (Ok-or_fault (At NoPredicate predicate.at) (number_named what.Predicate predicate.text catalogue) second.0 second.1) third.1)

IsIndex-of_command : (catalogue : CatalogDef) (command : Command) (def : IndexDef) → IsWritten command → index_def_of catalogue command ≡ Ok def
    → IsIndex catalogue def
IsIndex-of_command catalogue (CreateRankIndex name table predicate args at) def written h = IsIndex-index_def_of catalogue name table predicate args at def written h
IsIndex-of_command catalogue command def written h = cc

-- what is given is that index
pub IsIndex-given : (catalogue : CatalogDef) (command : Command) (def : IndexDef) → IsWritten command → Gives Memory (index_def_of catalogue command) (Ok def)
    → IsIndex catalogue def
IsIndex-given catalogue command def written (inl h) = IsIndex-of_command catalogue command def written (sym h)
IsIndex-given catalogue command def written (inr h) = cc
