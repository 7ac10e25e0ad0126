-- The columns among the arguments of a term.
use Rattle.std.proofs.Common.{ℕ, ◌≡◌, ◌<◌, List, [], ◌∷◌, length, refl, sym, ap, subst, arith, inl, inr}
use Rattle.std.specs.Prelude.{◌==◌, ◌&&◌, Some, Ok, Err, IfOk, if◌then◌else◌, zero, suc, slice_index_or}
use Rattle.std.specs.List.{AllByRecursion, list_all, list_any}
use Rattle.std.proofs.lemmas.Result.{IfOk-at_ok}
use Rattle.rs_value.specs.Answer.{Gives}
use Rattle.rs_value.specs.declared.kind.Kind.{Kind}
use Rattle.rs_value.specs.declared.kind.Kind.TheVariants as kind
use Rattle.rs_lex.specs.declared.token.Span.{Span}
use Rattle.rs_syntax.specs.declared.name.ColRef.{ColRef}
use Rattle.rs_syntax.specs.declared.name.Arg.{Arg}
use Rattle.rs_syntax.specs.declared.name.Arg.TheVariants as arg
use Rattle.rs_value.specs.Results.{◌>>=◌}
use Rattle.rs_expr.specs.Uses.{is_kind}
use Rattle.rs_catalog.specs.declared.index.BoundArg.{BoundArg}
use Rattle.rs_catalog.specs.declared.index.BoundArg.TheVariants as bound
use Rattle.rs_query.specs.WellFormed.{argument_columns}
use Rattle.rs_typing.specs.declared.fault.BindFault.TheVariants.{At, Memory}
use Rattle.rs_typing.specs.declared.fault.Why.TheVariants.{ConstantTerm, WrongCount, WrongKind}
use Rattle.rs_typing.specs.Typing.{span_of_column}
use Rattle.rs_typing.proofs.StepFacts.{Ok-steps, Ok-test}
use Rattle.rs_bind.specs.Indexes.{Entries, arg_of, args_of, is_column, of_kind, term_args}
use Rattle.rs_bind.specs.Queries.{IsEntryArg, are_outputs}
use Rattle.rs_bind.specs.Sources.{Found}
use Rattle.rs_bind.specs.Terms.{is_output}

-- the arguments that are columns are output columns
pub list_all-is_output : (items : List Found) (args : List BoundArg) → list_all (is_output items) args ≡ are_outputs (Some items) (argument_columns args)
list_all-is_output items [] = refl
list_all-is_output items (bound.Column entry column ∷ args) = ap (λ rest. is_output items (bound.Column entry column) && rest) (list_all-is_output items args)
list_all-is_output items (bound.Int n ∷ args) = list_all-is_output items args
list_all-is_output items (bound.Text t ∷ args) = list_all-is_output items args

-- what holds of each element holds of the one at an index
pub AllByRecursion-at : {A : Type 0} (P : A → Type 0) (xs : List A) (i : ℕ) (x : A) → AllByRecursion P xs → i < length xs → x ≡ slice_index_or xs i x → P x
AllByRecursion-at P [] i x all within is = absurd (omega (arith, within))
AllByRecursion-at P (y ∷ xs) zero x all within is = subst P (sym is) all.0
AllByRecursion-at P (y ∷ xs) (suc i) x all within is = AllByRecursion-at P xs i x all.1 (omega (arith, within)) is

-- where references stand for columns of six entries, the columns of a term are such
module _ (entries : Entries) (few : (c : ColRef) → IfOk (entries c) (λ found. IsEntryArg found.0)) where
  of_kind-entry : (wanted : Kind) (at : Span) (found : BoundArg × Kind) (made : BoundArg) → of_kind wanted at found ≡ Ok made → IsEntryArg found.0 → IsEntryArg made
  of_kind-entry wanted at found made h is =
      let test = Ok-test (is_kind wanted (Some found.1)) (Ok found.0) (At WrongKind at) made h in
      let same : found.0 ≡ made = cc in
      subst IsEntryArg same is

  arg_of-entry : (wanted : Kind) (a : Arg) (made : BoundArg) → arg_of entries wanted a ≡ Ok made → IsEntryArg made
  arg_of-entry wanted (arg.Column c) made h =
      let steps = Ok-steps (entries c) (of_kind wanted (span_of_column c)) made h in
      of_kind-entry wanted (span_of_column c) steps.0 made steps.2 (IfOk-at_ok (λ found. IsEntryArg found.0) steps.1 (few c))
  arg_of-entry wanted (arg.Int n at) made h = of_kind-entry wanted at (bound.Int n, kind.Int) made h tt
  arg_of-entry wanted (arg.Text text at) made h = of_kind-entry wanted at (bound.Text text, kind.Text) made h tt

  args_of-entries : (kinds : List Kind) (args : List Arg) (made : List BoundArg) → args_of entries kinds args ≡ Ok made → AllByRecursion IsEntryArg made
  args_of-entries [] args made h =
      let same : [] ≡ made = cc in
      subst (AllByRecursion IsEntryArg) same tt
  args_of-entries (wanted ∷ kinds) [] made h =
      let same : [] ≡ made = cc in
      subst (AllByRecursion IsEntryArg) same tt
  args_of-entries (wanted ∷ kinds) (a ∷ args) made h =
      let first = Ok-steps (arg_of entries wanted a) (λ b. args_of entries kinds args >>= λ bs. Ok (b ∷ bs)) made h in
      let rest = Ok-steps (args_of entries kinds args) (λ bs. Ok (first.0 ∷ bs)) made first.2 in
      let same : first.0 ∷ rest.0 ≡ made = cc in
      subst (AllByRecursion IsEntryArg) same (arg_of-entry wanted a first.0 first.1, args_of-entries kinds args rest.0 rest.1)

  term_args-entries : (kinds : List Kind) (args : List Arg) (at : Span) (made : List BoundArg) → term_args entries kinds args at ≡ Ok made
      → AllByRecursion IsEntryArg made
  term_args-entries kinds args at made h =
      let made_of = args_of entries kinds args in
      let count = Ok-test (length args == length kinds) (made_of >>= λ bs. if list_any is_column bs then Ok bs else Err (At ConstantTerm at)) (At WrongCount at) made h in
      let steps = Ok-steps made_of (λ bs. if list_any is_column bs then Ok bs else Err (At ConstantTerm at)) made count.1 in
      let test = Ok-test (list_any is_column steps.0) (Ok steps.0) (At ConstantTerm at) made steps.2 in
      let same : steps.0 ≡ made = cc in
      subst (AllByRecursion IsEntryArg) same (args_of-entries kinds args steps.0 steps.1)

  pub given-entries : (kinds : List Kind) (args : List Arg) (at : Span) (made : List BoundArg) → Gives Memory (term_args entries kinds args at) (Ok made)
      → AllByRecursion IsEntryArg made
  given-entries kinds args at made (inl h) = term_args-entries kinds args at made (sym h)
  given-entries kinds args at made (inr h) = cc
