-- Written numbers and arguments are typed, and refused, by their rules.
use Rattle.std.proofs.Common.{ℕ, ◌≡◌, ◌≢◌, ◌≤◌, ◌==◌, Bool, true, false, ◌&&◌, List, [], ◌∷◌, length, refl, sym, subst, ap, ◌∙◌, inl, inr, arith}
use Rattle.std.specs.Prelude.{ℤ, pos, negsuc, nat_le, Some, Result, Ok, Err, if◌then◌else◌}
use Rattle.std.specs.List.{list_any, zip}
use Rattle.std.proofs.lemmas.Bool.Decides.{nat_tests}
use Rattle.rs_value.specs.declared.kind.Kind.{Kind}
use Rattle.rs_value.specs.declared.kind.Kind.TheVariants as kind
use Rattle.rs_lex.specs.declared.token.Span.{Span}
use Rattle.rs_syntax.specs.declared.name.Arg.{Arg}
use Rattle.rs_syntax.specs.declared.name.Arg.TheVariants as arg
use Rattle.rs_value.specs.Results.{◌>>=◌}
use Rattle.rs_expr.specs.Uses.{is_kind}
use Rattle.rs_catalog.specs.declared.index.BoundArg.{BoundArg}
use Rattle.rs_catalog.specs.declared.index.BoundArg.TheVariants as bound
use Rattle.rs_typing.specs.declared.fault.BindFault.{BindFault}
use Rattle.rs_typing.specs.declared.fault.BindFault.TheVariants.{At}
use Rattle.rs_typing.specs.declared.fault.Why.TheVariants.{ConstantTerm, LimitOf, WrongCount, WrongKind}
use Rattle.rs_typing.specs.Typing.{span_of_column}
use Rattle.rs_typing.proofs.EachFacts.{both_true, parts_true}
use Rattle.rs_typing.proofs.ResultFacts.{same_Ok, well}
use Rattle.rs_typing.proofs.StepFacts.{Err-steps, Ok-steps, Ok-test}
use Rattle.rs_bind.specs.ArgumentRules.{IsOutside, IsWithin, RefusedArg, RefusedArgs, TypesArg, TypesArgs}
use Rattle.rs_bind.specs.ArgumentRules.{from_column, from_number, from_text, no_column, wrong_column, wrong_number, wrong_text, wrong_count, in_arg, constant}
use Rattle.rs_bind.specs.Indexes.{Entries, arg_of, args_of, is_column, of_kind, term_args}
use Rattle.rs_bind.specs.InOrder.{Each, FirstRefused}
use Rattle.rs_bind.specs.Names.{number_in}
use Rattle.rs_bind.proofs.InOrderFacts.{Each-steps, FirstRefused-steps, Follows, steps, steps-Each, steps-FirstRefused}
use Rattle.rs_bind.proofs.TermFacts.{same-kind}
use Rattle.rs_bind.proofs.TestFacts.{Err-test, apart-test, equal-test, is-apart, is-equal}

-- a number in its limits
pub within-typed : (least most : ℕ) (written : ℤ × Span) (n : ℕ) → number_in least most written ≡ Ok n → IsWithin least most written.0 n
within-typed least most (pos m, at) n h =
    let test = Ok-test (nat_le least m && nat_le m most) (well m) (At LimitOf at) n h in
    let both = parts_true (nat_le least m) (nat_le m most) test.0 in
    let same = same_Ok m n test.1 in
    subst (IsWithin least most (pos m)) same (record { is = refl; no_less = grind (arith, nat_tests, both.0); no_more = grind (arith, nat_tests, both.1) })
within-typed least most (negsuc m, at) n h = cc

in-limits : (least most n : ℕ) → least ≤ n → n ≤ most → (nat_le least n && nat_le n most) ≡ true
in-limits least most n h k =
    let first : nat_le least n ≡ true = grind (arith, nat_tests) in
    let second : nat_le n most ≡ true = grind (arith, nat_tests) in
    both_true (nat_le least n) (nat_le n most) first second

pub within-is : (least most : ℕ) (written : ℤ × Span) (n : ℕ) → IsWithin least most written.0 n → number_in least most written ≡ Ok n
within-is least most (w, at) n h =
    subst (λ z. number_in least most (z, at) ≡ Ok n) (sym h.is)
    (ap (λ b. if b then well n else Err (At LimitOf at)) (in-limits least most n h.no_less h.no_more))

pub outside-refused : (least most : ℕ) (written : ℤ × Span) (fault : BindFault) → number_in least most written ≡ Err fault
    → IsOutside least most written.0 × (At LimitOf written.1 ≡ fault)
outside-refused least most (pos m, at) fault h =
    let test = Err-test (nat_le least m && nat_le m most) (well m) (At LimitOf at) fault h in (
      λ n inside. (let is = within-is least most (pos m, at) n inside in cc),
      elim test [
        | inl fails ↦ fails.1
        | inr holds ↦ cc
      ],
    )
outside-refused least most (negsuc m, at) fault h = (λ n inside. (let is = inside.is in cc), cc)

pub outside-is : (least most : ℕ) (written : ℤ × Span) → IsOutside least most written.0 → number_in least most written ≡ Err (At LimitOf written.1)
outside-is least most (pos m, at) out = go (nat_le least m && nat_le m most) refl where
  go : (test : Bool) → (nat_le least m && nat_le m most) ≡ test → (if test then well m else Err (At LimitOf at)) ≡ Err (At LimitOf at)
  go true e = absurd (out m (within-typed least most (pos m, at) m (ap (λ b. if b then well m else Err (At LimitOf at)) e)))
  go false e = refl
outside-is least most (negsuc m, at) out = refl

-- arguments
module _ (entries : Entries) where
  abbrev arg_step : List BoundArg → Kind × Arg → Result BoundArg BindFault
  arg_step before pair = arg_of entries pair.0 pair.1

  arg-typed : (before : List BoundArg) (pair : Kind × Arg) (made : BoundArg) → arg_step before pair ≡ Ok made → TypesArg entries before pair made
  arg-typed before (wanted, arg.Column c) made h =
      let found = Ok-steps (entries c) (of_kind wanted (span_of_column c)) made h in
      let test = Ok-test (is_kind wanted (Some found.0.1)) (well found.0.0) (At WrongKind (span_of_column c)) made found.2 in
      let same = same_Ok found.0.0 made test.1 in
      let own = same-kind wanted found.0.1 test.0 in
      from_column wanted c made (found.1 ∙ (ap (λ k. well (found.0.0, k)) own ∙ ap (λ m. well (m, wanted)) same))
  arg-typed before (kind.Int, arg.Int n at) made h = subst (TypesArg entries before (kind.Int, arg.Int n at)) (same_Ok (bound.Int n) made h) (from_number n at)
  arg-typed before (kind.Text, arg.Int n at) made h = cc
  arg-typed before (kind.Int, arg.Text t at) made h = cc
  arg-typed before (kind.Text, arg.Text t at) made h = subst (TypesArg entries before (kind.Text, arg.Text t at)) (same_Ok (bound.Text t) made h) (from_text t at)

  kind-test : (wanted : Kind) → is_kind wanted (Some wanted) ≡ true
  kind-test kind.Int = refl
  kind-test kind.Text = refl

  other-kind : (wanted own : Kind) → own ≢ wanted → is_kind wanted (Some own) ≡ false
  other-kind kind.Int kind.Int h = absurd (h refl)
  other-kind kind.Text kind.Text h = absurd (h refl)
  other-kind kind.Int kind.Text h = refl
  other-kind kind.Text kind.Int h = refl

  is-other-kind : (wanted own : Kind) → is_kind wanted (Some own) ≡ false → own ≢ wanted
  is-other-kind kind.Int kind.Int h = cc
  is-other-kind kind.Text kind.Text h = cc
  is-other-kind kind.Int kind.Text h = λ e. cc
  is-other-kind kind.Text kind.Int h = λ e. cc

  arg-is : (before : List BoundArg) (pair : Kind × Arg) (made : BoundArg) → TypesArg entries before pair made → arg_step before pair ≡ Ok made
  arg-is before pair made (from_column wanted c found is) =
      ap (λ r. r >>= of_kind wanted (span_of_column c)) is
      ∙ ap (λ b. if b then well found else Err (At WrongKind (span_of_column c))) (kind-test wanted)
  arg-is before pair made (from_number n at) = refl
  arg-is before pair made (from_text t at) = refl

  arg-refused : (before : List BoundArg) (pair : Kind × Arg) (fault : BindFault) → arg_step before pair ≡ Err fault → RefusedArg entries before pair fault
  arg-refused before (wanted, arg.Column c) fault h = elim (Err-steps (entries c) (of_kind wanted (span_of_column c)) fault h) [
    | inl refuses ↦ no_column wanted c fault refuses
    | inr found ↦ elim (Err-test (is_kind wanted (Some found.0.1)) (well found.0.0) (At WrongKind (span_of_column c)) fault found.2) [
      | inl wrong ↦ subst (RefusedArg entries before (wanted, arg.Column c)) wrong.1
          (wrong_column wanted found.0.1 c found.0.0 found.1 (is-other-kind wanted found.0.1 wrong.0))
      | inr right ↦ cc
    ]
  ]
  arg-refused before (kind.Int, arg.Int n at) fault h = cc
  arg-refused before (kind.Text, arg.Int n at) fault h =
      let same : At WrongKind at ≡ fault = cc in subst (RefusedArg entries before (kind.Text, arg.Int n at)) same (wrong_number n at)
  arg-refused before (kind.Int, arg.Text t at) fault h =
      let same : At WrongKind at ≡ fault = cc in subst (RefusedArg entries before (kind.Int, arg.Text t at)) same (wrong_text t at)
  arg-refused before (kind.Text, arg.Text t at) fault h = cc

  arg-is_refused : (before : List BoundArg) (pair : Kind × Arg) (fault : BindFault) → RefusedArg entries before pair fault → arg_step before pair ≡ Err fault
  arg-is_refused before pair fault (no_column wanted c f is) = ap (λ r. r >>= of_kind wanted (span_of_column c)) is
  arg-is_refused before pair fault (wrong_column wanted own c found is apart) =
      ap (λ r. r >>= of_kind wanted (span_of_column c)) is
      ∙ ap (λ b. if b then well found else Err (At WrongKind (span_of_column c))) (other-kind wanted own apart)
  arg-is_refused before pair fault (wrong_number n at) = refl
  arg-is_refused before pair fault (wrong_text t at) = refl

  arg-follows : Follows (TypesArg entries) (RefusedArg entries) arg_step
  arg-follows = record { typed = arg-typed; is_typed = arg-is; refused = arg-refused; is_refused = arg-is_refused }

  args-steps : (before : List BoundArg) (kinds : List Kind) (args : List Arg) → args_of entries kinds args ≡ steps arg_step before (zip kinds args)
  args-steps before [] args = refl
  args-steps before (wanted ∷ kinds) [] = refl
  args-steps before (wanted ∷ kinds) (a ∷ args) = go (λ b. args-steps (b ∷ before) kinds args) (arg_of entries wanted a) where
    go : ((b : BoundArg) → args_of entries kinds args ≡ steps arg_step (b ∷ before) (zip kinds args)) → (r : Result BoundArg BindFault)
        → (r >>= λ first. args_of entries kinds args >>= λ rest. Ok (first ∷ rest))
        ≡ (r >>= λ first. steps arg_step (first ∷ before) (zip kinds args) >>= λ more. Ok (first ∷ more))
    go again (Err fault) = refl
    go again (Ok first) = ap (λ s. s >>= λ more. Ok (first ∷ more)) (again first)

  pub args-typed : (kinds : List Kind) (args : List Arg) (made : List BoundArg) → args_of entries kinds args ≡ Ok made → Each (TypesArg entries) [] (zip kinds args) made
  args-typed kinds args made h =
      Each-steps (TypesArg entries) (RefusedArg entries) arg_step arg-follows [] (zip kinds args) made (sym (args-steps [] kinds args) ∙ h)

  pub args-are : (kinds : List Kind) (args : List Arg) (made : List BoundArg) → Each (TypesArg entries) [] (zip kinds args) made → args_of entries kinds args ≡ Ok made
  args-are kinds args made each = args-steps [] kinds args ∙ steps-Each (TypesArg entries) (RefusedArg entries) arg_step arg-follows each

  args-refused : (kinds : List Kind) (args : List Arg) (fault : BindFault) → args_of entries kinds args ≡ Err fault
      → FirstRefused (TypesArg entries) (RefusedArg entries) [] (zip kinds args) fault
  args-refused kinds args fault h =
      FirstRefused-steps (TypesArg entries) (RefusedArg entries) arg_step arg-follows [] (zip kinds args) fault (sym (args-steps [] kinds args) ∙ h)

  args-are_refused : (kinds : List Kind) (args : List Arg) (fault : BindFault) → FirstRefused (TypesArg entries) (RefusedArg entries) [] (zip kinds args) fault
      → args_of entries kinds args ≡ Err fault
  args-are_refused kinds args fault first = args-steps [] kinds args ∙ steps-FirstRefused (TypesArg entries) (RefusedArg entries) arg_step arg-follows first

  -- all arguments of a predicate
  abbrev some_column : Span → List BoundArg → Result (List BoundArg) BindFault
  some_column at made = if list_any is_column made then well made else Err (At ConstantTerm at)

  abbrev counted : List Kind → List Arg → Span → Result (List BoundArg) BindFault
  counted params args at = args_of entries params args >>= some_column at

  pub term_args-typed : (params : List Kind) (args : List Arg) (at : Span) (made : List BoundArg) → term_args entries params args at ≡ Ok made
      → TypesArgs entries params args made
  term_args-typed params args at made h =
      let count = Ok-test (length args == length params) (counted params args at) (At WrongCount at) made h in
      let found = Ok-steps (args_of entries params args) (some_column at) made count.1 in
      let some = Ok-test (list_any is_column found.0) (well found.0) (At ConstantTerm at) made found.2 in
      let same = same_Ok found.0 made some.1 in
      subst (TypesArgs entries params args) same
      (record { count = is-equal (length args) (length params) count.0; each = args-typed params args found.0 found.1; column = some.0 })

  -- the steps of arguments whose number is right
  past-count : (params : List Kind) (args : List Arg) (at : Span) → length args ≡ length params → term_args entries params args at ≡ counted params args at
  past-count params args at count =
      ap (λ b. if b then counted params args at else Err (At WrongCount at)) (equal-test (length args) (length params) count)

  past-each : (params : List Kind) (args : List Arg) (at : Span) (made : List BoundArg) → length args ≡ length params
      → Each (TypesArg entries) [] (zip params args) made → term_args entries params args at ≡ some_column at made
  past-each params args at made count each =
      past-count params args at count ∙ ap (λ r. r >>= some_column at) (args-are params args made each)

  pub term_args-are : (params : List Kind) (args : List Arg) (at : Span) (made : List BoundArg) → TypesArgs entries params args made
      → term_args entries params args at ≡ Ok made
  term_args-are params args at made t =
      past-each params args at made t.count t.each ∙ ap (λ b. if b then well made else Err (At ConstantTerm at)) t.column

  pub term_args-refused : (params : List Kind) (args : List Arg) (at : Span) (fault : BindFault) → term_args entries params args at ≡ Err fault
      → RefusedArgs entries params args at fault
  term_args-refused params args at fault h =
      elim (Err-test (length args == length params) (counted params args at) (At WrongCount at) fault h) [
        | inl fails ↦ subst (RefusedArgs entries params args at) fails.1 (wrong_count (is-apart (length args) (length params) fails.0))
        | inr counts ↦ behind_count (is-equal (length args) (length params) counts.0) counts.1
      ] where
        behind_count : length args ≡ length params → counted params args at ≡ Err fault → RefusedArgs entries params args at fault
        behind_count count k = elim (Err-steps (args_of entries params args) (some_column at) fault k) [
          | inl refuses ↦ in_arg fault count (args-refused params args fault refuses)
          | inr found ↦ elim (Err-test (list_any is_column found.0) (well found.0) (At ConstantTerm at) fault found.2) [
            | inl lacks ↦ subst (RefusedArgs entries params args at) lacks.1 (constant found.0 count (args-typed params args found.0 found.1) lacks.0)
            | inr some ↦ cc
          ]
        ]

  pub term_args-are_refused : (params : List Kind) (args : List Arg) (at : Span) (fault : BindFault) → RefusedArgs entries params args at fault
      → term_args entries params args at ≡ Err fault
  term_args-are_refused params args at fault (wrong_count apart) =
      ap (λ b. if b then counted params args at else Err (At WrongCount at)) (apart-test (length args) (length params) apart)
  term_args-are_refused params args at fault (in_arg f count first) =
      past-count params args at count ∙ ap (λ r. r >>= some_column at) (args-are_refused params args f first)
  term_args-are_refused params args at fault (constant made count each lacks) =
      past-each params args at made count each ∙ ap (λ b. if b then well made else Err (At ConstantTerm at)) lacks
