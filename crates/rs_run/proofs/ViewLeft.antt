-- What a statement under the word `view` leaves that ends without a fault: what is so of the state that each form of statement leaves is so of the state behind it.
use Rattle.std.proofs.Common.{ℕ, ◌≡◌, Bool, true, false, List, refl, sym, ap, subst}
use Rattle.std.specs.Prelude.{ℤ, Result, Ok, Err, if◌then◌else◌}
use Rattle.rs_lex.specs.declared.token.Span.{Span}
use Rattle.rs_rank.specs.declared.answer.Answer.{Answer}
use Rattle.rs_syntax.specs.Syntax.{Ask, Close, Command, CreatePredicate, CreateRankIndex, CreateTable, Declare, Explain, ExplainAnalyze, Fetch, Insert}
use Rattle.rs_syntax.specs.Syntax as syntax
use Rattle.rs_syntax.specs.declared.name.Name.{Name}
use Rattle.rs_syntax.specs.declared.row.RowSyn.{RowSyn}
use Rattle.rs_expr.specs.Scoring.{Answering}
use Rattle.rs_catalog.specs.Catalog.{CatalogDef}
use Rattle.rs_bind.specs.Queries.{bound_query}
use Rattle.rs_typing.specs.declared.fault.BindFault.{BindFault}
use Rattle.rs_query.specs.declared.query.Query.{Query}
use Rattle.rs_query.specs.declared.query.Query.TheVariants.{One, Set}
use Rattle.rs_plain.specs.declared.fault.PlainFault.{PlainFault}
use Rattle.rs_view.specs.Fresh.{making}
use Rattle.rs_view.specs.Views.{IsKeepable, ViewDef}
use Rattle.rs_outside.specs.Files.{Finds}
use Rattle.rs_events.specs.Sequence.{Step, lines_step, still}
use Rattle.rs_events.proofs.SteppedFacts.{step_of}
use Rattle.rs_statement.specs.declared.evaluating.Evaluating.TheVariants.{Plainly}
use Rattle.rs_statement.specs.declared.fault.Fault.{Fault}
use Rattle.rs_statement.specs.Lines.{rank_lines}
use Rattle.rs_statement.specs.Statements.{Does, bind_fault, or_bind_fault, refused_or}
use Rattle.rs_statement.specs.Steps as statement
use Rattle.rs_statement.proofs.HeldSteps.{Ok-then}
use Rattle.rs_run.specs.declared.fault.RunFault.{RunFault}
use Rattle.rs_run.specs.declared.fault.RunFault.TheVariants.{NotEligible, Statement}
use Rattle.rs_run.specs.declared.fault.ScriptWord.TheVariants.{View}
use Rattle.rs_run.specs.Told.{told_result, told_step}
use Rattle.rs_run.specs.Viewing.{DoesByViews, HeldView, Kept, beside_views, close_outcome, declared_step, fetch_step, fetched_rows, grown_outcome, growing_all, joined_step, made_outcome, made_step, named_step, room_for_view, view_named, viewed_or, viewed_step, with_view, without_view}
use Rattle.rs_run.proofs.ScanSteps.{IsTold}

-- a statement that makes a table, a predicate or an index
abbrev pub IsMaking : Command → Type 0
IsMaking (CreateTable name columns file) = Unit {0}
IsMaking (CreatePredicate name params max cost formula) = Unit {0}
IsMaking (CreateRankIndex name table predicate args at) = Unit {0}
IsMaking _ = ⊥

module _ (finds : Finds) (answer : Answering) (kept : Kept) (P : Command → Kept → Type 0)
    (fetched : (count : ℤ × Span) (name : Name) → P (Fetch count name) kept)
    (closed : (name : Name) → P (Close name) (without_view name.text kept))
    (declared : (name : Name) (query : syntax.Query) (bound : Query) (view : ViewDef) → bound_query kept.catalogue query ≡ Ok bound → IsKeepable bound
    → room_for_view name.text kept.views ≡ Ok tt → (making answer kept.catalogue bound).outcome ≡ Ok view → P (Declare name query) (with_view name.text view kept))
    (made : (command : Command) (own : statement.Step CatalogDef) (catalogue : CatalogDef) → IsMaking command → Does finds answer Plainly kept.catalogue command own
    → own.outcome ≡ Ok catalogue → P command (record { catalogue = catalogue; views = kept.views }))
    (joined : (table : Name) (rows : List RowSyn) (own : statement.Step CatalogDef) (catalogue : CatalogDef) (views : List HeldView)
    → Does finds answer Plainly kept.catalogue (Insert table rows) own → own.outcome ≡ Ok catalogue → (growing_all answer catalogue kept.views).outcome ≡ Ok views
    → P (Insert table rows) (record { catalogue = catalogue; views = views })) where
  -- what a step leaves, with the faults of statements, and with those of a run
  abbrev Leaves : Command → Result Kept Fault → Type 0
  Leaves command outcome = (next : Kept) → outcome ≡ Ok next → P command next

  abbrev LeavesRun : Command → Result Kept RunFault → Type 0
  LeavesRun command outcome = (next : Kept) → outcome ≡ Ok next → P command next

  leaves-none : (command : Command) (fault : Fault) → Leaves command (Err fault)
  leaves-none command fault next e = absurd cc

  leaves-kept : (command : Command) (left : Kept) → P command left → Leaves command (Ok left)
  leaves-kept command left holds next e = let is : left ≡ next = cc in subst (P command) is holds

  leaves-step : (command : Command) (made step : statement.Step Kept) → step ≡ made → Leaves command made.outcome → Leaves command step.outcome
  leaves-step command made step is each = subst (λ (s : statement.Step Kept). Leaves command s.outcome) (sym is) each

  leaves-fetched : (count : ℤ × Span) (name : Name) (rows : Result (List Answer) Fault)
      → Leaves (Fetch count name) (refused_or (λ rows. lines_step {S = Kept} (rank_lines 1 rows) kept) rows).outcome
  leaves-fetched count name (Ok rows) = leaves-kept (Fetch count name) kept (fetched count name)
  leaves-fetched count name (Err fault) = leaves-none (Fetch count name) fault

  leaves-closed : (name : Name) → Leaves (Close name) (close_outcome kept name)
  leaves-closed name next e =
      let found = Ok-then (view_named name.text kept.views) _ next e in
      leaves-kept (Close name) (without_view name.text kept) (closed name) next found.2

  leaves-making : (command : Command) (step : statement.Step Kept) → IsMaking command
      → (own : statement.Step CatalogDef) × Does finds answer Plainly kept.catalogue command own × (step ≡ beside_views kept.views own) → Leaves command step.outcome
  leaves-making command step is does =
      leaves-step command (beside_views kept.views does.0) step does.2
      (λ next e.
      let one = Ok-then does.0.outcome _ next e in
      leaves-kept command (record { catalogue = one.0; views = kept.views }) (made command does.0 one.0 is does.1 one.1) next one.2)

  leaves-joined : (table : Name) (rows : List RowSyn) (own : statement.Step CatalogDef) → Does finds answer Plainly kept.catalogue (Insert table rows) own
      → Leaves (Insert table rows) (joined_step answer kept.views own).outcome
  leaves-joined table rows own does = go own.outcome refl where
    grown : (catalogue : CatalogDef) → own.outcome ≡ Ok catalogue → (outcome : Result (List HeldView) PlainFault) → (growing_all answer catalogue kept.views).outcome ≡ outcome
        → Leaves (Insert table rows) (grown_outcome catalogue outcome)
    grown catalogue is (Ok views) gives = leaves-kept (Insert table rows) (record { catalogue = catalogue; views = views }) (joined table rows own catalogue views does is gives)
    grown catalogue is (Err fault) gives = λ next e. absurd cc

    go : (outcome : Result CatalogDef Fault) → own.outcome ≡ outcome → Leaves (Insert table rows) (joined_step answer kept.views (step_of own.events outcome)).outcome
    go (Ok catalogue) is = grown catalogue is (growing_all answer catalogue kept.views).outcome refl
    go (Err fault) is = leaves-none (Insert table rows) fault

  -- told as one of words
  run-none : (command : Command) (fault : RunFault) → LeavesRun command (Err fault)
  run-none command fault next e = absurd cc

  run-step : (command : Command) (made step : Step RunFault Kept) → step ≡ made → LeavesRun command made.outcome → LeavesRun command step.outcome
  run-step command made step is each = subst (λ (s : Step RunFault Kept). LeavesRun command s.outcome) (sym is) each

  leaves-told : (command : Command) (own : statement.Step Kept) → Leaves command own.outcome → LeavesRun command (told_step Statement own).outcome
  leaves-told command own = go own.outcome where
    go : (outcome : Result Kept Fault) → Leaves command outcome → LeavesRun command (told_result Statement outcome)
    go (Ok left) each = λ next e. each next (let is : left ≡ next = cc in ap Ok is)
    go (Err fault) each = run-none command (Statement fault)

  -- a DECLARE
  module _ (name : Name) (query : syntax.Query) where
    leaves-made : (bound : Query) → bound_query kept.catalogue query ≡ Ok bound → IsKeepable bound → room_for_view name.text kept.views ≡ Ok tt
        → Leaves (Declare name query) (made_step answer name.text kept bound).outcome
    leaves-made bound is keepable room = go (making answer kept.catalogue bound).outcome refl where
      go : (outcome : Result ViewDef PlainFault) → (making answer kept.catalogue bound).outcome ≡ outcome → Leaves (Declare name query) (made_outcome name.text kept outcome)
      go (Ok view) gives = leaves-kept (Declare name query) (with_view name.text view kept) (declared name query bound view is keepable room gives)
      go (Err fault) gives = λ next e. absurd cc

    leaves-named : (bound : Query) → bound_query kept.catalogue query ≡ Ok bound → IsKeepable bound → Leaves (Declare name query) (named_step answer name.text kept bound).outcome
    leaves-named bound is keepable = go (room_for_view name.text kept.views) refl where
      go : (room : Result (Unit {0}) Fault) → room_for_view name.text kept.views ≡ room → Leaves (Declare name query) (refused_or (λ room. made_step answer name.text kept bound) room).outcome
      go (Ok room) some = leaves-made bound is keepable some
      go (Err fault) none = leaves-none (Declare name query) fault

    leaves-viewed : (number : ℕ) (bound : Query) → bound_query kept.catalogue query ≡ Ok bound → LeavesRun (Declare name query) (viewed_step answer number name.text kept bound).outcome
    leaves-viewed number (Set op left right limit) is = run-none (Declare name query) (NotEligible View number)
    leaves-viewed number (One block limit) is = go block.distinct refl where
      go : (b : Bool) → block.distinct ≡ b
          → LeavesRun (Declare name query) (if b then still (Err (NotEligible View number)) else told_step Statement (named_step answer name.text kept (One block limit))).outcome
      go true distinct = run-none (Declare name query) (NotEligible View number)
      go false distinct =
          leaves-told (Declare name query) (named_step answer name.text kept (One block limit))
          (leaves-named (One block limit) is distinct)

    leaves-declared : (number : ℕ) → LeavesRun (Declare name query) (declared_step answer number kept name query).outcome
    leaves-declared number = go (bound_query kept.catalogue query) refl where
      go : (bound : Result Query BindFault) → bound_query kept.catalogue query ≡ bound → LeavesRun (Declare name query) (viewed_or answer number name.text kept (or_bind_fault bound)).outcome
      go (Ok bound) is = leaves-viewed number bound is
      go (Err fault) is = run-none (Declare name query) (Statement (bind_fault fault))

  -- each form of statement
  run-making : (command : Command) (step : Step RunFault Kept) → IsMaking command
      → IsTold (λ (step : statement.Step Kept). (own : statement.Step CatalogDef) × Does finds answer Plainly kept.catalogue command own × (step ≡ beside_views kept.views own)) step
      → LeavesRun command step.outcome
  run-making command step is does = run-step command (told_step Statement does.0) step does.2 (leaves-told command does.0 (leaves-making command does.0 is does.1))

  pub view-step : (number : ℕ) (command : Command) (step : Step RunFault Kept) (next : Kept) → DoesByViews finds answer number kept command step → step.outcome ≡ Ok next → P command next
  view-step number (Declare name query) step next does =
      run-step (Declare name query) (declared_step answer number kept name query) step does (leaves-declared name query number) next
  view-step number (Ask query) step next does = run-step (Ask query) (still (Err (NotEligible View number))) step does (run-none (Ask query) (NotEligible View number)) next
  view-step number (Explain query) step next does = run-step (Explain query) (still (Err (NotEligible View number))) step does (run-none (Explain query) (NotEligible View number)) next
  view-step number (ExplainAnalyze query) step next does =
      run-step (ExplainAnalyze query) (still (Err (NotEligible View number))) step does (run-none (ExplainAnalyze query) (NotEligible View number)) next
  view-step number (Fetch count name) step next does =
      run-step (Fetch count name) (told_step Statement does.0) step does.2
      (leaves-told (Fetch count name) does.0 (leaves-step (Fetch count name) (fetch_step kept count name) does.0 does.1 (leaves-fetched count name (fetched_rows kept count name)))) next
  view-step number (Close name) step next does =
      run-step (Close name) (told_step Statement does.0) step does.2
      (leaves-told (Close name) does.0 (leaves-step (Close name) (still (close_outcome kept name)) does.0 does.1 (leaves-closed name))) next
  view-step number (CreateTable name columns file) step next does = run-making (CreateTable name columns file) step tt does next
  view-step number (CreatePredicate name params max cost formula) step next does = run-making (CreatePredicate name params max cost formula) step tt does next
  view-step number (CreateRankIndex name table predicate args at) step next does = run-making (CreateRankIndex name table predicate args at) step tt does next
  view-step number (Insert table rows) step next does =
      run-step (Insert table rows) (told_step Statement does.0) step does.2
      (leaves-told (Insert table rows) does.0
      (leaves-step (Insert table rows) (joined_step answer kept.views does.1.0) does.0 does.1.2 (leaves-joined table rows does.1.0 does.1.1))) next
