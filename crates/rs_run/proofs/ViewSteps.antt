-- What the statements of a script did whose queries are kept as views, from what their parts did.
use Rattle.std.proofs.Common.{ℕ, ℤ, ◌≡◌, ◌∙◌, List, Bool, true, false, refl, sym, ap, subst, inl, inr}
use Rattle.std.specs.Prelude.{IfOk, Option, Result, Ok, Err, if◌then◌else◌}
use Rattle.rs_value.specs.Answer.{Gives}
use Rattle.rs_value.specs.Results.{◌>>=◌}
use Rattle.rs_lex.specs.declared.token.Span.{Span}
use Rattle.rs_syntax.specs.Syntax.{Ask, Close, Command, CreatePredicate, CreateRankIndex, CreateTable, Declare, Explain, ExplainAnalyze, Insert, command_of}
use Rattle.rs_syntax.specs.Syntax as syntax
use Rattle.rs_syntax.specs.declared.name.Name.{Name}
use Rattle.rs_syntax.specs.declared.row.RowSyn.{RowSyn}
use Rattle.rs_syntax.specs.declared.select.Select.{Select}
use Rattle.rs_syntax.specs.declared.statement.Statement as syntax_statement
use Rattle.rs_syntax.specs.declared.statement.Statement.TheVariants as syntax_variants
use Rattle.rs_expr.specs.Scoring.{Answering}
use Rattle.rs_catalog.specs.Catalog.{CatalogDef}
use Rattle.rs_query.specs.declared.query.Query.{Query}
use Rattle.rs_query.specs.declared.query.Query.TheVariants.{One, Set}
use Rattle.rs_view.specs.Views.{IsKeepable}
use Rattle.rs_events.specs.Environment.{Environment}
use Rattle.rs_outside.specs.Files.{Finds}
use Rattle.rs_events.specs.Run.{Run}
use Rattle.rs_events.specs.Running.{Ran, Stepped}
use Rattle.rs_events.specs.Sequence.{Step, run_of, still}
use Rattle.rs_events.proofs.SteppedFacts.{Stepped-map, Stepped-no_memory, Stepped-still}
use Rattle.rs_statement.specs.declared.evaluating.Evaluating.TheVariants.{Plainly}
use Rattle.rs_statement.specs.declared.fault.Fault.{Fault}
use Rattle.rs_statement.specs.declared.fault.Fault.TheVariants.{Memory}
use Rattle.rs_statement.specs.Parts.Session.{IsOfNoCursor}
use Rattle.rs_bind.specs.Inserts.{IsInsert, insert_of}
use Rattle.rs_statement.specs.Inserts.{insert_step}
use Rattle.rs_statement.specs.Statements.{Does, or_bind_fault, refused_or}
use Rattle.rs_statement.specs.Steps as statement
use Rattle.rs_statement.specs.Steps.{statement_faults}
use Rattle.rs_statement.proofs.StatementFacts.{Does-finds}
use Rattle.rs_run.specs.declared.fault.RunFault.{RunFault}
use Rattle.rs_run.specs.declared.fault.RunFault.TheVariants.{NotEligible, Statement}
use Rattle.rs_run.specs.declared.fault.ScriptWord.TheVariants.{View}
use Rattle.rs_run.specs.Faults.{run_faults}
use Rattle.rs_run.specs.Parts.Holding.{IsKept}
use Rattle.rs_run.specs.Told.{told_step}
use Rattle.rs_run.specs.Viewing.{DoesByViews, DoesKept, HeldView, Kept, beside_views, joined_step, named_step, viewed_or, viewed_step}
use Rattle.rs_run.proofs.ScanSteps.{IsTold}

-- what a statement does where files hold as much
DoesKept-finds : (a b : Finds) → ((name : List ℕ) (there : Option (List ℕ)) → a name there → b name there) → (answer : Answering) (kept : Kept) (command : Command)
    (step : statement.Step Kept) → IsKept command → DoesKept a answer kept command step → DoesKept b answer kept command step
DoesKept-finds a b more answer kept command step is does = go command is does where
  own : (command : Command) (leaves : statement.Step CatalogDef → statement.Step Kept)
      → (made : statement.Step CatalogDef) × Does a answer Plainly kept.catalogue command made × (step ≡ leaves made)
      → (made : statement.Step CatalogDef) × Does b answer Plainly kept.catalogue command made × (step ≡ leaves made)
  own command leaves does = (does.0, Does-finds a b more answer Plainly kept.catalogue command does.0 does.1, does.2)

  go : (command : Command) → IsKept command → DoesKept a answer kept command step → DoesKept b answer kept command step
  go (CreateTable name columns file) is does = own (CreateTable name columns file) (beside_views kept.views) does
  go (CreatePredicate name params max cost formula) is does = own (CreatePredicate name params max cost formula) (beside_views kept.views) does
  go (CreateRankIndex name table predicate args at) is does = own (CreateRankIndex name table predicate args at) (beside_views kept.views) does
  go (Insert table rows) is does = own (Insert table rows) (joined_step answer kept.views) does
  go (syntax.Fetch count name) is does = does
  go (Close name) is does = does
  go (Ask query) is does = absurd is
  go (Declare name query) is does = absurd is
  go (Explain query) is does = absurd is
  go (ExplainAnalyze query) is does = absurd is

pub DoesByViews-finds : (a b : Finds) → ((name : List ℕ) (there : Option (List ℕ)) → a name there → b name there) → (answer : Answering) (number : ℕ) (kept : Kept) (command : Command)
    (step : Step RunFault Kept) → DoesByViews a answer number kept command step → DoesByViews b answer number kept command step
DoesByViews-finds a b more answer number kept command step = go command where
  told : (command : Command) → IsKept command → IsTold (DoesKept a answer kept command) step → IsTold (DoesKept b answer kept command) step
  told command is does = (does.0, DoesKept-finds a b more answer kept command does.0 is does.1, does.2)

  go : (command : Command) → DoesByViews a answer number kept command step → DoesByViews b answer number kept command step
  go (Ask query) does = does
  go (Declare name query) does = does
  go (Explain query) does = does
  go (ExplainAnalyze query) does = does
  go (syntax.Fetch count name) does = told (syntax.Fetch count name) tt does
  go (Close name) does = told (Close name) tt does
  go (CreateTable name columns file) does = told (CreateTable name columns file) tt does
  go (CreatePredicate name params max cost formula) does = told (CreatePredicate name params max cost formula) tt does
  go (CreateRankIndex name table predicate args at) does = told (CreateRankIndex name table predicate args at) tt does
  go (Insert table rows) does = told (Insert table rows) tt does

-- a DECLARE whose query isn't bound, or for which there was no memory
module _ (answer : Answering) (number : ℕ) (name : List ℕ) (kept : Kept) where
  pub Stepped-view_unbound : (bound : Result Query Fault) (fault : Fault) (environment : Environment) → Gives Memory bound (Err fault)
      → Stepped run_faults (λ step. step ≡ viewed_or answer number name kept bound) kept (Err (Statement fault)) environment environment
  Stepped-view_unbound bound fault environment (inl e) =
      subst (λ (bound : Result Query Fault). Stepped run_faults (λ step. step ≡ viewed_or answer number name kept bound) kept (Err (Statement fault)) environment environment) e
      (Stepped-still (λ step. step ≡ still (Err (Statement fault))) (Err (Statement fault)) kept (Err (Statement fault)) environment refl (inr refl))
  Stepped-view_unbound bound fault environment (inr e) =
      let same : fault ≡ Memory = cc in
      subst (λ (fault : Fault). Stepped run_faults (λ step. step ≡ viewed_or answer number name kept bound) kept (Err (Statement fault)) environment environment) (sym same)
      (Stepped-no_memory (λ step. step ≡ viewed_or answer number name kept bound) (viewed_or answer number name kept bound) kept environment refl)

  -- one whose query is bound
  pub Stepped-view_bound : (bound : Result Query Fault) (query : Query) (left : Kept) (result : Result (Unit {0}) RunFault) (old new : Environment) → Gives Memory bound (Ok query)
      → Stepped run_faults (λ step. step ≡ viewed_step answer number name kept query) left result old new → Stepped run_faults (λ step. step ≡ viewed_or answer number name kept bound) left result old new
  Stepped-view_bound bound query left result old new gives stepped =
      subst (λ (bound : Result Query Fault). Stepped run_faults (λ step. step ≡ viewed_or answer number name kept bound) left result old new) (sym (bound-ok gives)) stepped where
        bound-ok : Gives Memory bound (Ok query) → bound ≡ Ok query
        bound-ok (inl e) = sym e
        bound-ok (inr e) = absurd cc

  -- a query of which no view may be kept, and one of which one may
  abbrev viewed_by : Bool → Query → Step RunFault Kept
  viewed_by distinct query = if distinct then still (Err (NotEligible View number)) else told_step Statement (named_step answer name kept query)

  not-kept : (query : Query) → (IsKeepable query → ⊥) → viewed_step answer number name kept query ≡ still (Err (NotEligible View number))
  not-kept (One block limit) none = go block.distinct refl where
    go : (b : Bool) → block.distinct ≡ b → viewed_by block.distinct (One block limit) ≡ still (Err (NotEligible View number))
    go true e = ap (λ b. viewed_by b (One block limit)) e
    go false e = absurd (none e)
  not-kept (Set op left right limit) none = refl

  is-kept : (query : Query) → IsKeepable query → viewed_step answer number name kept query ≡ told_step Statement (named_step answer name kept query)
  is-kept (One block limit) keepable = ap (λ b. viewed_by b (One block limit)) keepable
  is-kept (Set op left right limit) keepable = absurd keepable

  pub Stepped-unkeepable : (query : Query) (why : RunFault) (environment : Environment) → (IsKeepable query → ⊥) → why ≡ NotEligible View number
      → Stepped run_faults (λ step. step ≡ viewed_step answer number name kept query) kept (Err why) environment environment
  Stepped-unkeepable query why environment none is =
      subst (λ (known : Step RunFault Kept). Stepped run_faults (λ step. step ≡ known) kept (Err why) environment environment) (sym (not-kept query none))
      (Stepped-still (λ step. step ≡ still (Err (NotEligible View number))) (Err (NotEligible View number)) kept (Err why) environment refl (inr (ap Err (sym is))))

  pub Stepped-viewed : (query : Query) (left : Kept) (result : Result (Unit {0}) RunFault) (old new : Environment) → IsKeepable query
      → Stepped run_faults (IsTold (λ step. step ≡ named_step answer name kept query)) left result old new
      → Stepped run_faults (λ step. step ≡ viewed_step answer number name kept query) left result old new
  Stepped-viewed query left result old new keepable stepped =
      Stepped-map (IsTold (λ step. step ≡ named_step answer name kept query)) (λ step. step ≡ viewed_step answer number name kept query) left result old new
      (λ step does. does.2 ∙ ap (told_step Statement) does.1 ∙ sym (is-kept query keepable)) stepped

-- a statement that the word takes and that isn't a DECLARE is told as one of words
module _ (finds : Finds) (answer : Answering) (number : ℕ) (kept : Kept) (step : Step RunFault Kept) where
  pub does-kept : (command : Command) → IsKept command → IsTold (DoesKept finds answer kept command) step → DoesByViews finds answer number kept command step
  does-kept (CreateTable name columns file) is does = does
  does-kept (CreatePredicate name params max cost formula) is does = does
  does-kept (CreateRankIndex name table predicate args at) is does = does
  does-kept (Insert table rows) is does = does
  does-kept (syntax.Fetch count name) is does = does
  does-kept (Close name) is does = does
  does-kept (Ask query) is does = absurd is
  does-kept (Declare name query) is does = absurd is
  does-kept (Explain query) is does = absurd is
  does-kept (ExplainAnalyze query) is does = absurd is

-- each statement that is of none of the other forms is one
pub kept-others : (s : syntax_statement.Statement) → ((name : Name) (select : Select) → s ≡ syntax_variants.Declare name select → ⊥) → ((select : Select) → s ≡ syntax_variants.Query select → ⊥)
    → ((select : Select) → s ≡ syntax_variants.Explain select → ⊥) → ((select : Select) → s ≡ syntax_variants.ExplainAnalyze select → ⊥) → IsKept (command_of s)
kept-others (syntax_variants.CreateTable name columns file) a b c d = tt
kept-others (syntax_variants.CreatePredicate name params max cost formula) a b c d = tt
kept-others (syntax_variants.CreateRankIndex name table predicate args at) a b c d = tt
kept-others (syntax_variants.Insert table rows) a b c d = tt
kept-others (syntax_variants.Fetch count name) a b c d = tt
kept-others (syntax_variants.Close name) a b c d = tt
kept-others (syntax_variants.Declare name select) a b c d = absurd (a name select refl)
kept-others (syntax_variants.Query select) a b c d = absurd (b select refl)
kept-others (syntax_variants.Explain select) a b c d = absurd (c select refl)
kept-others (syntax_variants.ExplainAnalyze select) a b c d = absurd (d select refl)

-- a statement that the word doesn't take
pub Stepped-view_untaken : (finds : Finds) (answer : Answering) (number : ℕ) (kept : Kept) (command : Command) (why : RunFault) (environment : Environment)
    → DoesByViews finds answer number kept command (still (Err (NotEligible View number))) → why ≡ NotEligible View number
    → Stepped run_faults (DoesByViews finds answer number kept command) kept (Err why) environment environment
Stepped-view_untaken finds answer number kept command why environment does is =
    Stepped-still (DoesByViews finds answer number kept command) (Err (NotEligible View number)) kept (Err why) environment does (inr (ap Err (sym is)))

-- what makes a table, a predicate or an index leaves the views as they are
run_of-beside : (views : List HeldView) (step : statement.Step CatalogDef) → run_of (beside_views views step) ≡ run_of step
run_of-beside views step = go step.outcome where
  go : (outcome : Result CatalogDef Fault) → run_of (beside_views views (record step { outcome = outcome })) ≡ run_of (record step { outcome = outcome })
  go (Ok catalogue) = refl
  go (Err fault) = refl

pub Stepped-beside_views : (of : statement.Step Kept → Type 0) (own : statement.Step CatalogDef → Type 0) (views : List HeldView) (left : CatalogDef) (result : Result (Unit {0}) Fault) (old new : Environment)
    → ((step : statement.Step CatalogDef) → own step → of (beside_views views step)) → Stepped statement_faults own left result old new
    → Stepped statement_faults of (record { catalogue = left; views = views }) result old new
Stepped-beside_views of own views left result old new does made = record {
  step = beside_views views made.step;
  does = does made.step made.does;
  ran = subst (λ (run : Run Fault). Ran statement_faults run result old new) (sym (run_of-beside views made.step)) made.ran;
  leaves = go result made.leaves;
} where
  go : (result : Result (Unit {0}) Fault) → IfOk result (λ done. made.step.outcome ≡ Ok left) → IfOk result (λ done. (beside_views views made.step).outcome ≡ Ok (record { catalogue = left; views = views }))
  go (Ok done) leaves = ap (λ outcome. outcome >>= (λ (catalogue : CatalogDef). Ok (record { catalogue = catalogue; views = views }))) leaves
  go (Err fault) leaves = tt

-- a statement that makes a table, a predicate or an index
abbrev pub IsMaking : Command → Type 0
IsMaking (CreateTable name columns file) = Unit {0}
IsMaking (CreatePredicate name params max cost formula) = Unit {0}
IsMaking (CreateRankIndex name table predicate args at) = Unit {0}
IsMaking (Ask query) = Unit {0}
IsMaking (Declare name query) = Unit {0}
IsMaking (Explain query) = Unit {0}
IsMaking (ExplainAnalyze query) = Unit {0}
IsMaking _ = ⊥

-- of those that are kept these are the ones that are neither FETCH nor CLOSE nor INSERT
pub made-others : (s : syntax_statement.Statement) → ((count : ℤ × Span) (name : Name) → s ≡ syntax_variants.Fetch count name → ⊥) → ((name : Name) → s ≡ syntax_variants.Close name → ⊥)
    → ((table : Name) (rows : List RowSyn) → s ≡ syntax_variants.Insert table rows → ⊥) → IsMaking (command_of s)
made-others (syntax_variants.CreateTable name columns file) a b c = tt
made-others (syntax_variants.CreatePredicate name params max cost formula) a b c = tt
made-others (syntax_variants.CreateRankIndex name table predicate args at) a b c = tt
made-others (syntax_variants.Declare name select) a b c = tt
made-others (syntax_variants.Query select) a b c = tt
made-others (syntax_variants.Explain select) a b c = tt
made-others (syntax_variants.ExplainAnalyze select) a b c = tt
made-others (syntax_variants.Insert table rows) a b c = absurd (c table rows refl)
made-others (syntax_variants.Fetch count name) a b c = absurd (a count name refl)
made-others (syntax_variants.Close name) a b c = absurd (b name refl)

pub kept-of_no_cursor : (command : Command) → IsKept command → IsMaking command → IsOfNoCursor command
kept-of_no_cursor (CreateTable name columns file) is making = tt
kept-of_no_cursor (CreatePredicate name params max cost formula) is making = tt
kept-of_no_cursor (CreateRankIndex name table predicate args at) is making = tt
kept-of_no_cursor (Insert table rows) is making = absurd making
kept-of_no_cursor (syntax.Fetch count name) is making = absurd making
kept-of_no_cursor (Close name) is making = absurd making
kept-of_no_cursor (Ask query) is making = absurd is
kept-of_no_cursor (Declare name query) is making = absurd is
kept-of_no_cursor (Explain query) is making = absurd is
kept-of_no_cursor (ExplainAnalyze query) is making = absurd is

-- it leaves the views as they are
pub beside-does : (finds : Finds) (answer : Answering) (kept : Kept) (command : Command) (step : statement.Step CatalogDef) → IsKept command → IsMaking command
    → Does finds answer Plainly kept.catalogue command step → DoesKept finds answer kept command (beside_views kept.views step)
beside-does finds answer kept (CreateTable name columns file) step is making does = (step, does, refl)
beside-does finds answer kept (CreatePredicate name params max cost formula) step is making does = (step, does, refl)
beside-does finds answer kept (CreateRankIndex name table predicate args at) step is making does = (step, does, refl)
beside-does finds answer kept (Insert table rows) step is making does = absurd making
beside-does finds answer kept (syntax.Fetch count name) step is making does = absurd making
beside-does finds answer kept (Close name) step is making does = absurd making
beside-does finds answer kept (Ask query) step is making does = absurd is
beside-does finds answer kept (Declare name query) step is making does = absurd is
beside-does finds answer kept (Explain query) step is making does = absurd is
beside-does finds answer kept (ExplainAnalyze query) step is making does = absurd is

-- an INSERT: what it does of no cursor, and then the views grow
pub insert-does : (finds : Finds) (answer : Answering) (catalogue : CatalogDef) (command : Command) (step : statement.Step CatalogDef) → IsInsert command
    → step ≡ refused_or (insert_step answer catalogue) (or_bind_fault (insert_of catalogue command)) → Does finds answer Plainly catalogue command step
insert-does finds answer catalogue (Insert table rows) step is does = does
insert-does finds answer catalogue (CreateTable name columns file) step is does = absurd is
insert-does finds answer catalogue (CreatePredicate name params max cost formula) step is does = absurd is
insert-does finds answer catalogue (CreateRankIndex name table predicate args at) step is does = absurd is
insert-does finds answer catalogue (syntax.Fetch count name) step is does = absurd is
insert-does finds answer catalogue (Close name) step is does = absurd is
insert-does finds answer catalogue (Ask query) step is does = absurd is
insert-does finds answer catalogue (Declare name query) step is does = absurd is
insert-does finds answer catalogue (Explain query) step is does = absurd is
insert-does finds answer catalogue (ExplainAnalyze query) step is does = absurd is

pub does-joined : (finds : Finds) (answer : Answering) (kept : Kept) (command : Command) (step : statement.Step CatalogDef) → IsInsert command
    → step ≡ refused_or (insert_step answer kept.catalogue) (or_bind_fault (insert_of kept.catalogue command)) → DoesKept finds answer kept command (joined_step answer kept.views step)
does-joined finds answer kept (Insert table rows) step is does = (step, does, refl)
does-joined finds answer kept (CreateTable name columns file) step is does = absurd is
does-joined finds answer kept (CreatePredicate name params max cost formula) step is does = absurd is
does-joined finds answer kept (CreateRankIndex name table predicate args at) step is does = absurd is
does-joined finds answer kept (syntax.Fetch count name) step is does = absurd is
does-joined finds answer kept (Close name) step is does = absurd is
does-joined finds answer kept (Ask query) step is does = absurd is
does-joined finds answer kept (Declare name query) step is does = absurd is
does-joined finds answer kept (Explain query) step is does = absurd is
does-joined finds answer kept (ExplainAnalyze query) step is does = absurd is
