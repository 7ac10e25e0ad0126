-- What the statements of a script did whose queries are answered by scans, from what their parts did.
use Rattle.std.proofs.Common.{ℕ, ℤ, ◌≡◌, List, Some, None, refl, sym, ap, subst, inl, inr}
use Rattle.std.specs.Prelude.{IfOk, Option, Result, Ok, Err, option_map}
use Rattle.rs_value.specs.Answer.{Gives}
use Rattle.rs_lex.specs.declared.token.Span.{Span}
use Rattle.rs_syntax.specs.Syntax.{Ask, Close, Command, CreatePredicate, CreateRankIndex, CreateTable, Declare, Explain, ExplainAnalyze, Insert, command_of}
use Rattle.rs_syntax.specs.declared.name.Name.{Name}
use Rattle.rs_syntax.specs.declared.select.Select.{Select}
use Rattle.rs_syntax.specs.declared.statement.Statement as syntax_statement
use Rattle.rs_syntax.specs.declared.statement.Statement.TheVariants as syntax_variants
use Rattle.rs_syntax.specs.Syntax as syntax
use Rattle.rs_expr.specs.Scoring.{Answering}
use Rattle.rs_catalog.specs.Catalog.{CatalogDef}
use Rattle.rs_query.specs.declared.block.Block.{Block}
use Rattle.rs_query.specs.declared.query.Query.{Query}
use Rattle.rs_query.specs.declared.query.Query.TheVariants.{One}
use Rattle.rs_ta.specs.Depths.{ScanInput}
use Rattle.rs_ta.specs.Eligible.{block_input, eligible_indexes}
use Rattle.rs_events.specs.Environment.{Environment}
use Rattle.rs_outside.specs.Files.{Finds}
use Rattle.rs_events.specs.Run.{Run, lines_run, with_fault}
use Rattle.rs_events.specs.Running.{Ran, Stepped}
use Rattle.rs_events.specs.Sequence.{Step, run_of, still}
use Rattle.rs_events.proofs.SteppedFacts.{Stepped-lines, Stepped-no_memory, Stepped-still, step_of}
use Rattle.rs_events.proofs.ToldFacts.{Ran-told_err, Ran-told_ok}
use Rattle.rs_statement.specs.declared.evaluating.Evaluating.TheVariants.{Plainly}
use Rattle.rs_statement.specs.declared.fault.Fault.{Fault}
use Rattle.rs_statement.specs.declared.fault.Fault.TheVariants.{Memory}
use Rattle.rs_statement.specs.Parts.Session.{IsOfNoCursor}
use Rattle.rs_statement.specs.Statements.{Does}
use Rattle.rs_statement.specs.Steps as statement
use Rattle.rs_statement.specs.Steps.{statement_faults}
use Rattle.rs_statement.proofs.StatementFacts.{Does-finds}
use Rattle.rs_run.specs.declared.fault.RunFault.{RunFault}
use Rattle.rs_run.specs.declared.fault.RunFault.TheVariants.{NotEligible, Statement}
use Rattle.rs_run.specs.declared.fault.ScriptWord.TheVariants.{Ta}
use Rattle.rs_run.specs.Faults.{run_faults}
use Rattle.rs_run.specs.Parts.Scanning.{Makes}
use Rattle.rs_run.specs.Threshold.{DoesByScan, scan_for, scan_lines, scan_of, scan_step, scanned_or}
use Rattle.rs_run.specs.Told.{told_result, told_step}
use Rattle.rs_run.proofs.RunFacts.{statement-faults}

-- the run of a step whose fault is told as one of words
run_of-told : {S : Type 0} (step : statement.Step S) → run_of (told_step Statement step) ≡ with_fault Statement (run_of step)
run_of-told {S} step = go step.outcome where
  go : (outcome : Result S Fault) → run_of (told_step Statement (step_of step.events outcome)) ≡ with_fault Statement (run_of (step_of step.events outcome))
  go (Ok next) = refl
  go (Err fault) = refl

-- a step of statements, told so
abbrev pub IsTold : {S : Type 0} → (statement.Step S → Type 0) → Step RunFault S → Type 0
IsTold {S} of step = (own : statement.Step S) × of own × (step ≡ told_step Statement own)

module _ {S : Type 0} (of : statement.Step S → Type 0) (left : S) (old new : Environment) where
  pub Stepped-told_ok : Stepped statement_faults of left (Ok tt) old new → Stepped run_faults (IsTold of) left (Ok tt) old new
  Stepped-told_ok stepped = record {
    step = told_step Statement stepped.step;
    does = (stepped.step, stepped.does, refl);
    ran = subst (λ (run : Run RunFault). Ran run_faults run (Ok tt) old new) (sym (run_of-told stepped.step))
        (Ran-told_ok Statement statement_faults run_faults statement-faults (run_of stepped.step) old new stepped.ran);
    leaves = ap (told_result Statement) stepped.leaves;
  }

  pub Stepped-told_err : (fault : Fault) → Stepped statement_faults of left (Err fault) old new → Stepped run_faults (IsTold of) left (Err (Statement fault)) old new
  Stepped-told_err fault stepped = record {
    step = told_step Statement stepped.step;
    does = (stepped.step, stepped.does, refl);
    ran = subst (λ (run : Run RunFault). Ran run_faults run (Err (Statement fault)) old new) (sym (run_of-told stepped.step))
        (Ran-told_err Statement statement_faults run_faults statement-faults (run_of stepped.step) old new fault stepped.ran);
    leaves = tt;
  }

-- what a statement does where files hold as much
pub DoesByScan-finds : (a b : Finds) → ((name : List ℕ) (there : Option (List ℕ)) → a name there → b name there) → (answer : Answering) (number : ℕ) (catalogue : CatalogDef) (command : Command)
    (step : Step RunFault CatalogDef) → DoesByScan a answer number catalogue command step → DoesByScan b answer number catalogue command step
DoesByScan-finds a b more answer number catalogue command step = go command where
  told : (command : Command) → IsTold (Does a answer Plainly catalogue command) step → IsTold (Does b answer Plainly catalogue command) step
  told command does = (does.0, Does-finds a b more answer Plainly catalogue command does.0 does.1, does.2)

  go : (command : Command) → DoesByScan a answer number catalogue command step → DoesByScan b answer number catalogue command step
  go (Ask query) does = does
  go (Declare name query) does = does
  go (syntax.Fetch count name) does = does
  go (Close name) does = does
  go (Explain query) does = does
  go (ExplainAnalyze query) does = does
  go (CreateTable name columns file) does = told (CreateTable name columns file) does
  go (CreatePredicate name params max cost formula) does = told (CreatePredicate name params max cost formula) does
  go (CreateRankIndex name table predicate args at) does = told (CreateRankIndex name table predicate args at) does
  go (Insert table rows) does = told (Insert table rows) does

-- a query that isn't bound, or for which there was no memory
module _ (answer : Answering) (number : ℕ) (catalogue : CatalogDef) (environment : Environment) where
  pub Stepped-unbound : (bound : Result Query Fault) (fault : Fault) → Gives Memory bound (Err fault)
      → Stepped run_faults (λ step. step ≡ scanned_or answer number catalogue bound) catalogue (Err (Statement fault)) environment environment
  Stepped-unbound bound fault (inl e) =
      subst (λ (bound : Result Query Fault). Stepped run_faults (λ step. step ≡ scanned_or answer number catalogue bound) catalogue (Err (Statement fault)) environment environment) e
      (Stepped-still (λ step. step ≡ still (Err (Statement fault))) (Err (Statement fault)) catalogue (Err (Statement fault)) environment refl (inr refl))
  Stepped-unbound bound fault (inr e) =
      let same : fault ≡ Memory = cc in
      subst (λ (fault : Fault). Stepped run_faults (λ step. step ≡ scanned_or answer number catalogue bound) catalogue (Err (Statement fault)) environment environment) (sym same)
      (Stepped-no_memory (λ step. step ≡ scanned_or answer number catalogue bound) (scanned_or answer number catalogue bound) catalogue environment refl)

  -- a query that isn't eligible
  pub Stepped-ineligible : (query : Query) (why : RunFault) → scan_for catalogue query ≡ None → why ≡ NotEligible Ta number
      → Stepped run_faults (λ step. step ≡ scan_step answer number catalogue query) catalogue (Err why) environment environment
  Stepped-ineligible query why none is =
      subst (λ (scan : Option ScanInput). Stepped run_faults (λ step. step ≡ scan_of answer number catalogue query scan) catalogue (Err why) environment environment) (sym none)
      (Stepped-still (λ step. step ≡ still (Err (NotEligible Ta number))) (Err (NotEligible Ta number)) catalogue (Err why) environment refl (inr (ap Err (sym is))))

-- a query that was bound
pub Stepped-bound : (answer : Answering) (number : ℕ) (catalogue : CatalogDef) (bound : Result Query Fault) (query : Query) (result : Result (Unit {0}) RunFault) (old new : Environment) → Gives Memory bound (Ok query)
    → Stepped run_faults (λ step. step ≡ scan_step answer number catalogue query) catalogue result old new → Stepped run_faults (λ step. step ≡ scanned_or answer number catalogue bound) catalogue result old new
Stepped-bound answer number catalogue bound query result old new gives stepped =
    subst (λ (bound : Result Query Fault). Stepped run_faults (λ step. step ≡ scanned_or answer number catalogue bound) catalogue result old new) (sym (bound-ok gives)) stepped where
      bound-ok : Gives Memory bound (Ok query) → bound ≡ Ok query
      bound-ok (inl e) = sym e
      bound-ok (inr e) = absurd cc

-- an eligible one: its lines were put
pub Stepped-scanned : (answer : Answering) (number : ℕ) (catalogue : CatalogDef) (block : Block) (limit : Option ℕ) (indexes : List ℕ) (result : Result (Unit {0}) RunFault) (old new : Environment)
    → eligible_indexes catalogue block ≡ Some indexes → Ran run_faults (lines_run (scan_lines answer catalogue (One block limit) (block_input catalogue block indexes))) result old new
    → Stepped run_faults (λ step. step ≡ scan_step answer number catalogue (One block limit)) catalogue result old new
Stepped-scanned answer number catalogue block limit indexes result old new eligible ran =
    subst (λ (found : Option (List ℕ)). Stepped run_faults (λ step. step ≡ scan_of answer number catalogue (One block limit) (option_map (block_input catalogue block) found)) catalogue result old new) (sym eligible)
    (Stepped-lines (scan_lines answer catalogue (One block limit) (block_input catalogue block indexes)) catalogue result old new ran)

-- a statement that makes something does what it does under the other words
module _ (finds : Finds) (answer : Answering) (number : ℕ) (catalogue : CatalogDef) (step : Step RunFault CatalogDef) where
  pub does-made : (command : Command) → Makes command → IsTold (Does finds answer Plainly catalogue command) step → DoesByScan finds answer number catalogue command step
  does-made (CreateTable name columns file) makes does = does
  does-made (CreatePredicate name params max cost formula) makes does = does
  does-made (CreateRankIndex name table predicate args at) makes does = does
  does-made (Insert table rows) makes does = does
  does-made (Ask query) makes does = absurd makes
  does-made (Declare name query) makes does = absurd makes
  does-made (syntax.Fetch count name) makes does = absurd makes
  does-made (Close name) makes does = absurd makes
  does-made (Explain query) makes does = absurd makes
  does-made (ExplainAnalyze query) makes does = absurd makes

-- it is of no cursor
pub made-of_no_cursor : (command : Command) → Makes command → IsOfNoCursor command
made-of_no_cursor (CreateTable name columns file) makes = tt
made-of_no_cursor (CreatePredicate name params max cost formula) makes = tt
made-of_no_cursor (CreateRankIndex name table predicate args at) makes = tt
made-of_no_cursor (Insert table rows) makes = tt
made-of_no_cursor (Ask query) makes = absurd makes
made-of_no_cursor (Declare name query) makes = absurd makes
made-of_no_cursor (syntax.Fetch count name) makes = absurd makes
made-of_no_cursor (Close name) makes = absurd makes
made-of_no_cursor (Explain query) makes = absurd makes
made-of_no_cursor (ExplainAnalyze query) makes = absurd makes

-- and so is each that is of none of the other forms
pub makes-others : (s : syntax_statement.Statement) → ((select : Select) → s ≡ syntax_variants.Query select → ⊥) → ((name : Name) (select : Select) → s ≡ syntax_variants.Declare name select → ⊥)
    → ((count : ℤ × Span) (name : Name) → s ≡ syntax_variants.Fetch count name → ⊥) → ((name : Name) → s ≡ syntax_variants.Close name → ⊥)
    → ((select : Select) → s ≡ syntax_variants.Explain select → ⊥) → ((select : Select) → s ≡ syntax_variants.ExplainAnalyze select → ⊥) → Makes (command_of s)
makes-others (syntax_variants.CreateTable name columns file) a b c d e f = tt
makes-others (syntax_variants.CreatePredicate name params max cost formula) a b c d e f = tt
makes-others (syntax_variants.CreateRankIndex name table predicate args at) a b c d e f = tt
makes-others (syntax_variants.Insert table rows) a b c d e f = tt
makes-others (syntax_variants.Query select) a b c d e f = absurd (a select refl)
makes-others (syntax_variants.Declare name select) a b c d e f = absurd (b name select refl)
makes-others (syntax_variants.Fetch count name) a b c d e f = absurd (c count name refl)
makes-others (syntax_variants.Close name) a b c d e f = absurd (d name refl)
makes-others (syntax_variants.Explain select) a b c d e f = absurd (e select refl)
makes-others (syntax_variants.ExplainAnalyze select) a b c d e f = absurd (f select refl)

-- a fact that holds anyway, of a call that ends well
pub if-ended : {A F : Type 0} (result : Result A F) (P : Type 0) → P → IfOk result (λ _. P)
if-ended (Ok a) P p = p
if-ended (Err fault) P p = tt

-- a statement that the word doesn't take
pub Stepped-untaken : (finds : Finds) (answer : Answering) (number : ℕ) (catalogue : CatalogDef) (command : Command) (why : RunFault) (environment : Environment)
    → DoesByScan finds answer number catalogue command (still (Err (NotEligible Ta number))) → why ≡ NotEligible Ta number
    → Stepped run_faults (DoesByScan finds answer number catalogue command) catalogue (Err why) environment environment
Stepped-untaken finds answer number catalogue command why environment does is =
    Stepped-still (DoesByScan finds answer number catalogue command) (Err (NotEligible Ta number)) catalogue (Err why) environment does (inr (ap Err (sym is)))
