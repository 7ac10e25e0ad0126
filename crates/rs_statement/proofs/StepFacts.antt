-- What the steps of statements did, from what their parts did.
use Rattle.std.proofs.Common.{ℕ, ℤ, ◌≡◌, ◌∙◌, List, [], ◌∷◌, None, refl, sym, ap, subst, inl, inr}
use Rattle.std.specs.Prelude.{Option, Result, Ok, Err}
use Rattle.rs_value.specs.Answer.{Gives}
use Rattle.rs_outside.specs.Files.{Contents, FilesState, Finds, finds_in}
use Rattle.rs_outside.proofs.ContentsFacts.{finds-some}
use Rattle.rs_table.specs.Column.{Column}
use Rattle.rs_value.specs.Results.{◌>>=◌}
use Rattle.rs_table.specs.Reading.{table_of}
use Rattle.rs_table.specs.Relation.{Relation}
use Rattle.rs_expr.specs.Scoring.{Answering}
use Rattle.rs_catalog.specs.Catalog.{CatalogDef, with_table}
use Rattle.rs_syntax.specs.declared.name.Name.{Name}
use Rattle.rs_statement.specs.declared.fault.Fault.{Fault}
use Rattle.rs_statement.specs.declared.fault.Fault.TheVariants.{Memory}
use Rattle.rs_lex.specs.declared.token.Span.{Span}
use Rattle.rs_value.specs.declared.kind.Kind.{Kind}
use Rattle.rs_syntax.specs.Syntax.{command_of, query_of}
use Rattle.rs_syntax.specs.declared.name.Arg.{Arg}
use Rattle.rs_syntax.specs.declared.node.Node.{Node}
use Rattle.rs_syntax.specs.declared.row.RowSyn.{RowSyn}
use Rattle.rs_syntax.specs.declared.select.Select.{Select}
use Rattle.rs_syntax.specs.declared.statement.Statement.{Statement}
use Rattle.rs_syntax.specs.declared.statement.Statement.TheVariants as statement
use Rattle.rs_bind.specs.Indexes.{index_def_of}
use Rattle.rs_bind.specs.Names.{columns_of}
use Rattle.rs_catalog.specs.declared.room.What.TheVariants as what
use Rattle.rs_statement.specs.Content.{content_of, or_table_fault, table_limit}
use Rattle.rs_statement.specs.Parts.Session.{IsOfNoCursor}
use Rattle.rs_statement.specs.Parts.Steps.{FetchesFile, IsReadTable, Ran, Stepped}
use Rattle.rs_events.specs.Sequence.{run_of, still}
use Rattle.rs_events.specs.Events.{Fetch}
use Rattle.rs_statement.specs.Steps.{Step}
use Rattle.rs_statement.specs.declared.evaluating.Evaluating.{Evaluating}
use Rattle.rs_statement.specs.Statements.{Does, DoesTable, analyze_step, explain_step, index_step, predicate_outcome, refused_or, select_step, table_step, with_room}
use Rattle.rs_events.specs.Environment.{Environment}
use Rattle.rs_events.proofs.FetchFacts.{Ran-unfetched, fault-at, fetched-ok, found-before}
use Rattle.rs_events.proofs.RanFacts.{Ran-all, Ran-no_memory}
use Rattle.rs_events.proofs.SteppedFacts.{Stepped-no_memory, Stepped-still, events-run_of, step_of}

-- the statement was refused, or there was no memory
pub Stepped-refused : {A S : Type 0} (does : A → Step S) (bound : Result A Fault) (fault : Fault) (left : S) (environment : Environment) → Gives Memory bound (Err fault)
    → Stepped (λ step. step ≡ refused_or does bound) left (Err fault) environment environment
Stepped-refused does bound fault left environment (inl e) =
    subst (λ r. Stepped (λ step. step ≡ refused_or does r) left (Err fault) environment environment) e (Stepped-still (λ step. step ≡ still (Err fault)) (Err fault) left (Err fault) environment refl (inr refl))
Stepped-refused {A} does bound fault left environment (inr e) =
    subst (λ r. Stepped (λ step. step ≡ refused_or does bound) left r environment environment) (sym (fault-at {A = A} fault Memory e))
    (Stepped-no_memory (λ step. step ≡ refused_or does bound) (refused_or does bound) left environment refl)

pub bound-ok : {A : Type 0} (bound : Result A Fault) (a : A) → Gives Memory bound (Ok a) → bound ≡ Ok a
bound-ok bound a (inl e) = sym e
bound-ok bound a (inr e) = absurd cc

-- a statement that wasn't refused
pub Stepped-bound : {A S : Type 0} (does : A → Step S) (bound : Result A Fault) (a : A) (left : S) (result : Result (Unit {0}) Fault) (old new : Environment) → Gives Memory bound (Ok a)
    → Stepped (λ step. step ≡ does a) left result old new → Stepped (λ step. step ≡ refused_or does bound) left result old new
Stepped-bound does bound a left result old new gives made = subst (λ r. Stepped (λ step. step ≡ refused_or does r) left result old new) (sym (bound-ok bound a gives)) made

-- the table of a file by these columns, and the outcome of its step
outcome_of : CatalogDef → Name → List ℕ → List Column → Option (List ℕ) → Result CatalogDef Fault
outcome_of catalogue name file columns there = (table_step catalogue name file columns there).outcome

read_of : List ℕ → List Column → Option (List ℕ) → Result Relation Fault
read_of file columns there = content_of table_limit file there >>= λ bytes. or_table_fault file (table_of columns bytes)

bind-err : {A B C : Type 0} (m : Result A Fault) (k : A → Result B Fault) (h : B → Result C Fault) (fault : Fault) → (m >>= k) ≡ Err fault → (m >>= λ a. (k a >>= h)) ≡ Err fault
bind-err (Ok a) k h fault e = rw e refl
bind-err (Err f) k h fault e = let same : f ≡ fault = cc in ap Err same

bind-ok : {A B C : Type 0} (m : Result A Fault) (k : A → Result B Fault) (h : B → Result C Fault) (b : B) → (m >>= k) ≡ Ok b → (m >>= λ a. (k a >>= h)) ≡ h b
bind-ok (Ok a) k h b e = rw e refl
bind-ok (Err f) k h b e = absurd cc

outcome-err : (catalogue : CatalogDef) (name : Name) (file : List ℕ) (columns : List Column) (there : Option (List ℕ)) (fault : Fault) → Err fault ≡ read_of file columns there
    → outcome_of catalogue name file columns there ≡ Err fault
unfolding read_of outcome_of
outcome-err catalogue name file columns there fault e = bind-err (content_of table_limit file there) _ _ fault (sym e)

outcome-ok : (catalogue : CatalogDef) (name : Name) (file : List ℕ) (columns : List Column) (there : Option (List ℕ)) (table : Relation) → Ok table ≡ read_of file columns there
    → outcome_of catalogue name file columns there ≡ Ok (with_table name.text table catalogue)
unfolding read_of outcome_of
outcome-ok catalogue name file columns there table e = bind-ok (content_of table_limit file there) _ _ table (sym e)

-- some step does what a statement of a table does, whatever it binds
pub record SomeTable (contents : Contents) (catalogue : CatalogDef) (name : Name) (file : List ℕ) (bound : Result (List Column) Fault) : Type 0 where
  pub step : Step CatalogDef
  pub does : DoesTable (finds_in contents) catalogue name file bound step

pub some-table : (contents : Contents) (catalogue : CatalogDef) (name : Name) (file : List ℕ) (bound : Result (List Column) Fault) → SomeTable contents catalogue name file bound
some-table contents catalogue name file (Err fault) = record { step = still (Err fault); does = refl }
some-table contents catalogue name file (Ok columns) =
    let found = finds-some contents file in record { step = table_step catalogue name file columns found.0; does = (found.0, found.1, refl) }

does-table : (finds : Finds) (catalogue : CatalogDef) (name : Name) (file : List ℕ) (bound : Result (List Column) Fault) (columns : List Column) (there : Option (List ℕ))
    → bound ≡ Ok columns → finds file there → DoesTable finds catalogue name file bound (table_step catalogue name file columns there)
does-table finds catalogue name file bound columns there e found = subst (λ r. DoesTable finds catalogue name file r (table_step catalogue name file columns there)) (sym e) (there, found, refl)

-- the run of a table's step
begins-table : (catalogue : CatalogDef) (name : Name) (file : List ℕ) (columns : List Column) (there : Option (List ℕ)) → (run_of (table_step catalogue name file columns there)).events ≡ Fetch file ∷ []
begins-table catalogue name file columns there = events-run_of (Fetch file ∷ []) (table_step catalogue name file columns there).outcome

module _ (catalogue : CatalogDef) (name : Name) (file : List ℕ) (bound : Result (List Column) Fault) (environment : Environment) where
  -- the statement was refused before its file was fetched, or there was no memory
  pub Table-refused : (fault : Fault) → Gives Memory bound (Err fault) → Stepped (DoesTable (finds_in environment.files.contents) catalogue name file bound) catalogue (Err fault) environment environment
  Table-refused fault (inl e) = Stepped-still (DoesTable (finds_in environment.files.contents) catalogue name file bound) (Err fault) catalogue (Err fault) environment
      (subst (λ r. DoesTable (finds_in environment.files.contents) catalogue name file r (still (Err fault))) e refl) (inr refl)
  Table-refused fault (inr e) =
      let some = some-table environment.files.contents catalogue name file bound in
      subst (λ r. Stepped (DoesTable (finds_in environment.files.contents) catalogue name file bound) catalogue r environment environment) (sym (fault-at {A = List Column} fault Memory e))
      (Stepped-no_memory (DoesTable (finds_in environment.files.contents) catalogue name file bound) some.step catalogue environment some.does)

  -- the file was no table, or wasn't fetched, or there was no memory
  pub Table-unread : (columns : List Column) (fault : Fault) (files : FilesState) → Gives Memory bound (Ok columns) → FetchesFile file (Err fault) (IsReadTable file columns) environment.files files
      → Stepped (DoesTable (finds_in environment.files.contents) catalogue name file bound) catalogue (Err fault) environment (record environment { files = files })
  unfolding read_of outcome_of
  Table-unread columns fault files gives f = record {
    step = table_step catalogue name file columns f.there;
    does = does-table (finds_in environment.files.contents) catalogue name file bound columns f.there (bound-ok bound columns gives) (found-before file _ _ environment.files files f);
    ran = Ran-unfetched environment files file fault (IsReadTable file columns) (run_of (table_step catalogue name file columns f.there)) [] f (begins-table catalogue name file columns f.there)
        (λ e. ap (λ o. run_of (step_of (Fetch file ∷ []) o)) (outcome-err catalogue name file columns f.there fault e));
    leaves = tt;
  }

  -- the table was read, and there was no memory for it
  pub Table-no_memory : (columns : List Column) (table : Relation) (left : CatalogDef) (files : FilesState) → Gives Memory bound (Ok columns)
      → FetchesFile file (Ok table) (IsReadTable file columns) environment.files files
      → Stepped (DoesTable (finds_in environment.files.contents) catalogue name file bound) left (Err Memory) environment (record environment { files = files })
  Table-no_memory columns table left files gives f = record {
    step = table_step catalogue name file columns f.there;
    does = does-table (finds_in environment.files.contents) catalogue name file bound columns f.there (bound-ok bound columns gives) (found-before file _ _ environment.files files f);
    ran = Ran-no_memory (run_of (table_step catalogue name file columns f.there)) (Fetch file ∷ []) [] environment (record environment { files = files })
        (begins-table catalogue name file columns f.there) (fetched-ok environment files file table (IsReadTable file columns) f).has;
    leaves = tt;
  }

  -- it joined
  pub Table-joins : (columns : List Column) (table : Relation) (left : CatalogDef) (files : FilesState) → Gives Memory bound (Ok columns)
      → FetchesFile file (Ok table) (IsReadTable file columns) environment.files files → left ≡ with_table name.text table catalogue
      → Stepped (DoesTable (finds_in environment.files.contents) catalogue name file bound) left (Ok tt) environment (record environment { files = files })
  unfolding read_of outcome_of
  Table-joins columns table left files gives f joins =
      let read = fetched-ok environment files file table (IsReadTable file columns) f in
      let made = outcome-ok catalogue name file columns f.there table read.given in record {
        step = table_step catalogue name file columns f.there;
        does = does-table (finds_in environment.files.contents) catalogue name file bound columns f.there (bound-ok bound columns gives) (found-before file _ _ environment.files files f);
        ran = subst (λ o. Ran (run_of (step_of (Fetch file ∷ []) o)) (Ok tt) environment (record environment { files = files })) (sym made)
            (Ran-all (record { events = Fetch file ∷ []; fault = None }) (Ok tt) environment (record environment { files = files }) read.has refl);
        leaves = made ∙ ap Ok (sym joins);
      }

-- a statement that concerns no cursor is one of seven kinds
pub of_a_kind : (s : Statement)
    → ((name : Name) (columns : List (Name × Kind)) (file : List ℕ) → s ≡ statement.CreateTable name columns file → ⊥)
    → ((name : Name) (params : List (Name × Kind)) (max : ℤ × Span) (cost : Option (ℤ × Span)) (formula : Node) → s ≡ statement.CreatePredicate name params max cost formula → ⊥)
    → ((name table predicate : Name) (args : List Arg) (at : Span) → s ≡ statement.CreateRankIndex name table predicate args at → ⊥)
    → ((select : Select) → s ≡ statement.Query select → ⊥) → ((select : Select) → s ≡ statement.Explain select → ⊥) → ((select : Select) → s ≡ statement.ExplainAnalyze select → ⊥)
    → ((table : Name) (rows : List RowSyn) → s ≡ statement.Insert table rows → ⊥) → IsOfNoCursor (command_of s) → ⊥
of_a_kind (statement.CreateTable name columns file) a b c d e f g of = absurd (a name columns file refl)
of_a_kind (statement.CreatePredicate name params max cost formula) a b c d e f g of = absurd (b name params max cost formula refl)
of_a_kind (statement.CreateRankIndex name table predicate args at) a b c d e f g of = absurd (c name table predicate args at refl)
of_a_kind (statement.Query select) a b c d e f g of = absurd (d select refl)
of_a_kind (statement.Declare name select) a b c d e f g of = of
of_a_kind (statement.Fetch count name) a b c d e f g of = of
of_a_kind (statement.Close name) a b c d e f g of = of
of_a_kind (statement.Explain select) a b c d e f g of = absurd (e select refl)
of_a_kind (statement.ExplainAnalyze select) a b c d e f g of = absurd (f select refl)
of_a_kind (statement.Insert table rows) a b c d e f g of = absurd (g table rows refl)

-- what a query does, and what the two forms of EXPLAIN do
pub Does-query : (finds : Finds) (answer : Answering) (evaluating : Evaluating) (catalogue : CatalogDef) (s : Statement) (select : Select) → s ≡ statement.Query select
    → Does finds answer evaluating catalogue (command_of s) (select_step evaluating answer catalogue (query_of select))
Does-query finds answer evaluating catalogue s select e =
    subst (λ s. Does finds answer evaluating catalogue (command_of s) (select_step evaluating answer catalogue (query_of select))) (sym e) refl

pub Does-explain : (finds : Finds) (answer : Answering) (evaluating : Evaluating) (catalogue : CatalogDef) (s : Statement) (select : Select) → s ≡ statement.Explain select
    → Does finds answer evaluating catalogue (command_of s) (explain_step evaluating answer catalogue (query_of select))
Does-explain finds answer evaluating catalogue s select e =
    subst (λ s. Does finds answer evaluating catalogue (command_of s) (explain_step evaluating answer catalogue (query_of select))) (sym e) refl

pub Does-analyze : (finds : Finds) (answer : Answering) (evaluating : Evaluating) (catalogue : CatalogDef) (s : Statement) (select : Select) → s ≡ statement.ExplainAnalyze select
    → Does finds answer evaluating catalogue (command_of s) (analyze_step evaluating answer catalogue (query_of select))
Does-analyze finds answer evaluating catalogue s select e =
    subst (λ s. Does finds answer evaluating catalogue (command_of s) (analyze_step evaluating answer catalogue (query_of select))) (sym e) refl

-- what a statement does that makes a predicate
pub Does-predicate : (finds : Finds) (answer : Answering) (evaluating : Evaluating) (catalogue : CatalogDef) (s : Statement) (name : Name) (params : List (Name × Kind)) (max : ℤ × Span) (cost : Option (ℤ × Span)) (formula : Node)
    → s ≡ statement.CreatePredicate name params max cost formula → Does finds answer evaluating catalogue (command_of s) (still (predicate_outcome catalogue name (command_of s)))
Does-predicate finds answer evaluating catalogue s name params max cost formula e =
    subst (λ s. Does finds answer evaluating catalogue (command_of s) (still (predicate_outcome catalogue name (command_of s)))) (sym e) refl

-- what one does that makes a rank index
pub Does-index : (finds : Finds) (answer : Answering) (evaluating : Evaluating) (catalogue : CatalogDef) (s : Statement) (name table predicate : Name) (args : List Arg) (at : Span)
    → s ≡ statement.CreateRankIndex name table predicate args at
    → Does finds answer evaluating catalogue (command_of s) (refused_or (index_step answer catalogue) (with_room catalogue what.Index name (index_def_of catalogue (command_of s))))
Does-index finds answer evaluating catalogue s name table predicate args at e =
    subst (λ s. Does finds answer evaluating catalogue (command_of s) (refused_or (index_step answer catalogue) (with_room catalogue what.Index name (index_def_of catalogue (command_of s))))) (sym e) refl

-- and one that makes a table, of columns that were handed on as a slice
pub Does-table : (finds : Finds) (answer : Answering) (evaluating : Evaluating) (catalogue : CatalogDef) (s : Statement) (name : Name) (columns slice : List (Name × Kind)) (file : List ℕ)
    → s ≡ statement.CreateTable name columns file → slice ≡ columns → (step : Step CatalogDef) → DoesTable finds catalogue name file (with_room catalogue what.Table name (columns_of slice)) step
    → Does finds answer evaluating catalogue (command_of s) step
Does-table finds answer evaluating catalogue s name columns slice file e same step does =
    subst (λ s. Does finds answer evaluating catalogue (command_of s) step) (sym e) (subst (λ columns. DoesTable finds catalogue name file (with_room catalogue what.Table name (columns_of columns)) step) same does)
