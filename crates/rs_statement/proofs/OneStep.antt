-- Statements have one run at most, where a name has one file at most.
use Rattle.std.proofs.Common.{ℕ, ◌≡◌, ◌∙◌, List, sym, ap}
use Rattle.std.specs.Prelude.{Result, Ok, Err}
use Rattle.rs_syntax.specs.Syntax.{Command, CreateTable, CreatePredicate, CreateRankIndex, Ask, Declare, Close, Explain, ExplainAnalyze, Insert}
use Rattle.rs_syntax.specs.Syntax as syntax
use Rattle.rs_syntax.specs.declared.name.Name.{Name}
use Rattle.rs_table.specs.Column.{Column}
use Rattle.rs_catalog.specs.Catalog.{CatalogDef}
use Rattle.rs_catalog.specs.declared.room.What.TheVariants as what
use Rattle.rs_bind.specs.Names.{columns_of}
use Rattle.rs_statement.specs.declared.fault.Fault.{Fault}
use Rattle.rs_expr.specs.Scoring.{Answering}
use Rattle.rs_outside.specs.Files.{Finds}
use Rattle.rs_statement.specs.Steps.{Run, Step}
use Rattle.rs_events.proofs.OneRun.{OneFile, RunOf-one}
use Rattle.rs_statement.specs.declared.evaluating.Evaluating.{Evaluating}
use Rattle.rs_statement.specs.Statements.{Does, DoesTable, table_step, with_room}
use Rattle.rs_statement.specs.Session.{DoesInSession, State, StatementsRun, beside_cursors, nothing}

-- a statement does one thing at most
DoesTable-one : (finds : Finds) → OneFile finds → (catalogue : CatalogDef) (name : Name) (file : List ℕ) (columns : Result (List Column) Fault) (a b : Step CatalogDef)
    → DoesTable finds catalogue name file columns a → DoesTable finds catalogue name file columns b → a ≡ b
DoesTable-one finds one catalogue name file (Err fault) a b p q = p ∙ sym q
DoesTable-one finds one catalogue name file (Ok columns) a b p q = p.2 ∙ ap (table_step catalogue name file columns) (one file p.0 q.0 p.1 q.1) ∙ sym q.2

pub Does-one : (finds : Finds) → OneFile finds → (answer : Answering) (evaluating : Evaluating) (catalogue : CatalogDef) (command : Command) (a b : Step CatalogDef)
    → Does finds answer evaluating catalogue command a → Does finds answer evaluating catalogue command b → a ≡ b
Does-one finds one answer evaluating catalogue (CreateTable name columns file) a b p q =
    DoesTable-one finds one catalogue name file (with_room catalogue what.Table name (columns_of columns)) a b p q
Does-one finds one answer evaluating catalogue (CreatePredicate name params max cost formula) a b p q = p ∙ sym q
Does-one finds one answer evaluating catalogue (CreateRankIndex name table predicate args at) a b p q = p ∙ sym q
Does-one finds one answer evaluating catalogue (Ask query) a b p q = p ∙ sym q
Does-one finds one answer evaluating catalogue (Declare name query) a b p q = absurd p
Does-one finds one answer evaluating catalogue (syntax.Fetch count name) a b p q = absurd p
Does-one finds one answer evaluating catalogue (Close name) a b p q = absurd p
Does-one finds one answer evaluating catalogue (Explain query) a b p q = p ∙ sym q
Does-one finds one answer evaluating catalogue (ExplainAnalyze query) a b p q = p ∙ sym q
Does-one finds one answer evaluating catalogue (Insert table rows) a b p q = p ∙ sym q

pub DoesInSession-one : (finds : Finds) → OneFile finds → (answer : Answering) (evaluating : Evaluating) (state : State) (command : Command) (a b : Step State)
    → DoesInSession finds answer evaluating state command a → DoesInSession finds answer evaluating state command b → a ≡ b
DoesInSession-one finds one answer evaluating state command a b p q = go command p q where
  same : (command : Command) (own other : Step CatalogDef) → Does finds answer evaluating state.catalogue command own → Does finds answer evaluating state.catalogue command other
      → a ≡ beside_cursors state.cursors own → b ≡ beside_cursors state.cursors other → a ≡ b
  same command own other x y is also = is ∙ ap (beside_cursors state.cursors) (Does-one finds one answer evaluating state.catalogue command own other x y) ∙ sym also

  go : (command : Command) → DoesInSession finds answer evaluating state command a → DoesInSession finds answer evaluating state command b → a ≡ b
  go (Declare name query) p q = p ∙ sym q
  go (syntax.Fetch count name) p q = p ∙ sym q
  go (Close name) p q = p ∙ sym q
  go (CreateTable name columns file) p q = same (CreateTable name columns file) p.0 q.0 p.1 q.1 p.2 q.2
  go (CreatePredicate name params max cost formula) p q = same (CreatePredicate name params max cost formula) p.0 q.0 p.1 q.1 p.2 q.2
  go (CreateRankIndex name table predicate args at) p q = same (CreateRankIndex name table predicate args at) p.0 q.0 p.1 q.1 p.2 q.2
  go (Ask query) p q = same (Ask query) p.0 q.0 p.1 q.1 p.2 q.2
  go (Explain query) p q = same (Explain query) p.0 q.0 p.1 q.1 p.2 q.2
  go (ExplainAnalyze query) p q = same (ExplainAnalyze query) p.0 q.0 p.1 q.1 p.2 q.2
  go (Insert table rows) p q = same (Insert table rows) p.0 q.0 p.1 q.1 p.2 q.2

-- the statements of a script have one run at most
abbrev pub OneRun : (List Command → Run → Type 0) → Type 0
OneRun statements = (commands : List Command) (a b : Run) → statements commands a → statements commands b → a ≡ b

pub Statements-one : (finds : Finds) → OneFile finds → (answer : Answering) (evaluating : Evaluating) → OneRun (StatementsRun finds answer evaluating)
Statements-one finds one answer evaluating commands a b p q =
    RunOf-one (DoesInSession finds answer evaluating) (λ state command a b p q. DoesInSession-one finds one answer evaluating state command a b p q) nothing commands a b p q
