-- What statements do over files that were fetched from before.
use Rattle.std.proofs.Common.{ℕ, zero, suc, ◌≡◌, List, [], ◌∷◌, refl, sym, subst, arith}
use Rattle.std.specs.Prelude.{Option, Result, Ok, Err, length, slice_index_or, ◌<◌}
use Rattle.rs_outside.specs.Files.{Contents, Finds, finds_in}
use Rattle.rs_outside.proofs.ContentsFacts.{finds-before}
use Rattle.rs_table.specs.Column.{Column}
use Rattle.rs_expr.specs.Scoring.{Answering}
use Rattle.rs_catalog.specs.Catalog.{CatalogDef}
use Rattle.rs_syntax.specs.Syntax.{Command, CreateTable, CreatePredicate, CreateRankIndex, Ask, Declare, Fetch, Close, Explain, ExplainAnalyze, Insert, command_of, commands_of}
use Rattle.rs_syntax.specs.declared.name.Name.{Name}
use Rattle.rs_syntax.specs.declared.statement.Statement.{Statement}
use Rattle.rs_syntax.specs.Written.{AreWritten, IsWritten}
use Rattle.rs_statement.specs.declared.fault.Fault.{Fault}
use Rattle.rs_events.specs.Running.{HasDone}
use Rattle.rs_statement.specs.Parts.Steps.{Stepped}
use Rattle.rs_events.specs.Events.{Event}
use Rattle.rs_statement.specs.Steps.{Step}
use Rattle.rs_statement.specs.declared.evaluating.Evaluating.{Evaluating}
use Rattle.rs_statement.specs.Statements.{Does, DoesTable}
use Rattle.rs_statement.specs.Session.{DoesInSession, State, beside_cursors}
use Rattle.rs_events.specs.Environment.{Environment}
use Rattle.rs_statement.proofs.StepFacts.{some-table}
use Rattle.rs_events.proofs.SteppedFacts.{Stepped-map}

-- what a statement does where files hold as much
DoesTable-finds : (a b : Finds) → ((name : List ℕ) (there : Option (List ℕ)) → a name there → b name there) → (catalogue : CatalogDef) (name : Name) (file : List ℕ) (bound : Result (List Column) Fault) (step : Step CatalogDef)
    → DoesTable a catalogue name file bound step → DoesTable b catalogue name file bound step
DoesTable-finds a b more catalogue name file (Err fault) step does = does
DoesTable-finds a b more catalogue name file (Ok columns) step does = (does.0, more file does.0 does.1, does.2)

pub Does-finds : (a b : Finds) → ((name : List ℕ) (there : Option (List ℕ)) → a name there → b name there) → (answer : Answering) (evaluating : Evaluating) (catalogue : CatalogDef) (command : Command) (step : Step CatalogDef)
    → Does a answer evaluating catalogue command step → Does b answer evaluating catalogue command step
Does-finds a b more answer evaluating catalogue (CreateTable name columns file) step does = DoesTable-finds a b more catalogue name file _ step does
Does-finds a b more answer evaluating catalogue (CreatePredicate name params max cost formula) step does = does
Does-finds a b more answer evaluating catalogue (CreateRankIndex name table predicate args at) step does = does
Does-finds a b more answer evaluating catalogue (Ask query) step does = does
Does-finds a b more answer evaluating catalogue (Declare name query) step does = does
Does-finds a b more answer evaluating catalogue (Fetch count name) step does = does
Does-finds a b more answer evaluating catalogue (Close name) step does = does
Does-finds a b more answer evaluating catalogue (Explain query) step does = does
Does-finds a b more answer evaluating catalogue (ExplainAnalyze query) step does = does
Does-finds a b more answer evaluating catalogue (Insert table rows) step does = does

pub DoesInSession-finds : (a b : Finds) → ((name : List ℕ) (there : Option (List ℕ)) → a name there → b name there) → (answer : Answering) (evaluating : Evaluating) (state : State) (command : Command) (step : Step State)
    → DoesInSession a answer evaluating state command step → DoesInSession b answer evaluating state command step
DoesInSession-finds a b more answer evaluating state command step = go command where
  own : (command : Command) → (made : Step CatalogDef) × Does a answer evaluating state.catalogue command made × (step ≡ beside_cursors state.cursors made)
      → (made : Step CatalogDef) × Does b answer evaluating state.catalogue command made × (step ≡ beside_cursors state.cursors made)
  own command does = (does.0, Does-finds a b more answer evaluating state.catalogue command does.0 does.1, does.2)

  go : (command : Command) → DoesInSession a answer evaluating state command step → DoesInSession b answer evaluating state command step
  go (Declare name query) does = does
  go (Fetch count name) does = does
  go (Close name) does = does
  go (CreateTable name columns file) does = own (CreateTable name columns file) does
  go (CreatePredicate name params max cost formula) does = own (CreatePredicate name params max cost formula) does
  go (CreateRankIndex name table predicate args at) does = own (CreateRankIndex name table predicate args at) does
  go (Ask query) does = own (Ask query) does
  go (Explain query) does = own (Explain query) does
  go (ExplainAnalyze query) does = own (ExplainAnalyze query) does
  go (Insert table rows) does = own (Insert table rows) does

-- each statement does something
pub some-step : (contents : Contents) (answer : Answering) (evaluating : Evaluating) (state : State) (command : Command)
    → (step : Step State) × DoesInSession (finds_in contents) answer evaluating state command step
some-step contents answer evaluating state (CreateTable name columns file) =
    let made = some-table contents state.catalogue name file _ in (beside_cursors state.cursors made.step, (made.step, made.does, refl))
some-step contents answer evaluating state (CreatePredicate name params max cost formula) = (_, (_, refl, refl))
some-step contents answer evaluating state (CreateRankIndex name table predicate args at) = (_, (_, refl, refl))
some-step contents answer evaluating state (Ask query) = (_, (_, refl, refl))
some-step contents answer evaluating state (Declare name query) = (_, refl)
some-step contents answer evaluating state (Fetch count name) = (_, refl)
some-step contents answer evaluating state (Close name) = (_, refl)
some-step contents answer evaluating state (Explain query) = (_, (_, refl, refl))
some-step contents answer evaluating state (ExplainAnalyze query) = (_, (_, refl, refl))
some-step contents answer evaluating state (Insert table rows) = (_, (_, refl, refl))

-- a statement behind events that were done does what it does over what was there at first
pub Stepped-first : (made : List Event) (evaluating : Evaluating) (state left : State) (command : Command) (result : Result (Unit {0}) Fault) (old middle new : Environment)
    → HasDone made old middle → Stepped (DoesInSession (finds_in middle.files.contents) middle.scorer.answer evaluating state command) left result middle new
    → Stepped (DoesInSession (finds_in old.files.contents) old.scorer.answer evaluating state command) left result middle new
Stepped-first made evaluating state left command result old middle new has stepped =
    Stepped-map (DoesInSession (finds_in middle.files.contents) middle.scorer.answer evaluating state command) (DoesInSession (finds_in old.files.contents) old.scorer.answer evaluating state command)
    left result middle new
    (λ step does. DoesInSession-finds (finds_in middle.files.contents) (finds_in old.files.contents) (finds-before old.files.contents middle.files.contents has.keeps.files.contents)
    old.scorer.answer evaluating state command step
    (subst (λ answer. DoesInSession (finds_in middle.files.contents) answer evaluating state command step) has.keeps.scorer.answer does)) stepped

pub written-at : (xs : List Statement) (i : ℕ) (x : Statement) → i < length xs → x ≡ slice_index_or xs i x → AreWritten (commands_of xs) → IsWritten (command_of x)
written-at [] i x within e h = absurd (omega (arith, within))
written-at (y ∷ ys) zero x within e h = subst (λ s. IsWritten (command_of s)) (sym e) h.0
written-at (y ∷ ys) (suc i) x within e h = written-at ys i x (omega (arith, within)) e h.1
