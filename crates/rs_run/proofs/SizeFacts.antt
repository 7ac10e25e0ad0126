-- What makes a table, a predicate or an index adds no row to a table that is there, so the sizes of the entries of a block stay.
use Rattle.std.proofs.Common.{ℕ, ◌≡◌, ◌∙◌, ◌<◌, ◌-◌, List, [], ◌∷◌, length, refl, sym, ap, subst}
use Rattle.std.specs.Prelude.{Option, Some, None, Result, Ok, Err, option_and_then, option_map, slice_get, unwrap_or}
use Rattle.rs_order.proofs.EachFacts.{each-slice_get}
use Rattle.rs_syntax.specs.Syntax.{Ask, Close, Command, CreatePredicate, CreateRankIndex, CreateTable, Declare, Explain, ExplainAnalyze, Fetch, Insert}
use Rattle.rs_syntax.specs.declared.name.Name.{Name}
use Rattle.rs_table.specs.Column.{Column}
use Rattle.rs_table.specs.Reading.{table_of}
use Rattle.rs_table.specs.Relation.{Relation}
use Rattle.rs_expr.specs.Scoring.{Answering}
use Rattle.rs_catalog.specs.Catalog.{CatalogDef, NamedTable, with_table}
use Rattle.rs_catalog.specs.Indexes.{making, predicate_for}
use Rattle.rs_catalog.specs.declared.index.IndexDef.{IndexDef}
use Rattle.rs_catalog.specs.declared.room.What.TheVariants as what
use Rattle.rs_catalog.proofs.JoinedFacts.{slice_get-front}
use Rattle.rs_bind.specs.Indexes.{index_def_of}
use Rattle.rs_bind.specs.Names.{columns_of}
use Rattle.rs_bind.specs.Predicates.{predicate_of}
use Rattle.rs_query.specs.Tables.{entry_table, size_of, sizes_of}
use Rattle.rs_query.specs.WellFormed.{IsBlock, IsFromEntry}
use Rattle.rs_query.specs.declared.block.Block.{Block}
use Rattle.rs_outside.specs.Files.{Finds}
use Rattle.rs_statement.specs.declared.evaluating.Evaluating.TheVariants.{Plainly}
use Rattle.rs_statement.specs.declared.fault.Fault.{Fault}
use Rattle.rs_statement.specs.Content.{content_of, or_table_fault, table_limit}
use Rattle.rs_statement.specs.Faults.{or_index_fault}
use Rattle.rs_statement.specs.Statements.{Does, DoesTable, index_step, predicate_outcome, refused_or, table_step, with_room}
use Rattle.rs_statement.specs.Steps as statement
use Rattle.rs_statement.proofs.HeldSteps.{Ok-then}
use Rattle.rs_run.proofs.ViewLeft.{IsMaking}

-- the table of an entry that was found
abbrev table_in : CatalogDef → Option (ℕ × List ℕ) → Option Relation
table_in catalogue found = option_and_then (λ (from : ℕ × List ℕ). option_map (λ (t : NamedTable). t.table) (slice_get catalogue.tables from.0)) found

-- a table that joins leaves the numbers of rows of all others as they are
module _ (old new : CatalogDef) where
  -- the tables that were there are there, as they were
  abbrev pub HasTables : Type 0
  HasTables = (number : ℕ) → number < length old.tables → slice_get new.tables number ≡ slice_get old.tables number

  abbrev pub SameSizes : Type 0
  SameSizes = (block : Block) → IsBlock old block → sizes_of new block ≡ sizes_of old block

  size-same : HasTables → (block : Block) → IsBlock old block → (entry : ℕ) → size_of new block entry ≡ size_of old block entry
  size-same has block is entry = ap (λ (found : Option Relation). unwrap_or (option_map (λ (table : Relation). length table.rows) found) 0) (go (slice_get block.from (entry - 1)) refl) where
    go : (found : Option (ℕ × List ℕ)) → slice_get block.from (entry - 1) ≡ found → entry_table new block entry ≡ entry_table old block entry
    go (Some from) there =
        let within = each-slice_get (IsFromEntry old) block.from (entry - 1) from is.entries there in
        ap (table_in new) there ∙ ap (option_map (λ (t : NamedTable). t.table)) (has from.0 within) ∙ sym (ap (table_in old) there)
    go None none = ap (table_in new) none ∙ sym (ap (table_in old) none)

  pub sizes-same : HasTables → SameSizes
  sizes-same has block is =
      let same = size-same has block is in
      λ i. same 1 i ∷ same 2 i ∷ same 3 i ∷ same 4 i ∷ same 5 i ∷ same 6 i ∷ []

-- what makes a table, a predicate or an index adds no row to a table that is there
module _ (answer : Answering) (catalogue : CatalogDef) where
  abbrev Keeps : Result CatalogDef Fault → Type 0
  Keeps outcome = (next : CatalogDef) → outcome ≡ Ok next → HasTables catalogue next

  keeps-none : (fault : Fault) → Keeps (Err fault)
  keeps-none fault next e = absurd cc

  keeps-tables : (made next : CatalogDef) → made.tables ≡ catalogue.tables → ◌≡◌ {A = Result CatalogDef Fault} (Ok made) (Ok next) → HasTables catalogue next
  keeps-tables made next same e = let is : made ≡ next = cc in λ number within. ap (λ (tables : List NamedTable). slice_get tables number) (sym (ap (λ (c : CatalogDef). c.tables) is) ∙ same)

  keeps-table : (name : Name) (file : List ℕ) (columns : List Column) (there : Option (List ℕ)) → Keeps (table_step catalogue name file columns there).outcome
  keeps-table name file columns there next e =
      let read = Ok-then (content_of table_limit file there) _ next e in
      let made = Ok-then (or_table_fault file (table_of columns read.0)) _ next read.2 in
      let is : with_table name.text made.0 catalogue ≡ next = (let last = made.2 in cc) in
      λ number within.
      ap (λ (c : CatalogDef). slice_get c.tables number) (sym is) ∙ slice_get-front catalogue.tables (record { name = name.text; table = made.0 } ∷ []) number within

  keeps-made : (finds : Finds) (name : Name) (file : List ℕ) (bound : Result (List Column) Fault) (own : statement.Step CatalogDef) → DoesTable finds catalogue name file bound own → Keeps own.outcome
  keeps-made finds name file (Err fault) own does = subst (λ (s : statement.Step CatalogDef). Keeps s.outcome) (sym does) (keeps-none fault)
  keeps-made finds name file (Ok columns) own does = subst (λ (s : statement.Step CatalogDef). Keeps s.outcome) (sym does.2) (keeps-table name file columns does.0)

  keeps-predicate : (name : Name) (command : Command) → Keeps (predicate_outcome catalogue name command)
  keeps-predicate name command next e =
      let made = Ok-then (with_room catalogue what.Predicate name (predicate_of command)) _ next e in
      keeps-tables _ next refl made.2

  keeps-index : (bound : Result IndexDef Fault) → Keeps (refused_or (index_step answer catalogue) bound).outcome
  keeps-index (Err fault) = keeps-none fault
  keeps-index (Ok def) = λ next e.
      let made = Ok-then (or_index_fault (predicate_for catalogue def).name (making answer catalogue def).outcome) _ next e in
      keeps-tables _ next refl made.2

  pub keeps-step : (finds : Finds) (command : Command) (own : statement.Step CatalogDef) → IsMaking command → Does finds answer Plainly catalogue command own → Keeps own.outcome
  keeps-step finds (CreateTable name columns file) own is does = keeps-made finds name file (with_room catalogue what.Table name (columns_of columns)) own does
  keeps-step finds (CreatePredicate name params max cost formula) own is does =
      subst (λ (s : statement.Step CatalogDef). Keeps s.outcome) (sym does) (keeps-predicate name (CreatePredicate name params max cost formula))
  keeps-step finds (CreateRankIndex name table predicate args at) own is does =
      subst (λ (s : statement.Step CatalogDef). Keeps s.outcome) (sym does)
      (keeps-index (with_room catalogue what.Index name (index_def_of catalogue (CreateRankIndex name table predicate args at))))
  keeps-step finds (Insert table rows) own is does = absurd is
  keeps-step finds (Ask query) own is does = absurd is
  keeps-step finds (Declare name query) own is does = absurd is
  keeps-step finds (Fetch count name) own is does = absurd is
  keeps-step finds (Close name) own is does = absurd is
  keeps-step finds (Explain query) own is does = absurd is
  keeps-step finds (ExplainAnalyze query) own is does = absurd is
