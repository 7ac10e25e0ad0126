-- Which held views stand: those that are written, and all behind a statement.
use Rattle.std.proofs.Common.{ℕ, ◌≡◌, ◌∙◌, List, [], ◌∷◌, ◌++◌, zero, suc, append-nil, refl, sym, ap, subst}
use Rattle.std.specs.Prelude.{Option, Some, Ok, option_map, slice_get}
use Rattle.std.specs.List.{AllByRecursion}
use Rattle.indexmap.specs.IndexMap.{set_value_at}
use Rattle.rs_catalog.specs.Catalog.{CatalogDef}
use Rattle.rs_expr.specs.Scoring.{Answering}
use Rattle.rs_value.specs.declared.value.Value.{Value}
use Rattle.rs_syntax.specs.Syntax.{Command}
use Rattle.rs_syntax.specs.Written.{IsWritten}
use Rattle.rs_table.specs.Lent.{with_rows}
use Rattle.rs_table.specs.Relation.{Relation}
use Rattle.rs_catalog.specs.Catalog.{NamedTable, RankIndex}
use Rattle.rs_catalog.specs.Growing.{grown, with_rows_in}
use Rattle.rs_catalog.proofs.JoinedFacts.{joined-index, joined-predicate, joined-table, only_index, only_predicate, only_table}
use Rattle.rs_query.specs.Growth.{CatalogueGrows}
use Rattle.rs_query.proofs.GrowthFacts.{grows-joined, grows-same}
use Rattle.rs_outside.specs.Files.{Finds}
use Rattle.rs_statement.specs.declared.evaluating.Evaluating.TheVariants.{Plainly}
use Rattle.rs_statement.specs.Statements.{Does}
use Rattle.rs_statement.specs.Steps as statement
use Rattle.rs_statement.proofs.HeldSteps.{kept-step}
use Rattle.rs_view.specs.Views.{Stands, ViewDef}
use Rattle.rs_run.specs.Parts.Holding.{AllStand}
use Rattle.rs_run.specs.Viewing.{HeldView}

-- with another view at a place, all stand where that one does
module _ (answer : Answering) (catalogue : CatalogDef) where
  pub stand-set : (views : List HeldView) (i : ℕ) (view : ViewDef) → AllStand answer catalogue views → Stands answer catalogue view → AllStand answer catalogue (set_value_at views i view)
  stand-set [] i view all one = tt
  stand-set (held ∷ views) zero view all one = (one, all.1)
  stand-set (held ∷ views) (suc i) view all one = (all.0, stand-set views i view all.1 one)

-- a view that stands for a catalogue stands for each one that it grows to
abbrev pub StandOn : Answering → Type 0
StandOn answer = (old new : CatalogDef) (view : ViewDef) → CatalogueGrows old new → Stands answer old view → Stands answer new view

pub stand-on : (answer : Answering) → StandOn answer → (old new : CatalogDef) → CatalogueGrows old new → (views : List HeldView) → AllStand answer old views → AllStand answer new views
stand-on answer on old new grows [] all = tt
stand-on answer on old new grows (held ∷ views) all = (on old new held.1 grows all.0, stand-on answer on old new grows views all.1)

-- a table of this number, behind whose rows some join perhaps
abbrev table_at : List NamedTable → ℕ → Option Relation
table_at tables number = option_map (λ (t : NamedTable). t.table) (slice_get tables number)

abbrev Begins : Option Relation → Relation → Type 0
Begins found table = (more : List (List Value)) × (found ≡ Some (with_rows more table))

begins-same : (found : Option Relation) (table : Relation) → found ≡ Some table → Begins found table
begins-same found table at = ([], at ∙ sym (ap (λ (rows : List (List Value)). Some (record table { rows = rows })) (append-nil table.rows)))

begins-rows : (place : ℕ) (rows : List (List Value)) (tables : List NamedTable) (number : ℕ) (table : Relation) → table_at tables number ≡ Some table → Begins (table_at (with_rows_in place rows tables) number) table
begins-rows place rows [] number table at = cc
begins-rows zero rows (named ∷ tables) zero table at = let same : named.table ≡ table = cc in (rows, ap (λ (t : Relation). Some (with_rows rows t)) same)
begins-rows zero rows (named ∷ tables) (suc number) table at = begins-same (table_at tables number) table at
begins-rows (suc place) rows (named ∷ tables) zero table at = begins-same (Some named.table) table at
begins-rows (suc place) rows (named ∷ tables) (suc number) table at = begins-rows place rows tables number table at

-- a catalogue grows as rows join a table of it
grows-grown : (catalogue : CatalogDef) (table : ℕ) (rows : List (List Value)) (indexes : List RankIndex) → CatalogueGrows catalogue (grown table rows indexes catalogue)
grows-grown catalogue table rows indexes = record {
  tables = λ number found at. let begins = begins-rows table rows catalogue.tables number found at in record { more = begins.0; there = begins.1 };
  predicates = λ number predicate at. at;
}

-- and so it does by each statement
pub grows-step : (answer : Answering) (catalogue : CatalogDef) (finds : Finds) (command : Command) (step : statement.Step CatalogDef) (next : CatalogDef) → IsWritten command
    → Does finds answer Plainly catalogue command step → step.outcome ≡ Ok next → CatalogueGrows catalogue next
grows-step answer catalogue finds command step next =
    kept-step answer catalogue (CatalogueGrows catalogue) (grows-same catalogue)
    (λ name table. subst (CatalogueGrows catalogue) (joined-table catalogue name table) (grows-joined catalogue (only_table name table)))
    (λ predicate. subst (CatalogueGrows catalogue) (joined-predicate catalogue predicate) (grows-joined catalogue (only_predicate predicate)))
    (λ def ranking fits made. subst (CatalogueGrows catalogue) (joined-index catalogue def ranking) (grows-joined catalogue (only_index def ranking)))
    (λ table joining made join gives. grows-grown catalogue table joining made)
    finds Plainly command step next

pub stand-step : (answer : Answering) (catalogue : CatalogDef) (finds : Finds) (command : Command) (step : statement.Step CatalogDef) (next : CatalogDef) (views : List HeldView) → StandOn answer
    → AllStand answer catalogue views → IsWritten command → Does finds answer Plainly catalogue command step → step.outcome ≡ Ok next → AllStand answer next views
stand-step answer catalogue finds command step next views on all written does leaves =
    stand-on answer on catalogue next (grows-step answer catalogue finds command step next written does leaves) views all
