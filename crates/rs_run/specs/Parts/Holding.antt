-- The views of a script, as a run holds them.
use Rattle.std.specs.Prelude.{List, Result, Ok, Err}
use Rattle.std.specs.List.{AllByRecursion}
use Rattle.rs_expr.specs.Scoring.{Answering}
use Rattle.rs_catalog.specs.Catalog.{CatalogDef}
use Rattle.rs_syntax.specs.Syntax.{Close, Command, CreatePredicate, CreateRankIndex, CreateTable, Fetch, Insert}
use Rattle.rs_query.specs.declared.query.Query.{Query}
use Rattle.rs_plain.specs.Results.{NamesCalled}
use Rattle.rs_plain.specs.declared.fault.PlainFault.{PlainFault}
use Rattle.rs_view.specs.Views.{Stands}
use Rattle.rs_statement.specs.Parts.Named.{entries}
use Rattle.rs_run.specs.declared.views.HeldViews.{HeldViews}
use Rattle.rs_run.specs.Viewing.{HeldView, Kept}

-- the held views in the order of their DECLARE
abbrev pub views_in : HeldViews → List HeldView
views_in held = entries held.views

-- the catalogue, and these views
abbrev pub kept_of : CatalogDef → List HeldView → Kept
kept_of catalogue views = record { catalogue = catalogue; views = views }

-- each held view stands for the catalogue and the scorer. This holds between any two statements
abbrev pub AllStand : Answering → CatalogDef → List HeldView → Type 0
AllStand answer catalogue views = AllByRecursion (λ (held : HeldView). Stands answer catalogue held.1) views

-- what the growth of some views gives: the views as they are then, or a fault
abbrev pub as_all_grown : List HeldView → Result (Unit {0}) PlainFault → Result (List HeldView) PlainFault
as_all_grown views (Ok done) = Ok views
as_all_grown views (Err fault) = Err fault

-- a fault names a predicate that some query calls
abbrev pub NamesSome : CatalogDef → PlainFault → Type 0
NamesSome catalogue fault = (query : Query) × NamesCalled catalogue query fault

-- a statement that the word takes and that isn't a DECLARE
abbrev pub IsKept : Command → Type 0
IsKept (CreateTable name columns file) = Unit {0}
IsKept (CreatePredicate name params max cost formula) = Unit {0}
IsKept (CreateRankIndex name table predicate args at) = Unit {0}
IsKept (Insert table rows) = Unit {0}
IsKept (Fetch count name) = Unit {0}
IsKept (Close name) = Unit {0}
IsKept _ = ⊥
