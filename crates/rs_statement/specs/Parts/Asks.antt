-- What the parts of a query by a plan do.
use Rattle.std.specs.Prelude.{ℕ, suc, ◌≡◌, ◌<◌, ◌-◌, Bool, true, false, length, max, Result, Ok, Err}
use Rattle.rs_expr.specs.Scoring.{Answering}
use Rattle.rs_catalog.specs.Catalog.{CatalogDef}
use Rattle.rs_query.specs.Answers.{limit_of}
use Rattle.rs_query.specs.declared.query.Query.{Query}
use Rattle.rs_plan.specs.Lists.{World, list_of_plan}
use Rattle.rs_plan.specs.Trees.{PlanTree}
use Rattle.rs_exec.specs.Asking.{world_of}
use Rattle.rs_exec.specs.Cursors.{CursorState, StandsFor, asks_after, asks_of, call_of, is_over, plan_of}
use Rattle.rs_exec.specs.declared.fault.ExecFault.{ExecFault}
use Rattle.rs_exec.specs.declared.fault.ExecFault.TheVariants.{BadScore, Broken, Memory, Probe}
use Rattle.rs_statement.specs.declared.fault.Fault.{Fault}
use Rattle.rs_statement.specs.Planned.{ask_count, asked_step, asks_from, asks_in_all}
use Rattle.rs_statement.specs.Steps.{Step}

-- what is left of the asks of a plan after this many
abbrev pub asks_left : World → PlanTree → ℕ → Step CatalogDef
asks_left w tree n = asks_from w tree n (ask_count (limit_of w.query) (length (list_of_plan w tree)) - n)

-- what is left to be asked of a cursor
abbrev pub left_of : CatalogDef → Answering → CursorState → Step CatalogDef
left_of catalogue answer cursor = asks_left (world_of catalogue answer cursor.query) (plan_of cursor) (asks_of cursor)

-- the next call of a cursor, and the put of the row that it gives
abbrev pub call_step : CatalogDef → Answering → CursorState → Step CatalogDef
call_step catalogue answer cursor = asked_step catalogue (suc (asks_of cursor)) (call_of catalogue answer cursor)

-- a cursor of this query and plan that was asked this many times
pub record IsAt (query : Query) (tree : PlanTree) (n : ℕ) (cursor : CursorState) : Type 0 where
  pub query_is : cursor.query ≡ query
  pub plan_is : plan_of cursor ≡ tree
  pub asks_are : asks_of cursor ≡ n

-- a cursor that was asked once more, and whether there was a row: before, it wasn't asked for all yet, or else it is by now
pub record AskedOnce (catalogue : CatalogDef) (answer : Answering) (cursor : CursorState) (more : Bool) (next : CursorState) : Type 0 where
  pub stands : StandsFor catalogue answer next
  pub at : IsAt cursor.query (plan_of cursor) (asks_after (world_of catalogue answer cursor.query) (plan_of cursor) (asks_of cursor)) next
  pub before : more ≡ true → is_over (world_of catalogue answer cursor.query) (plan_of cursor) (asks_of cursor) ≡ false
  pub ended : more ≡ false → is_over (world_of catalogue answer cursor.query) (plan_of cursor) (asks_after (world_of catalogue answer cursor.query) (plan_of cursor) (asks_of cursor)) ≡ true

-- how often a cursor is asked for all that its query wants, if it wasn't asked more often before
abbrev pub most_asks : CatalogDef → Answering → CursorState → ℕ
most_asks catalogue answer cursor = max (asks_of cursor) (asks_in_all (world_of catalogue answer cursor.query) (plan_of cursor))

-- a cursor that was asked this many times
abbrev pub AskedForAll : CatalogDef → Answering → CursorState → CursorState → Type 0
AskedForAll catalogue answer cursor next = IsAt cursor.query (plan_of cursor) (most_asks catalogue answer cursor) next

-- a cursor stands for some catalogue and scorer
abbrev pub StandsSomewhere : CursorState → Type 0
StandsSomewhere cursor = (catalogue : CatalogDef) × (answer : Answering) × StandsFor catalogue answer cursor

-- whether a call went well, without what it answers
abbrev pub without_value : {A : Type 0} → Result A Fault → Result (Unit {0}) Fault
without_value (Ok value) = Ok tt
without_value (Err fault) = Err fault

-- the predicate that a fault names is one of the catalogue
abbrev pub NamesPredicate : CatalogDef → ExecFault → Type 0
NamesPredicate catalogue (BadScore predicate ids got max) = predicate < length catalogue.predicates
NamesPredicate catalogue (Probe predicate) = predicate < length catalogue.predicates
NamesPredicate catalogue Memory = Unit {0}
NamesPredicate catalogue Broken = Unit {0}
