-- What a script becomes behind some of its statements under the word `view`, what is so of the views that it holds then, and what a FETCH is there.
use Rattle.std.specs.Prelude.{ℕ, ℤ, ◌≡◌, false, List, [], ◌∷◌, unwrap_or, Some, Result, Ok}
use Rattle.std.specs.List.{AllByRecursion}
use Rattle.std.specs.Str.{bytes_eq}
use Rattle.rs_value.specs.Results.{◌>>=◌}
use Rattle.rs_lex.specs.declared.token.Span.{Span}
use Rattle.rs_expr.specs.Scoring.{Answering}
use Rattle.rs_catalog.specs.Catalog.{CatalogDef}
use Rattle.rs_typing.specs.declared.fault.BindFault.{BindFault}
use Rattle.rs_bind.specs.Queries.{bound_limit}
use Rattle.rs_query.specs.WellFormed.{IsQuery}
use Rattle.rs_query.specs.declared.query.Query.{Query}
use Rattle.rs_view.specs.Holding.{HasItsAnswer}
use Rattle.rs_syntax.specs.Syntax.{Close, Command, Declare, Fetch}
use Rattle.rs_syntax.specs.Syntax as syntax
use Rattle.rs_syntax.specs.declared.name.Name.{Name}
use Rattle.rs_events.specs.Events.{puts}
use Rattle.rs_outside.specs.Files.{Finds}
use Rattle.rs_statement.specs.declared.evaluating.Evaluating.TheVariants.{Plainly}
use Rattle.rs_statement.specs.Session.{State, nothing}
use Rattle.rs_statement.specs.Statements.{query_step, select_step}
use Rattle.rs_run.specs.Later.{Leads, LeadsTo}
use Rattle.rs_run.specs.Numbered.{DoesNext}
use Rattle.rs_run.specs.Viewing.{DoesByViews, HeldView, Kept, ViewState, fetch_step}

-- a fetch that may find anything: any bytes, or no file
abbrev pub anything : Finds
anything name there = Unit {0}

-- these statements, each of which ends without a fault, lead from one state to another
abbrev pub LeadsByViews : Finds → Answering → ViewState → List Command → ViewState → Type 0
LeadsByViews finds answer state commands later = Leads (DoesNext (DoesByViews finds answer)) state commands later

-- each held view has the first rows of its query's answer over the tables as they are
abbrev pub AllHaveTheirAnswers : Answering → Kept → Type 0
AllHaveTheirAnswers answer kept = AllByRecursion (λ (held : HeldView). HasItsAnswer answer kept.catalogue held.1) kept.views

-- a FETCH, and this query under `plain` in its place: both come to no fault, and both put the same lines, whose ranks begin at 1
pub record PutsAsPlain (answer : Answering) (kept : Kept) (count : ℤ × Span) (name : Name) (query : Query) : Type 0 where
  pub formed : IsQuery kept.catalogue query
  pub fetched : (fetch_step kept count name).outcome ≡ Ok kept
  pub asked : (query_step Plainly answer kept.catalogue query).outcome ≡ Ok kept.catalogue
  pub same : puts (fetch_step kept count name).events ≡ puts (query_step Plainly answer kept.catalogue query).events

-- a FETCH, and this SELECT under `plain` in its place, which is bound there: the same
pub record PutsAsSelect (answer : Answering) (kept : Kept) (count : ℤ × Span) (name : Name) (query : syntax.Query) : Type 0 where
  pub fetched : (fetch_step kept count name).outcome ≡ Ok kept
  pub asked : (select_step Plainly answer kept.catalogue query).outcome ≡ Ok kept.catalogue
  pub same : puts (fetch_step kept count name).events ≡ puts (select_step Plainly answer kept.catalogue query).events

-- a statement that is no CLOSE of this name
abbrev pub IsNotClosed : List ℕ → Command → Type 0
IsNotClosed name (Close own) = bytes_eq name own.text ≡ false
IsNotClosed name _ = Unit {0}

abbrev pub AreNotClosed : List ℕ → List Command → Type 0
AreNotClosed name commands = AllByRecursion (IsNotClosed name) commands

-- a query with this LIMIT
abbrev pub with_limit : ℤ × Span → syntax.Query → syntax.Query
with_limit limit query = record query { limit = Some limit }

-- how many rows a view of a query has at most, by its LIMIT as it is written
abbrev pub most_written : syntax.Query → Result ℕ BindFault
most_written query = bound_limit query.limit >>= λ limit. Ok (unwrap_or limit 10)

-- the statements without those that are of a view
abbrev pub without_views : List Command → List Command
without_views [] = []
without_views (Declare name query ∷ rest) = without_views rest
without_views (Fetch count name ∷ rest) = without_views rest
without_views (Close name ∷ rest) = without_views rest
without_views (command ∷ rest) = command ∷ without_views rest

-- a state of a script without cursors
abbrev pub bare : CatalogDef → State
bare catalogue = record { catalogue = catalogue; cursors = [] }

-- under `plain` the statements that are of no view lead from nothing to the same tables, predicates and indexes
abbrev pub HasPlace : Finds → Answering → List Command → Kept → Type 0
HasPlace finds answer commands kept = LeadsTo finds answer Plainly nothing (without_views commands) (bare kept.catalogue)
