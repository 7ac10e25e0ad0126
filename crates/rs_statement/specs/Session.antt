-- The session of a script: the cursors that are open beside the catalogue, what DECLARE, FETCH and CLOSE do, and the run of all statements.
use Rattle.std.specs.Prelude.{ℕ, ℤ, ◌+◌, ◌-◌, ◌≡◌, min, List, [], ◌∷◌, ◌++◌, length, map, take, drop, suc, Result, Ok, Err, if◌then◌else◌}
use Rattle.std.specs.Str.{bytes_eq}
use Rattle.rs_value.specs.Results.{◌>>=◌}
use Rattle.rs_lex.specs.declared.token.Span.{Span}
use Rattle.rs_rank.specs.declared.answer.Answer.{Answer}
use Rattle.rs_syntax.specs.declared.name.Name.{Name}
use Rattle.rs_syntax.specs.Syntax.{Command, Close, Declare, Fetch}
use Rattle.rs_syntax.specs.Syntax as syntax
use Rattle.rs_expr.specs.Scoring.{Answering}
use Rattle.rs_catalog.specs.Catalog.{CatalogDef, empty}
use Rattle.rs_catalog.specs.Snapshot.{HaveRows, sizes_in, snapshot}
use Rattle.rs_bind.specs.Queries.{bound_query, count_of}
use Rattle.rs_query.specs.Views.{all_rows}
use Rattle.rs_query.specs.declared.query.Query.{Query}
use Rattle.rs_plain.specs.Plain.{evaluation_of}
use Rattle.rs_plain.specs.declared.fault.PlainFault.{PlainFault}
use Rattle.rs_plan.specs.Trees.{PlanTree}
use Rattle.rs_exec.specs.Asking.{world_of}
use Rattle.rs_exec.specs.Covering.{Covers}
use Rattle.rs_statement.specs.declared.evaluating.Evaluating.{Evaluating}
use Rattle.rs_statement.specs.declared.evaluating.Evaluating.TheVariants.{Plainly, Planned}
use Rattle.rs_statement.specs.declared.fault.Fault.{Fault}
use Rattle.rs_statement.specs.Named.{named_in, room_for, without}
use Rattle.rs_statement.specs.Lines.{rank_lines}
use Rattle.rs_statement.specs.Planned.{asks_from, next_asks, plan_for}
use Rattle.rs_outside.specs.Files.{Finds}
use Rattle.rs_statement.specs.Steps.{Run, Step}
use Rattle.rs_statement.specs.Sampled.{sample_step}
use Rattle.rs_events.specs.Sequence.{RunOf, inquiry_step, lines_step, still, then_step}
use Rattle.rs_statement.specs.Statements.{Does, or_bind_fault, query_fault, refused_or}

-- what gives the rows of a cursor: a plan of its query, which is asked for them one after another, over the tables with as many rows as each had at the
-- DECLARE; or they all stand ready
pub data Source : Type 0 where
  ByPlan : Query → PlanTree → List ℕ → Source
  Ready : List Answer → Source

-- an open cursor: its name, what gives its rows, and how often it was asked. Of rows that stand ready, each one that is given is an ask
pub record OpenCursor : Type 0 where
  pub name : List ℕ
  pub source : Source
  pub asked : ℕ

-- what a script has made so far, and which cursors are open, in the order of their DECLARE
pub record State : Type 0 where
  pub catalogue : CatalogDef
  pub cursors : List OpenCursor

-- a script starts with nothing
abbrev pub nothing : State
nothing = record { catalogue = empty; cursors = [] }

-- whether a cursor of this name can be opened: not where one of the name is open, and not where there are as many as may be
abbrev pub room_for_cursor : List ℕ → List OpenCursor → Result (Unit {0}) Fault
room_for_cursor name cursors = room_for name (map (λ (c : OpenCursor). c.name) cursors)

-- the open cursor of this name; where there is none, the run ends
abbrev pub cursor_named : List ℕ → List OpenCursor → Result OpenCursor Fault
cursor_named name cursors = named_in (λ (c : OpenCursor). c.name) (λ (c : OpenCursor). c) name cursors

-- a cursor is opened, and wasn't asked yet
abbrev pub with_cursor : List ℕ → Source → State → State
with_cursor name source state = record state { cursors = state.cursors ++ record { name = name; source = source; asked = 0 } ∷ [] }

-- the cursor of this name was asked this many times more; all others stay as they are
abbrev pub asked_more : List ℕ → ℕ → OpenCursor → OpenCursor
asked_more name asks cursor = if bytes_eq cursor.name name then record cursor { asked = cursor.asked + asks } else cursor

abbrev pub with_asks : List ℕ → ℕ → State → State
with_asks name asks state = record state { cursors = map (asked_more name asks) state.cursors }

-- the cursor of this name is open no more; all others stay as they are
abbrev pub without_cursor : List ℕ → State → State
without_cursor name state = record state { cursors = without (λ (c : OpenCursor). c.name) name state.cursors }

-- the query of a DECLARE: its names and types count first, and then whether a cursor of the name can be opened
abbrev pub declared_query : State → Name → syntax.Query → Result Query Fault
declared_query state name query = do
  bound ← or_bind_fault (bound_query state.catalogue query)
  room ← room_for_cursor name.text state.cursors
  Ok bound

-- a cursor whose rows stand ready
abbrev pub ready_outcome : List ℕ → State → Result (List Answer) PlainFault → Result State Fault
ready_outcome name state (Ok rows) = Ok (with_cursor name (Ready rows) state)
ready_outcome name state (Err fault) = Err (query_fault state.catalogue fault)

-- a DECLARE puts nothing. Plainly, it makes all calls of its query, and the rows stand ready; else it takes the sample, by which the plan is chosen
abbrev pub opened_step : Evaluating → Answering → List ℕ → State → Query → Step State
opened_step Plainly answer name state query =
    inquiry_step (λ rows. []) (ready_outcome name state) (evaluation_of answer state.catalogue query (all_rows state.catalogue query))
opened_step (Planned sampling) answer name state query =
    then_step (sample_step state.catalogue sampling query) (still (Ok (with_cursor name (ByPlan query (plan_for answer state.catalogue sampling query) (sizes_in state.catalogue)) state)))

-- what DECLARE does: the cursor is opened, or the statement is refused
abbrev pub declare_step : Evaluating → Answering → State → Name → syntax.Query → Step State
declare_step evaluating answer state name query =
    refused_or (opened_step evaluating answer name.text state) (declared_query state name query)

-- of rows that stand ready, this many were given: how many come next where this many are wanted
abbrev pub next_rows : List Answer → ℕ → ℕ → ℕ
next_rows rows given wanted = min wanted (length rows - given)

-- the lines of the rows of an answer that come next behind this many asks, where this many are wanted
abbrev pub next_lines : List Answer → ℕ → ℕ → List (List ℕ)
next_lines rows asked wanted =
    let given = min asked (length rows) in
    rank_lines (suc given) (take (next_rows rows given wanted) (drop given rows))

-- a FETCH goes on from the last ask of its cursor, and ranks go on too. It asks as often as it wants rows, but no more once LIMIT rows were given or an ask
-- met the end
abbrev pub fetched_from : Answering → State → List ℕ → ℕ → ℕ → Source → Step State
fetched_from answer state name asked wanted (ByPlan query tree sizes) =
    let w = world_of (snapshot sizes state.catalogue) answer query in
    then_step (asks_from w tree asked (next_asks w tree asked wanted)) (still (Ok (with_asks name (next_asks w tree asked wanted) state)))
fetched_from answer state name asked wanted (Ready rows) =
    lines_step (rank_lines (suc asked) (take (next_rows rows asked wanted) (drop asked rows))) (with_asks name (next_rows rows asked wanted) state)

-- this catalogue has the rows that a cursor sees, and the tables and the predicates of its query, or the rows of the cursor stand ready. That its tree is a
-- plan of the query isn't asked for: what joins the catalogue changes nothing of the asks of any tree
abbrev pub IsCursorOf : CatalogDef → OpenCursor → Type 0
IsCursorOf catalogue cursor = of cursor.source where
  of : Source → Type 0
  of (ByPlan query tree sizes) = HaveRows sizes catalogue.tables × Covers (snapshot sizes catalogue) query
  of (Ready rows) = Unit {0}

-- of a cursor this many rows are wanted
abbrev pub fetched_step : Answering → State → OpenCursor × ℕ → Step State
fetched_step answer state wanted = fetched_from answer state wanted.0.name wanted.0.asked wanted.1 wanted.0.source

-- the number of a FETCH counts first, and then its name
abbrev pub fetched_cursor : State → ℤ × Span → Name → Result (OpenCursor × ℕ) Fault
fetched_cursor state count name = do
  wanted ← or_bind_fault (count_of count)
  cursor ← cursor_named name.text state.cursors
  Ok (cursor, wanted)

-- what FETCH does: rows are put, or the statement is refused
abbrev pub fetch_step : Answering → State → ℤ × Span → Name → Step State
fetch_step answer state count name = refused_or (fetched_step answer state) (fetched_cursor state count name)

-- CLOSE gives the name free
abbrev pub close_outcome : State → Name → Result State Fault
close_outcome state name = cursor_named name.text state.cursors >>= λ cursor. Ok (without_cursor name.text state)

-- what a statement does that is of no cursor: the open cursors stay as they are
abbrev pub beside_cursors : List OpenCursor → Step CatalogDef → Step State
beside_cursors cursors step =
    record { events = step.events; outcome = step.outcome >>= λ catalogue. Ok (record { catalogue = catalogue; cursors = cursors }) }

-- what a statement does
abbrev pub DoesInSession : Finds → Answering → Evaluating → State → Command → Step State → Type 0
DoesInSession finds answer evaluating state (Declare name query) step = step ≡ declare_step evaluating answer state name query
DoesInSession finds answer evaluating state (Fetch count name) step = step ≡ fetch_step answer state count name
DoesInSession finds answer evaluating state (Close name) step = step ≡ still (close_outcome state name)
DoesInSession finds answer evaluating state command step =
    (own : Step CatalogDef) × Does finds answer evaluating state.catalogue command own × (step ≡ beside_cursors state.cursors own)

-- the run of the statements of a script, from nothing on
abbrev pub StatementsRun : Finds → Answering → Evaluating → List Command → Run → Type 0
StatementsRun finds answer evaluating commands run = RunOf (DoesInSession finds answer evaluating) nothing commands run
