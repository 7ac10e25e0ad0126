-- The session as a run keeps it: open cursors by name, and what they are of its definition.
use Rattle.std.specs.Prelude.{ℕ, suc, ◌+◌, ◌≤◌, List, drop, length, map, take}
use Rattle.std.specs.List.{AllByRecursion}
use Rattle.rs_syntax.specs.Syntax.{Close, Command, Declare, Fetch}
use Rattle.rs_expr.specs.Scoring.{Answering}
use Rattle.rs_catalog.specs.Catalog.{CatalogDef}
use Rattle.rs_catalog.specs.Snapshot.{HaveRows, snapshot}
use Rattle.rs_exec.specs.Asking.{world_of}
use Rattle.rs_exec.specs.Cursors.{CursorState, StandsFor, asks_of, plan_of}
use Rattle.rs_statement.specs.declared.session.CursorRows.{CursorRows}
use Rattle.rs_statement.specs.declared.session.CursorRows.TheVariants as held
use Rattle.rs_statement.specs.declared.session.Session.{Session}
use Rattle.rs_statement.specs.Parts.Asks.{IsAt}
use Rattle.rs_statement.specs.Parts.Named.{entries}
use Rattle.rs_statement.specs.Planned.{asks_from, next_asks}
use Rattle.rs_statement.specs.Lines.{rank_lines}
use Rattle.rs_statement.specs.Steps.{Step}
use Rattle.rs_events.specs.Sequence.{lines_step}
use Rattle.rs_statement.specs.Session.{ByPlan, OpenCursor, Ready, Source, State, next_rows}

-- the open cursors by name, as a session keeps them
abbrev pub held_in : Session → List (List ℕ × CursorRows)
held_in session = entries session.cursors

-- what gives the rows of a cursor, and how often it was asked
abbrev pub source_of : CursorRows → Source
source_of (held.Asked cursor sizes) = ByPlan cursor.query (plan_of cursor) sizes.items
source_of (held.Ready rows given) = Ready rows.items

abbrev pub asked_of : CursorRows → ℕ
asked_of (held.Asked cursor sizes) = asks_of cursor
asked_of (held.Ready rows given) = given

-- an open cursor by its name
abbrev pub open_cursor : List ℕ × CursorRows → OpenCursor
open_cursor entry = record { name = entry.0; source = source_of entry.1; asked = asked_of entry.1 }

abbrev pub cursors_of : List (List ℕ × CursorRows) → List OpenCursor
cursors_of entries = map open_cursor entries

-- the catalogue and the open cursors
abbrev pub state_of : CatalogDef → List (List ℕ × CursorRows) → State
state_of catalogue entries = record { catalogue = catalogue; cursors = cursors_of entries }

-- what a cursor sees of a catalogue; rows that stand ready need none of it
abbrev pub seen_by : CursorRows → CatalogDef → CatalogDef
seen_by (held.Asked cursor sizes) catalogue = snapshot sizes.items catalogue
seen_by (held.Ready rows given) catalogue = catalogue

-- a cursor can be asked: the tables have the rows that it sees, and it stands for these and the scorer; and of rows that stand ready no more were given than
-- there are
abbrev pub CanBeAsked : Answering → CatalogDef → CursorRows → Type 0
CanBeAsked answer catalogue (held.Asked cursor sizes) = HaveRows sizes.items catalogue.tables × StandsFor (snapshot sizes.items catalogue) answer cursor
CanBeAsked answer catalogue (held.Ready rows given) = given ≤ length rows.items

-- each open cursor can be asked. This holds between any two statements: what joins the catalogue changes nothing for a cursor that stands, and a FETCH leaves
-- all other cursors as they are
abbrev pub CanAllBeAsked : Answering → CatalogDef → List (List ℕ × CursorRows) → Type 0
CanAllBeAsked answer catalogue cursors = AllByRecursion (λ (entry : List ℕ × CursorRows). CanBeAsked answer catalogue entry.1) cursors

-- the asks of a cursor that come next where this many are wanted, and how many they are
abbrev pub next_of_cursor : CatalogDef → Answering → CursorState → ℕ → ℕ
next_of_cursor catalogue answer cursor wanted = next_asks (world_of catalogue answer cursor.query) (plan_of cursor) (asks_of cursor) wanted

abbrev pub wanted_step : CatalogDef → Answering → CursorState → ℕ → Step CatalogDef
wanted_step catalogue answer cursor wanted =
    asks_from (world_of catalogue answer cursor.query) (plan_of cursor) (asks_of cursor) (next_of_cursor catalogue answer cursor wanted)

-- the same of every cursor: of rows that stand ready, this many are put
abbrev pub next_of : CatalogDef → Answering → CursorRows → ℕ → ℕ
next_of catalogue answer (held.Asked cursor sizes) wanted = next_of_cursor (snapshot sizes.items catalogue) answer cursor wanted
next_of catalogue answer (held.Ready rows given) wanted = next_rows rows.items given wanted

abbrev pub rows_step : CatalogDef → Answering → CursorRows → ℕ → Step CatalogDef
rows_step catalogue answer (held.Asked cursor sizes) wanted = wanted_step (snapshot sizes.items catalogue) answer cursor wanted
rows_step catalogue answer (held.Ready rows given) wanted =
    lines_step (rank_lines (suc given) (take (next_rows rows.items given wanted) (drop given rows.items))) catalogue

-- a cursor of the same query and plan that was asked this many times more
abbrev pub IsAskedMore : CursorState → ℕ → CursorState → Type 0
IsAskedMore old asks new = IsAt old.query (plan_of old) (asks_of old + asks) new

-- a statement that is none of DECLARE, FETCH and CLOSE
abbrev pub IsOfNoCursor : Command → Type 0
IsOfNoCursor (Declare name query) = ⊥
IsOfNoCursor (Fetch count name) = ⊥
IsOfNoCursor (Close name) = ⊥
IsOfNoCursor command = Unit {0}
