-- The word `view`: a script whose queries are kept as views, which grow as rows join their tables.
use Rattle.std.specs.Prelude.{ℕ, ℤ, ◌≡◌, List, [], ◌∷◌, ◌++◌, map, take, Result, Ok, Err, if◌then◌else◌}
use Rattle.std.specs.List.{flat_map}
use Rattle.rs_value.specs.Results.{◌>>=◌}
use Rattle.rs_lex.specs.declared.token.Span.{Span}
use Rattle.rs_rank.specs.declared.answer.Answer.{Answer}
use Rattle.rs_syntax.specs.Syntax.{Ask, Close, Command, Declare, Explain, ExplainAnalyze, Fetch, Insert}
use Rattle.rs_syntax.specs.Syntax as syntax
use Rattle.rs_syntax.specs.declared.name.Name.{Name}
use Rattle.rs_expr.specs.InOrder.{Inquiry}
use Rattle.rs_expr.specs.Scoring.{Answering}
use Rattle.rs_catalog.specs.Catalog.{CatalogDef, empty}
use Rattle.rs_bind.specs.Queries.{bound_query, count_of}
use Rattle.rs_query.specs.Blocks.{block_in}
use Rattle.rs_query.specs.Questions.{Question, asking}
use Rattle.rs_query.specs.declared.query.Query.{Query}
use Rattle.rs_query.specs.declared.query.Query.TheVariants.{One, Set}
use Rattle.rs_plain.specs.Plain.{plain_faults}
use Rattle.rs_plain.specs.declared.fault.PlainFault.{PlainFault}
use Rattle.rs_view.specs.Fresh.{fresh_questions, making, whole_view}
use Rattle.rs_view.specs.Views.{ViewDef, rows_in}
use Rattle.rs_outside.specs.Files.{Finds}
use Rattle.rs_events.specs.Sequence.{Step, inquiry_step, lines_step, still, then_step}
use Rattle.rs_statement.specs.declared.evaluating.Evaluating.TheVariants.{Plainly}
use Rattle.rs_statement.specs.declared.fault.Fault.{Fault}
use Rattle.rs_statement.specs.Lines.{rank_lines}
use Rattle.rs_statement.specs.Named.{named_in, room_for, without}
use Rattle.rs_statement.specs.Statements.{Does, or_bind_fault, query_fault, refused_or}
use Rattle.rs_statement.specs.Steps as statement
use Rattle.rs_run.specs.declared.fault.RunFault.{RunFault}
use Rattle.rs_run.specs.declared.fault.RunFault.TheVariants.{NotEligible, Statement}
use Rattle.rs_run.specs.declared.fault.ScriptWord.TheVariants.{View}
use Rattle.rs_run.specs.Faults.{WordsRun}
use Rattle.rs_run.specs.Numbered.{Numbered, NumberedRun, first_statement}
use Rattle.rs_run.specs.Told.{told_step}

-- a view that a script holds, behind its name
abbrev pub HeldView : Type 0
HeldView = List ℕ × ViewDef

-- what a script has made so far, and the views that it holds, in the order of their DECLARE
pub record Kept : Type 0 where
  pub catalogue : CatalogDef
  pub views : List HeldView

-- whether a view of this name can be held: not where one of the name is, and not where there are as many as may be. There may be as many as there may be
-- cursors under the other words
abbrev pub room_for_view : List ℕ → List HeldView → Result (Unit {0}) Fault
room_for_view name views = room_for name (map (λ (held : HeldView). held.0) views)

-- the held view of this name; where there is none, the run ends
abbrev pub view_named : List ℕ → List HeldView → Result ViewDef Fault
view_named name views = named_in (λ (held : HeldView). held.0) (λ (held : HeldView). held.1) name views

-- a new view is the last one
abbrev pub with_view : List ℕ → ViewDef → Kept → Kept
with_view name view kept = record kept { views = kept.views ++ (name, view) ∷ [] }

abbrev pub made_outcome : List ℕ → Kept → Result ViewDef PlainFault → Result Kept Fault
made_outcome name kept (Ok view) = Ok (with_view name view kept)
made_outcome name kept (Err fault) = Err (query_fault kept.catalogue fault)

-- a view is made by all calls of its query; nothing is put, and no sample is taken
abbrev pub made_step : Answering → List ℕ → Kept → Query → statement.Step Kept
made_step answer name kept query = inquiry_step (λ made. []) (made_outcome name kept) (making answer kept.catalogue query)

-- the name of a view counts before its calls
abbrev pub named_step : Answering → List ℕ → Kept → Query → statement.Step Kept
named_step answer name kept query = refused_or (λ room. made_step answer name kept query) (room_for_view name kept.views)

-- a query that is bound, as that of a DECLARE, which is the statement of this number; one of which no view may be kept ends the run
abbrev pub viewed_step : Answering → ℕ → List ℕ → Kept → Query → Step RunFault Kept
viewed_step answer number name kept (One block limit) =
    if block.distinct then still (Err (NotEligible View number)) else told_step Statement (named_step answer name kept (One block limit))
viewed_step answer number name kept (Set op left right limit) = still (Err (NotEligible View number))

-- a DECLARE: its query is bound first
abbrev pub viewed_or : Answering → ℕ → List ℕ → Kept → Result Query Fault → Step RunFault Kept
viewed_or answer number name kept (Ok bound) = viewed_step answer number name kept bound
viewed_or answer number name kept (Err fault) = still (Err (Statement fault))

abbrev pub declared_step : Answering → ℕ → Kept → Name → syntax.Query → Step RunFault Kept
declared_step answer number kept name query = viewed_or answer number name.text kept (or_bind_fault (bound_query kept.catalogue query))

-- the questions by which a held view grows
abbrev pub growth_questions : CatalogDef → HeldView → List Question
growth_questions catalogue held = fresh_questions catalogue (block_in held.1.query 1) held.1.lengths

-- a held view over all rows that its tables have
abbrev pub grown_view : Answering → CatalogDef → HeldView → HeldView
grown_view answer catalogue held = (held.0, whole_view answer catalogue held.1.query)

-- the held views grow in the order of their DECLAREs: the questions of one come behind those of the one before it, up to the first bad number
abbrev pub growing_all : Answering → CatalogDef → List HeldView → Inquiry (List HeldView) PlainFault
growing_all answer catalogue views =
    asking plain_faults answer catalogue (flat_map (growth_questions catalogue) views) (map (grown_view answer catalogue) views)

abbrev pub grown_outcome : CatalogDef → Result (List HeldView) PlainFault → Result Kept Fault
grown_outcome catalogue (Ok views) = Ok (record { catalogue = catalogue; views = views })
grown_outcome catalogue (Err fault) = Err (query_fault catalogue fault)

abbrev pub grown_step : Answering → CatalogDef → List HeldView → statement.Step Kept
grown_step answer catalogue views = inquiry_step (λ grown. []) (grown_outcome catalogue) (growing_all answer catalogue views)

-- an INSERT does what it does under the other words, with the calls of its indexes, and then the held views grow
abbrev pub joined_step : Answering → List HeldView → statement.Step CatalogDef → statement.Step Kept
joined_step answer views own = of own.outcome where
  of : Result CatalogDef Fault → statement.Step Kept
  of (Ok catalogue) = then_step own (grown_step answer catalogue views)
  of (Err fault) = record { events = own.events; outcome = Err fault }

-- the first rows of a view with their output values, at most as many as a FETCH says. Its number counts first, and then its name
abbrev pub fetched_rows : Kept → ℤ × Span → Name → Result (List Answer) Fault
fetched_rows kept count name = do
  wanted ← or_bind_fault (count_of count)
  view ← view_named name.text kept.views
  Ok (take wanted (rows_in kept.catalogue view))

-- each FETCH ranks its rows from 1 on, and calls nobody
abbrev pub fetch_step : Kept → ℤ × Span → Name → statement.Step Kept
fetch_step kept count name = refused_or (λ rows. lines_step (rank_lines 1 rows) kept) (fetched_rows kept count name)

-- CLOSE gives the name free; all other views stay in their order
abbrev pub without_view : List ℕ → Kept → Kept
without_view name kept = record kept { views = without (λ (held : HeldView). held.0) name kept.views }

abbrev pub close_outcome : Kept → Name → Result Kept Fault
close_outcome kept name = view_named name.text kept.views >>= λ view. Ok (without_view name.text kept)

-- what makes a table, a predicate or an index leaves the views as they are
abbrev pub beside_views : List HeldView → statement.Step CatalogDef → statement.Step Kept
beside_views views own =
    record { events = own.events; outcome = own.outcome >>= λ catalogue. Ok (record { catalogue = catalogue; views = views }) }

-- what a statement does that isn't a DECLARE and that the word takes
abbrev pub DoesKept : Finds → Answering → Kept → Command → statement.Step Kept → Type 0
DoesKept finds answer kept (Fetch count name) step = step ≡ fetch_step kept count name
DoesKept finds answer kept (Close name) step = step ≡ still (close_outcome kept name)
DoesKept finds answer kept (Insert table rows) step =
    (own : statement.Step CatalogDef) × Does finds answer Plainly kept.catalogue (Insert table rows) own × (step ≡ joined_step answer kept.views own)
DoesKept finds answer kept command step =
    (own : statement.Step CatalogDef) × Does finds answer Plainly kept.catalogue command own × (step ≡ beside_views kept.views own)

-- what the statement of this number does: a query, and EXPLAIN of one, end the run, and nobody looks at their names and types
abbrev pub DoesByViews : Finds → Answering → ℕ → Kept → Command → Step RunFault Kept → Type 0
DoesByViews finds answer number kept (Declare name query) step = step ≡ declared_step answer number kept name query
DoesByViews finds answer number kept (Ask query) step = step ≡ still (Err (NotEligible View number))
DoesByViews finds answer number kept (Explain query) step = step ≡ still (Err (NotEligible View number))
DoesByViews finds answer number kept (ExplainAnalyze query) step = step ≡ still (Err (NotEligible View number))
DoesByViews finds answer number kept command step =
    (own : statement.Step Kept) × DoesKept finds answer kept command own × (step ≡ told_step Statement own)

-- the number of the next statement, and what the script has made and holds
abbrev pub ViewState : Type 0
ViewState = Numbered Kept

-- a script starts with its first statement and with nothing
abbrev pub first_view_statement : ViewState
first_view_statement = first_statement (record { catalogue = empty; views = [] })

-- the run of the statements of a script, from nothing on
abbrev pub ViewsRun : Finds → Answering → List Command → WordsRun → Type 0
ViewsRun finds answer commands run = NumberedRun (DoesByViews finds answer) first_view_statement commands run
