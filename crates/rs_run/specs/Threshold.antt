-- The word `ta`: the statements of a script, whose queries are answered by threshold scans.
use Rattle.std.specs.Prelude.{ℕ, ◌≡◌, ◌*◌, List, [], ◌∷◌, ◌++◌, length, Option, Some, None, option_map, Result, Ok, Err, codes}
use Rattle.std.specs.Fmt.{decimal}
use Rattle.rs_syntax.specs.Syntax.{Ask, Close, Command, Declare, Explain, ExplainAnalyze, Fetch}
use Rattle.rs_syntax.specs.Syntax as syntax
use Rattle.rs_expr.specs.Scoring.{Answering}
use Rattle.rs_catalog.specs.Catalog.{CatalogDef, empty}
use Rattle.rs_bind.specs.Queries.{bound_query}
use Rattle.rs_query.specs.Answers.{answer_of, limit_of}
use Rattle.rs_query.specs.Views.{all_rows}
use Rattle.rs_query.specs.declared.query.Query.{Query}
use Rattle.rs_query.specs.declared.query.Query.TheVariants.{One, Set}
use Rattle.rs_ta.specs.Depths.{ScanInput, answers, depth, lookups, sights}
use Rattle.rs_ta.specs.Eligible.{block_input, eligible_indexes}
use Rattle.rs_ta.specs.Lists.{total}
use Rattle.rs_outside.specs.Files.{Finds}
use Rattle.rs_events.specs.Sequence.{Step, lines_step, still}
use Rattle.rs_statement.specs.declared.evaluating.Evaluating.TheVariants.{Plainly}
use Rattle.rs_statement.specs.declared.fault.Fault.{Fault}
use Rattle.rs_statement.specs.Lines.{rank_lines}
use Rattle.rs_statement.specs.Planned.{ask_count}
use Rattle.rs_statement.specs.Statements.{Does, or_bind_fault}
use Rattle.rs_statement.specs.Steps as statement
use Rattle.rs_run.specs.declared.fault.RunFault.{RunFault}
use Rattle.rs_run.specs.declared.fault.RunFault.TheVariants.{NotEligible, Statement}
use Rattle.rs_run.specs.declared.fault.ScriptWord.TheVariants.{Ta}
use Rattle.rs_run.specs.Faults.{WordsRun}
use Rattle.rs_run.specs.Numbered.{NumberedRun, first_statement}
use Rattle.rs_run.specs.Told.{told_step}

-- what the scan of a bound query is over; there is none where the query isn't one block that is eligible
abbrev pub scan_for : CatalogDef → Query → Option ScanInput
scan_for catalogue (One block limit) = option_map (block_input catalogue block) (eligible_indexes catalogue block)
scan_for catalogue (Set op left right limit) = None

-- how often a scan is asked: until LIMIT rows were given, or an ask met their end
abbrev pub scan_asks : Option ℕ → ScanInput → ℕ
scan_asks limit scan = ask_count limit (length (answers scan))

-- the line of the accesses of this many asks: the places of each list, the sorted accesses of all lists, and the random ones
abbrev pub access_line : ScanInput → ℕ → List ℕ
access_line scan asks =
    let places = depth scan asks in
    codes "depth=" ++ decimal places
    ++ codes " sorted=" ++ decimal (length scan.lists * places)
    ++ codes " random=" ++ decimal (total (length scan.lists) (lookups (sights scan.lists places))) ++ 10 ∷ []

-- what is put of a query: its rows, each as one line, and the line of its accesses
abbrev pub scan_lines : Answering → CatalogDef → Query → ScanInput → List (List ℕ)
scan_lines answer catalogue query scan =
    rank_lines 1 (answer_of answer catalogue query (all_rows catalogue query)) ++ access_line scan (scan_asks (limit_of query) scan) ∷ []

-- a bound query, as the statement of this number: nobody is called. One that isn't eligible ends the run
abbrev pub scan_of : Answering → ℕ → CatalogDef → Query → Option ScanInput → Step RunFault CatalogDef
scan_of answer number catalogue query None = still (Err (NotEligible Ta number))
scan_of answer number catalogue query (Some scan) = lines_step (scan_lines answer catalogue query scan) catalogue

abbrev pub scan_step : Answering → ℕ → CatalogDef → Query → Step RunFault CatalogDef
scan_step answer number catalogue query = scan_of answer number catalogue query (scan_for catalogue query)

-- a query, which is bound first
abbrev pub scanned_or : Answering → ℕ → CatalogDef → Result Query Fault → Step RunFault CatalogDef
scanned_or answer number catalogue (Ok bound) = scan_step answer number catalogue bound
scanned_or answer number catalogue (Err fault) = still (Err (Statement fault))

abbrev pub scanned_step : Answering → ℕ → CatalogDef → syntax.Query → Step RunFault CatalogDef
scanned_step answer number catalogue query = scanned_or answer number catalogue (or_bind_fault (bound_query catalogue query))

-- what the statement of this number does: a query is answered by a scan, and what makes a table, a predicate, an index or rows does what it does under
-- the other words. All others end the run, and nobody looks at their names and types
abbrev pub DoesByScan : Finds → Answering → ℕ → CatalogDef → Command → Step RunFault CatalogDef → Type 0
DoesByScan finds answer number catalogue (Ask query) step = step ≡ scanned_step answer number catalogue query
DoesByScan finds answer number catalogue (Declare name query) step = step ≡ still (Err (NotEligible Ta number))
DoesByScan finds answer number catalogue (Fetch count name) step = step ≡ still (Err (NotEligible Ta number))
DoesByScan finds answer number catalogue (Close name) step = step ≡ still (Err (NotEligible Ta number))
DoesByScan finds answer number catalogue (Explain query) step = step ≡ still (Err (NotEligible Ta number))
DoesByScan finds answer number catalogue (ExplainAnalyze query) step = step ≡ still (Err (NotEligible Ta number))
DoesByScan finds answer number catalogue command step =
    (own : statement.Step CatalogDef) × Does finds answer Plainly catalogue command own × (step ≡ told_step Statement own)

-- the run of the statements of a script, from nothing on
abbrev pub ScansRun : Finds → Answering → List Command → WordsRun → Type 0
ScansRun finds answer commands run = NumberedRun (DoesByScan finds answer) (first_statement empty) commands run
