-- A query by a plan: its rows are asked for one after another, and each is put before the next one is asked for.
use Rattle.std.specs.Prelude.{ℕ, zero, suc, ◌-◌, min, List, [], ◌∷◌, length, Option, Some, None, Result, Ok, Err}
use Rattle.rs_rank.specs.declared.answer.Answer.{Answer}
use Rattle.rs_lines.specs.Row.{line_of}
use Rattle.rs_expr.specs.InOrder.{Inquiry}
use Rattle.rs_expr.specs.Scoring.{Answering}
use Rattle.rs_catalog.specs.Catalog.{CatalogDef}
use Rattle.rs_query.specs.Answers.{limit_of, predicate_at}
use Rattle.rs_query.specs.Views.{all_rows}
use Rattle.rs_query.specs.declared.query.Query.{Query}
use Rattle.rs_plan.specs.Lists.{World, list_of_plan}
use Rattle.rs_plan.specs.Trees.{PlanTree}
use Rattle.rs_sample.specs.Cards.{BlockCards}
use Rattle.rs_sample.specs.Sampling.{query_cards}
use Rattle.rs_enum.specs.Least.{least_plan}
use Rattle.rs_exec.specs.Cursors.{next_answer}
use Rattle.rs_exec.specs.declared.fault.ExecFault.{ExecFault}
use Rattle.rs_exec.specs.declared.fault.ExecFault.TheVariants as exec
use Rattle.rs_statement.specs.declared.sampling.Sampling.{Sampling}
use Rattle.rs_statement.specs.declared.sampling.Sampling.TheVariants.{ByGuesses, ByScores}
use Rattle.rs_statement.specs.declared.fault.Fault.{Fault}
use Rattle.rs_statement.specs.declared.fault.Fault.TheVariants.{BadScore, Memory, Probe}
use Rattle.rs_statement.specs.Sampled.{formulas}
use Rattle.rs_statement.specs.Steps.{Step}
use Rattle.rs_events.specs.Sequence.{inquiry_step, still, then_step}

-- what planning knows of a query, by its sample: its rows are scored by the scorer of the run, or the same rows by formulas
abbrev pub cards_for : Answering → CatalogDef → Sampling → Query → List BlockCards
cards_for answer catalogue (ByScores seed) query = query_cards answer catalogue query (all_rows catalogue query) seed
cards_for answer catalogue (ByGuesses seed) query = query_cards formulas catalogue query (all_rows catalogue query) seed

-- the plan of a query: the least one by its sample
abbrev pub plan_for : Answering → CatalogDef → Sampling → Query → PlanTree
plan_for answer catalogue sampling query = least_plan catalogue query (cards_for answer catalogue sampling query)

-- the line of the row that an ask gave, at this rank; at the end of the rows, or where a fault came, there is none
abbrev pub given_lines : ℕ → Result (Option Answer) ExecFault → List (List ℕ)
given_lines rank (Ok (Some row)) = line_of rank row.score row.values ∷ []
given_lines rank (Ok None) = []
given_lines rank (Err fault) = []

-- the fault of a run in which an ask came to one; no ask follows it, so none is made of a broken cursor
abbrev pub ask_fault : CatalogDef → ExecFault → Fault
ask_fault catalogue (exec.BadScore predicate ids got max) = BadScore (predicate_at catalogue predicate).name ids.rows got max
ask_fault catalogue (exec.Probe predicate) = Probe (predicate_at catalogue predicate).name
ask_fault catalogue exec.Memory = Memory
ask_fault catalogue exec.Broken = Memory

-- an ask leaves the catalogue as it is
abbrev pub ask_outcome : CatalogDef → Result (Option Answer) ExecFault → Result CatalogDef Fault
ask_outcome catalogue (Ok given) = Ok catalogue
ask_outcome catalogue (Err fault) = Err (ask_fault catalogue fault)

-- an ask: its calls, and then the row that it gives, as one line
abbrev pub asked_step : CatalogDef → ℕ → Inquiry (Option Answer) ExecFault → Step CatalogDef
asked_step catalogue rank given = inquiry_step (given_lines rank) (ask_outcome catalogue) given

-- ask n + 1 of a plan, whose row has the rank n + 1
abbrev pub ask_step : World → PlanTree → ℕ → Step CatalogDef
ask_step w tree n = asked_step w.catalogue (suc n) (next_answer w tree n)

-- this many asks one after another, from ask n + 1 on
abbrev pub asks_from : World → PlanTree → ℕ → ℕ → Step CatalogDef
asks_from w tree n zero = still (Ok w.catalogue)
asks_from w tree n (suc count) = then_step (ask_step w tree n) (asks_from w tree (suc n) count)

-- a plan of this many rows is asked until LIMIT rows were given, or an ask met their end
abbrev pub ask_count : Option ℕ → ℕ → ℕ
ask_count None rows = suc rows
ask_count (Some limit) rows = min limit (suc rows)

-- how often it is asked for all that its query wants
abbrev pub asks_in_all : World → PlanTree → ℕ
asks_in_all w tree = ask_count (limit_of w.query) (length (list_of_plan w tree))

-- a query by its plan: all these asks, one after another, up to the first fault
abbrev pub planned_step : World → PlanTree → Step CatalogDef
planned_step w tree = asks_from w tree 0 (asks_in_all w tree)

-- of a plan that was asked this many times, the asks that come next where this many are wanted
abbrev pub next_asks : World → PlanTree → ℕ → ℕ → ℕ
next_asks w tree asked wanted = min wanted (asks_in_all w tree - asked)
