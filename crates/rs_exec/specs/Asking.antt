-- What one ask of a node of a plan gives, and which questions it puts to the scorer.
use Rattle.std.specs.Prelude.{ℕ, suc, Option, slice_get}
use Rattle.rs_expr.specs.InOrder.{Inquiry}
use Rattle.rs_expr.specs.Scoring.{Answering, ScorerState}
use Rattle.rs_rank.specs.declared.row.RankRow.{RankRow}
use Rattle.rs_catalog.specs.Catalog.{CatalogDef}
use Rattle.rs_query.specs.Asking.{faults_by}
use Rattle.rs_query.specs.Questions.{Faults, asking}
use Rattle.rs_query.specs.Views.{all_rows}
use Rattle.rs_query.specs.declared.ask.AskFault.{AskFault}
use Rattle.rs_query.specs.declared.ask.AskFault.TheVariants as asked
use Rattle.rs_query.specs.declared.query.Query.{Query}
use Rattle.rs_plan.specs.Calls.{questions_of_ask}
use Rattle.rs_plan.specs.Lists.{World, list_of}
use Rattle.rs_plan.specs.Trees.{PlanTree}
use Rattle.rs_exec.specs.declared.context.QueryContext.{QueryContext}
use Rattle.rs_exec.specs.declared.fault.ExecFault.{ExecFault}
use Rattle.rs_exec.specs.declared.fault.ExecFault.TheVariants.{BadScore, Memory, Probe}

-- a query that sees all rows of its tables
abbrev pub world_of : CatalogDef → Answering → Query → World
world_of catalogue answer query = record { catalogue = catalogue; answer = answer; query = query; view = all_rows catalogue query }

-- what the nodes of a query see, where a scorer is in this state
abbrev pub world_in : QueryContext → ScorerState → World
world_in context scorer = world_of context.catalog.now scorer.answer context.query.now

-- what a cursor tells of a question that ends an ask
abbrev pub exec_fault : AskFault → ExecFault
exec_fault (asked.BadScore predicate ids got max) = BadScore predicate ids got max
exec_fault (asked.Probe predicate) = Probe predicate
exec_fault asked.Memory = Memory

abbrev pub exec_faults : Faults ExecFault
exec_faults = faults_by exec_fault

-- ask n + 1 of a node: its questions in order, up to the first bad number, and else row n + 1 of its list, if there is one
abbrev pub next_row : World → ℕ → PlanTree → ℕ → Inquiry (Option RankRow) ExecFault
next_row w number tree n = asking exec_faults w.answer w.catalogue (questions_of_ask w number tree (suc n)) (slice_get (list_of w number tree) n)
