-- Cursors: over which rows they are, when they stand for a catalogue and a scorer, and what their next row is.
use Rattle.std.specs.Prelude.{ℕ, suc, ◌≡◌, ◌≤◌, ◌||◌, Bool, true, false, nat_le, nat_lt, List, [], length, map, Option, Some, None, option_map, slice_get, Result, Ok, Err, if◌then◌else◌}
use Rattle.std.specs.List.{AllByRecursion}
use Rattle.rs_expr.specs.InOrder.{Inquiry}
use Rattle.rs_expr.specs.Scoring.{Answering}
use Rattle.rs_rank.specs.declared.answer.Answer.{Answer}
use Rattle.rs_rank.specs.declared.row.RankRow.{RankRow}
use Rattle.rs_rank.specs.Weights.{IsWeights}
use Rattle.rs_catalog.specs.Catalog.{CatalogDef}
use Rattle.rs_query.specs.Answers.{limit_of, weights_of}
use Rattle.rs_query.specs.Meaning.{outputs_of}
use Rattle.rs_query.specs.Questions.{asking}
use Rattle.rs_query.specs.Tables.{sizes_of}
use Rattle.rs_query.specs.Tops.{IsBounded}
use Rattle.rs_query.specs.WellFormed.{AreSameTerms, IsQuery}
use Rattle.rs_query.specs.declared.query.Query.{Query}
use Rattle.rs_query.specs.declared.query.Query.TheVariants.{One, Set}
use Rattle.rs_plan.specs.Calls.{questions_of_ask}
use Rattle.rs_plan.specs.Lists.{World, numbered_block, list_of_plan}
use Rattle.rs_query.specs.Blocks.{block_in}
use Rattle.rs_plan.specs.Plans.{IsPlan}
use Rattle.rs_plan.specs.Trees.{PlanTree}
use Rattle.rs_exec.specs.declared.fault.ExecFault.{ExecFault}
use Rattle.rs_exec.specs.declared.fault.ExecFault.TheVariants.{Broken}
use Rattle.rs_exec.specs.declared.node.PlanNode.{PlanNode}
use Rattle.rs_exec.specs.Asking.{exec_faults, world_of}
use Rattle.rs_exec.specs.Indexes.{PlanIndexesHold}
use Rattle.rs_exec.specs.Nodes.{asked_in, tree_in}
use Rattle.rs_exec.specs.Standing.{Stands}

-- a row of a plan's list as a row of the answer: its sum is the score, and its output values are those of its block
abbrev pub answer_for : World → RankRow → Answer
answer_for w row = record { ids = row.ids; score = row.sum; values = outputs_of w.catalogue (numbered_block w row.ids.block) row.ids.rows }

-- the rows that a cursor gives where there is no LIMIT
abbrev pub answers_of : World → PlanTree → List Answer
answers_of w tree = map (answer_for w) (list_of_plan w tree)

-- no block of a query has more than eight terms, and two blocks have the same
abbrev pub HasFewTerms : Query → Type 0
HasFewTerms (One block limit) = length block.terms ≤ 8
HasFewTerms (Set op left right limit) = (length left.terms ≤ 8) × (length right.terms ≤ 8) × AreSameTerms left right left.terms right.terms

-- this many rows are as many as LIMIT says
abbrev pub is_limit : Option ℕ → ℕ → Bool
is_limit None n = false
is_limit (Some limit) n = nat_le limit n

-- after this many asks the plan is asked no more: LIMIT rows were given, or an ask found the end
abbrev pub is_over : World → PlanTree → ℕ → Bool
is_over w tree n = is_limit (limit_of w.query) n || nat_lt (length (list_of_plan w tree)) n

-- ask n + 1 of the plan: its questions in order, up to the first bad number, and else row n + 1, if there is one
abbrev pub next_answer : World → PlanTree → ℕ → Inquiry (Option Answer) ExecFault
next_answer w tree n =
    asking exec_faults w.answer w.catalogue (questions_of_ask w 1 tree (suc n)) (option_map (answer_for w) (slice_get (list_of_plan w tree) n))

-- two worlds give the same rows by a plan, and each ask of it makes the same calls and comes to the same
pub record SameAsks (w other : World) (tree : PlanTree) : Type 0 where
  pub list : list_of_plan w tree ≡ list_of_plan other tree
  pub rows : answers_of w tree ≡ answers_of other tree
  pub asks : (n : ℕ) → next_answer w tree n ≡ next_answer other tree n

-- nothing is asked
abbrev pub no_question : {A : Type 0} → Result A ExecFault → Inquiry A ExecFault
no_question outcome = record { requests = []; outcome = outcome }

-- what the next call of a cursor is after this many asks of its plan
abbrev pub next_of : World → PlanTree → ℕ → Inquiry (Option Answer) ExecFault
next_of w tree n = if is_over w tree n then no_question (Ok None) else next_answer w tree n

-- how often the plan was asked after it
abbrev pub asks_after : World → PlanTree → ℕ → ℕ
asks_after w tree n = if is_over w tree n then n else suc n

-- a cursor: its query, the nodes of its plan, and whether a call of it failed
pub record CursorState : Type 0 where
  pub query : Query
  pub root : PlanNode
  pub failed : Bool

-- its plan, and how often that was asked
abbrev pub plan_of : CursorState → PlanTree
plan_of cursor = tree_in cursor.root

abbrev pub asks_of : CursorState → ℕ
asks_of cursor = asked_in cursor.root

-- a cursor at its start
pub record IsNew (query : Query) (tree : PlanTree) (cursor : CursorState) : Type 0 where
  pub query_is : cursor.query ≡ query
  pub plan_is : plan_of cursor ≡ tree
  pub unasked : asks_of cursor ≡ 0
  pub sound : cursor.failed ≡ false

-- a cursor stands for a catalogue and a scorer of these answers: its query and its plan are those of the catalogue, the indexes of
-- its plan hold the answers, no term is worth more than its maximum, its tables and weights are within their limits, and all that it
-- keeps is what this many asks give
pub record StandsFor (catalogue : CatalogDef) (answer : Answering) (cursor : CursorState) : Type 0 where
  pub sound : cursor.failed ≡ false
  pub query : IsQuery catalogue cursor.query
  pub plan : IsPlan catalogue cursor.query (plan_of cursor)
  pub indexes : PlanIndexesHold answer catalogue (plan_of cursor)
  pub bounded : IsBounded answer catalogue cursor.query
  pub tables : (number : ℕ) → AllByRecursion (λ size. size ≤ 131072) (sizes_of catalogue (block_in cursor.query number))
  pub weights : IsWeights (weights_of (block_in cursor.query 1))
  pub nodes : Stands (world_of catalogue answer cursor.query) 1 cursor.root
  pub asks : asks_of cursor ≤ suc (length (list_of_plan (world_of catalogue answer cursor.query) (plan_of cursor)))

-- it stands, or a call of it failed
abbrev pub CanGo : CatalogDef → Answering → CursorState → Type 0
CanGo catalogue answer cursor = cursor.failed ≡ false → StandsFor catalogue answer cursor

-- what a call of a cursor is that failed already, or didn't
abbrev pub call_of : CatalogDef → Answering → CursorState → Inquiry (Option Answer) ExecFault
call_of catalogue answer cursor =
    if cursor.failed then no_question (Err Broken) else next_of (world_of catalogue answer cursor.query) (plan_of cursor) (asks_of cursor)

-- nothing is left to be asked
abbrev pub IsOver : CatalogDef → Answering → CursorState → Type 0
IsOver catalogue answer cursor = (cursor.failed ≡ false) × (is_over (world_of catalogue answer cursor.query) (plan_of cursor) (asks_of cursor) ≡ true)
