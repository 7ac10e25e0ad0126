-- The questions that a node of a plan puts to the scorer, with those of all nodes below it, after a number of asks; and the
-- calls that they are.
use Rattle.std.specs.Prelude.{ℕ, zero, suc, ◌-◌, List, [], ◌∷◌, ◌++◌, length, map, drop, Option, Some, None, slice_get}
use Rattle.std.specs.List.{flat_map}
use Rattle.rs_order.specs.Schedule.{Left, Right, SideAsk}
use Rattle.rs_expr.specs.declared.scorer.Call.{Call}
use Rattle.rs_rank.specs.declared.ids.Ids.{Ids}
use Rattle.rs_rank.specs.declared.row.RankRow.{RankRow}
use Rattle.rs_query.specs.Questions.{Question, call_for, question_of}
use Rattle.rs_query.specs.declared.term.Term.{Term}
use Rattle.rs_plan.specs.Asks.{child_asks}
use Rattle.rs_plan.specs.Lists.{World, numbered_block, list_of}
use Rattle.rs_plan.specs.Trees.{Distinct, JoinOperator, Rank, RankScan, SeqScan, SetOperator, PlanTree}

-- what comes with ask j alone, where f gives all that comes with this many asks
abbrev pub part_of : {A : Type 0} → (ℕ → List A) → ℕ → List A
part_of f zero = []
part_of f (suc j) = drop (length (f j)) (f (suc j))

-- the question of a term for a row, by the block of the row
abbrev pub question_for : World → Ids → Term → Question
question_for w ids term = question_of ids.block (numbered_block w ids.block) ids.rows term

-- an operator's own question for a row, if there is one: that of its term
abbrev pub own_question : World → ℕ → Option RankRow → List Question
own_question w number None = []
own_question w number (Some row) = of (slice_get (numbered_block w row.ids.block).terms (number - 1)) where
  of : Option Term → List Question
  of (Some term) = question_for w row.ids term ∷ []
  of None = []

-- what comes with an ask of the input of a rank operator: the questions below, and then its own for the row that came
abbrev pub rank_part : World → ℕ → List RankRow → (ℕ → List Question) → SideAsk → List Question
rank_part w term rows below ask = part_of below ask.number ++ own_question w term (slice_get rows (ask.number - 1))

-- what comes with an ask of a side
abbrev pub side_part : {A : Type 0} → (ℕ → List A) → (ℕ → List A) → SideAsk → List A
side_part {A} left right ask = elim ask.side as (λ _. List A) [ Left ↦ part_of left ask.number | Right ↦ part_of right ask.number ]

-- the questions of a node and of all below it, after this many asks of the node
abbrev pub questions : World → ℕ → PlanTree → ℕ → List Question
questions w number (SeqScan entry) = λ a. []
questions w number (RankScan entry term index) = λ a. []
questions w number (Rank term child) = λ a.
    flat_map (rank_part w term (list_of w number child) (questions w number child)) (child_asks w number (Rank term child) a)
questions w number (Distinct child) = λ a.
    flat_map (λ (ask : SideAsk). part_of (questions w number child) ask.number) (child_asks w number (Distinct child) a)
questions w number (JoinOperator kind left right) = λ a.
    flat_map (side_part (questions w number left) (questions w number right)) (child_asks w number (JoinOperator kind left right) a)
questions w number (SetOperator left right) = λ a.
    flat_map (side_part (questions w 1 left) (questions w 2 right)) (child_asks w number (SetOperator left right) a)

-- the questions of ask a of a node alone
abbrev pub questions_of_ask : World → ℕ → PlanTree → ℕ → List Question
questions_of_ask w number tree a = part_of (questions w number tree) a

-- the calls of a plan, and those of its ask a alone, as far as no number is bad
abbrev pub calls_of_plan : World → PlanTree → ℕ → List Call
calls_of_plan w tree a = map (call_for w.catalogue) (questions w 1 tree a)

abbrev pub part_of_plan : World → PlanTree → ℕ → List Call
part_of_plan w tree a = map (call_for w.catalogue) (questions_of_ask w 1 tree a)
