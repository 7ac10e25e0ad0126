-- Where a set operator stands after a number of asks.
use Rattle.std.specs.Prelude.{ℕ, ◌≡◌, max, List, [], ◌∷◌, take, Option}
use Rattle.rs_order.specs.Asks.{asks_for}
use Rattle.rs_order.specs.Schedule.{Left, Right}
use Rattle.rs_rank.specs.Keys.{key_cmp}
use Rattle.rs_rank.specs.declared.key.Key.{Key}
use Rattle.rs_rank.specs.SetTurns.{wanted_for}
use Rattle.rs_plan.specs.Asks.{child_asks}
use Rattle.rs_plan.specs.Counts.{asked_of, gave_of}
use Rattle.rs_plan.specs.Lists.{World, weights_in}
use Rattle.rs_plan.specs.Trees.{SetOperator, PlanTree, terms}
use Rattle.rs_query.specs.declared.query.Query.{Query}
use Rattle.rs_query.specs.declared.query.Query.TheVariants.{One, Set}
use Rattle.rs_setop.specs.Sides.{Sides}
use Rattle.rs_value.specs.declared.set_op.SetOp.{SetOp}
use Rattle.rs_value.specs.declared.set_op.SetOp.TheVariants.{Except, Intersect, Union, UnionAll}
use Rattle.rs_exec.specs.declared.set.SetNode.{SetNode}
use Rattle.rs_exec.specs.OutputValues.{outputs_in}
use Rattle.rs_exec.specs.SetCores.{CoreStands}

-- the operator of a query; one of one block has none
abbrev pub operator_of : Query → SetOp
operator_of (One block limit) = UnionAll
operator_of (Set op left right limit) = op

-- the two sides of the operator, which evaluate the same terms
abbrev pub sides_for : World → PlanTree → Sides
sides_for w left = record { weights = weights_in w; terms = terms left; left_block = 1; right_block = 2 }

-- the asks of the right side that one of these left rows wants, the most
abbrev pub most_wanted : List Key → List Key → ℕ
most_wanted rights [] = 0
most_wanted rights (left ∷ lefts) = max (wanted_for rights left) (most_wanted rights lefts)

-- how often an operator asks its right side up to a bar: a union one time more than there are right rows before it, as its left
-- side; INTERSECT and EXCEPT as often as one of the left rows wants that they drew
abbrev pub right_asks : SetOp → List Key → List Key → Option Key → ℕ
right_asks UnionAll lefts rights bar = asks_for key_cmp (λ key. key) rights bar
right_asks Union lefts rights bar = asks_for key_cmp (λ key. key) rights bar
right_asks Intersect lefts rights bar = most_wanted rights (take (asks_for key_cmp (λ key. key) lefts bar) lefts)
right_asks Except lefts rights bar = most_wanted rights (take (asks_for key_cmp (λ key. key) lefts bar) lefts)

-- its sides were asked as often as its answers take, and its core stands at these asks and as many answers as it gave
pub record SetStands (w : World) (head : SetNode) (left right : PlanTree) (left_asks right_asks : ℕ) : Type 0 where
  pub core : CoreStands (sides_for w left) (operator_of w.query) (outputs_in w 1 left) (outputs_in w 2 right)
      (child_asks w 1 (SetOperator left right) head.tally.asked) (gave_of w 1 (SetOperator left right) head.tally.asked) head.core
  pub gave : head.tally.gave ≡ gave_of w 1 (SetOperator left right) head.tally.asked
  pub left_asked : left_asks ≡ asked_of w 1 (SetOperator left right) head.tally.asked Left
  pub right_asked : right_asks ≡ asked_of w 1 (SetOperator left right) head.tally.asked Right
