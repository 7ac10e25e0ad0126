-- What one ask of a node of a plan did.
use Rattle.std.specs.Prelude.{ℕ, suc, ◌≡◌, ◌⊎◌, ◌≤◌, ◌^◌, true, List, length, Option, Result, IsOk}
use Rattle.std.specs.List.{AllByRecursion}
use Rattle.rs_expr.specs.InOrder.{Inquires}
use Rattle.rs_expr.specs.Scoring.{ScorerState}
use Rattle.rs_rank.specs.declared.row.RankRow.{RankRow}
use Rattle.rs_rank.specs.Weights.{IsWeights}
use Rattle.rs_order.specs.Climbing.{In}
use Rattle.rs_query.specs.Answers.{worth_of}
use Rattle.rs_query.specs.Combinations.{combinations}
use Rattle.rs_query.specs.Meaning.{is_inside}
use Rattle.rs_query.specs.declared.term.Term.{Term}
use Rattle.rs_query.specs.Tables.{sizes_of}
use Rattle.rs_query.specs.WellFormed.{IsQuery}
use Rattle.rs_query.specs.declared.query.Query.{Query}
use Rattle.rs_query.specs.declared.query.Query.TheVariants.{One, Set}
use Rattle.rs_plan.specs.Lists.{World, list_of, numbered_block, sizes_in, weights_in}
use Rattle.rs_plan.specs.Trees.{Distinct, JoinOperator, Rank, SetOperator, PlanTree}
use Rattle.rs_exec.specs.declared.distinct.DistinctNode.{DistinctNode}
use Rattle.rs_exec.specs.declared.fault.ExecFault.{ExecFault}
use Rattle.rs_exec.specs.declared.fault.ExecFault.TheVariants.{Memory}
use Rattle.rs_exec.specs.declared.join.JoinNode.{JoinNode}
use Rattle.rs_exec.specs.declared.node.PlanNode.{PlanNode}
use Rattle.rs_exec.specs.declared.rank.RankNode.{RankNode}
use Rattle.rs_exec.specs.declared.set.SetNode.{SetNode}
use Rattle.rs_exec.specs.Asking.{next_row}
use Rattle.rs_exec.specs.Cores.{kind_of}
use Rattle.rs_exec.specs.Distincts.{DropsStand}
use Rattle.rs_exec.specs.Indexes.{PlanIndexesHold}
use Rattle.rs_exec.specs.Nodes.{asked_in, number_in, tree_in}
use Rattle.rs_exec.specs.Parts.{IsPartOf}
use Rattle.rs_exec.specs.SetNodes.{SetStands}
use Rattle.rs_exec.specs.Standing.{HeadStands, JoinStands, Stands}

-- the number of a block of a query
abbrev pub HasBlock : Query → ℕ → Type 0
HasBlock (One block limit) number = number ≡ 1
HasBlock (Set op left right limit) number = (number ≡ 1) ⊎ (number ≡ 2)

-- no term of the block of this number is worth more than its maximum, for the combinations that a world sees
abbrev pub HasBoundedWorths : World → ℕ → Type 0
HasBoundedWorths w number =
    (mask : ℕ) (rows : List ℕ) (term : Term) → In rows (combinations w.catalogue (numbered_block w number) (sizes_in w number) mask) → In term (numbered_block w number).terms
    → is_inside term.entries mask ≡ true → worth_of w.answer w.catalogue (numbered_block w number) rows term ≤ term.max

-- nor is one of the query; so it is of a query with its tops where the rank indexes hold the scorer's answers
-- (`worths_are_within_tops` of rs_query)
abbrev pub IsBoundedWorld : World → Type 0
IsBoundedWorld w = (number : ℕ) → HasBlock w.query number → HasBoundedWorths w number

-- a part of a plan of a block can be asked once more: the query and the part are those of the catalogue, its indexes hold the
-- answers, no worth passes the maximum of its term, the weights are within their limits, no ask found its end, and no table, and so
-- no list, has more rows than it may have
pub record CanAsk (w : World) (number : ℕ) (tree : PlanTree) (asked : ℕ) : Type 0 where
  pub formed : IsQuery w.catalogue w.query
  pub number_is : HasBlock w.query number
  pub part : IsPartOf w.catalogue w.query number tree
  pub indexes : PlanIndexesHold w.answer w.catalogue tree
  pub bounded : IsBoundedWorld w
  pub weights : IsWeights (weights_in w)
  pub more : asked ≤ length (list_of w number tree)
  pub tables : (n : ℕ) → AllByRecursion (λ size. size ≤ 131072) (sizes_of w.catalogue (numbered_block w n))
  pub few : length (list_of w number tree) ≤ 2 ^ 103

-- what holds of a node after an ask that was answered: it is of the same tree and block, was asked once more, and stands
pub record NodeAfter (w : World) (number : ℕ) (tree : PlanTree) (asked : ℕ) (node : PlanNode) : Type 0 where
  pub number_is : number_in node ≡ number
  pub tree_is : tree_in node ≡ tree
  pub asked_is : asked_in node ≡ suc asked
  pub stands : Stands w number node

-- the same of a rank operator and its input, which are held apart
pub record RankAfter (w : World) (number : ℕ) (tree : PlanTree) (asked : ℕ) (head : RankNode) (child : PlanNode) : Type 0 where
  pub number_is : number_in child ≡ number
  pub tree_is : Rank head.term (tree_in child) ≡ tree
  pub asked_is : head.tally.asked ≡ suc asked
  pub operator : HeadStands w number head (tree_in child) (asked_in child)
  pub input : Stands w number child

-- the same of a join and its two sides
pub record JoinAfter (w : World) (number : ℕ) (tree : PlanTree) (asked : ℕ) (head : JoinNode) (left right : PlanNode) : Type 0 where
  pub number_is : head.block ≡ number
  pub tree_is : JoinOperator (kind_of head.core) (tree_in left) (tree_in right) ≡ tree
  pub asked_is : head.tally.asked ≡ suc asked
  pub operator : JoinStands w number head (tree_in left) (tree_in right) (asked_in left) (asked_in right)
  pub left_side : Stands w number left
  pub right_side : Stands w number right

-- the same of an operator that drops duplicates and its input
pub record DistinctAfter (w : World) (number : ℕ) (tree : PlanTree) (asked : ℕ) (head : DistinctNode) (child : PlanNode) : Type 0 where
  pub number_is : number_in child ≡ number
  pub tree_is : Distinct (tree_in child) ≡ tree
  pub asked_is : head.tally.asked ≡ suc asked
  pub operator : DropsStand w number head (tree_in child) (asked_in child)
  pub input : Stands w number child

-- the same of a set operator and its sides
pub record SetAfter (w : World) (tree : PlanTree) (asked : ℕ) (head : SetNode) (left right : PlanNode) : Type 0 where
  pub tree_is : SetOperator (tree_in left) (tree_in right) ≡ tree
  pub asked_is : head.tally.asked ≡ suc asked
  pub operator : SetStands w head (tree_in left) (tree_in right) (asked_in left) (asked_in right)
  pub left_side : Stands w 1 left
  pub right_side : Stands w 2 right

-- an ask of a node of this tree, which was asked this many times before: it made the calls of this ask, in order, and gave the next row; and
-- where it was answered, this holds after it
pub record Asked (w : World) (number : ℕ) (tree : PlanTree) (asked : ℕ) (After : Type 0) (result : Result (Option RankRow) ExecFault) (before after : ScorerState) : Type 0 where
  pub inquires : Inquires Memory (next_row w number tree asked) result before after
  pub leaves : IsOk result → After

-- a node can be asked once more, and what one ask of it did
abbrev pub CanAskNode : World → PlanNode → Type 0
CanAskNode w node = CanAsk w (number_in node) (tree_in node) (asked_in node)

abbrev pub NodeAsked : World → PlanNode → PlanNode → Result (Option RankRow) ExecFault → ScorerState → ScorerState → Type 0
NodeAsked w node new = Asked w (number_in node) (tree_in node) (asked_in node) (NodeAfter w (number_in node) (tree_in node) (asked_in node) new)

-- the same of a rank operator and its input, which are held apart
abbrev pub CanAskRank : World → RankNode → PlanNode → Type 0
CanAskRank w head child = CanAsk w (number_in child) (Rank head.term (tree_in child)) head.tally.asked

abbrev pub RankStands : World → RankNode → PlanNode → Type 0
RankStands w head child = HeadStands w (number_in child) head (tree_in child) (asked_in child)

abbrev pub RankAsked : World → RankNode → PlanNode → RankNode → PlanNode → Result (Option RankRow) ExecFault → ScorerState → ScorerState → Type 0
RankAsked w head child new new_child =
    Asked w (number_in child) (Rank head.term (tree_in child)) head.tally.asked
    (RankAfter w (number_in child) (Rank head.term (tree_in child)) head.tally.asked new new_child)

-- of a join and its sides
abbrev pub CanAskJoin : World → JoinNode → PlanNode → PlanNode → Type 0
CanAskJoin w head left right = CanAsk w head.block (JoinOperator (kind_of head.core) (tree_in left) (tree_in right)) head.tally.asked

abbrev pub JoinNodeStands : World → JoinNode → PlanNode → PlanNode → Type 0
JoinNodeStands w head left right = JoinStands w head.block head (tree_in left) (tree_in right) (asked_in left) (asked_in right)

abbrev pub JoinAsked : World → JoinNode → PlanNode → PlanNode → JoinNode → PlanNode → PlanNode → Result (Option RankRow) ExecFault → ScorerState → ScorerState → Type 0
JoinAsked w head left right new new_left new_right =
    Asked w head.block (JoinOperator (kind_of head.core) (tree_in left) (tree_in right)) head.tally.asked
    (JoinAfter w head.block (JoinOperator (kind_of head.core) (tree_in left) (tree_in right)) head.tally.asked new new_left new_right)

-- of an operator that drops duplicates and its input
abbrev pub CanAskDistinct : World → DistinctNode → PlanNode → Type 0
CanAskDistinct w head child = CanAsk w (number_in child) (Distinct (tree_in child)) head.tally.asked

abbrev pub DistinctStands : World → DistinctNode → PlanNode → Type 0
DistinctStands w head child = DropsStand w (number_in child) head (tree_in child) (asked_in child)

abbrev pub DistinctAsked : World → DistinctNode → PlanNode → DistinctNode → PlanNode → Result (Option RankRow) ExecFault → ScorerState → ScorerState → Type 0
DistinctAsked w head child new new_child =
    Asked w (number_in child) (Distinct (tree_in child)) head.tally.asked
    (DistinctAfter w (number_in child) (Distinct (tree_in child)) head.tally.asked new new_child)

-- of a set operator and its sides
abbrev pub CanAskSet : World → SetNode → PlanNode → PlanNode → Type 0
CanAskSet w head left right = CanAsk w 1 (SetOperator (tree_in left) (tree_in right)) head.tally.asked

abbrev pub SetNodeStands : World → SetNode → PlanNode → PlanNode → Type 0
SetNodeStands w head left right = SetStands w head (tree_in left) (tree_in right) (asked_in left) (asked_in right)

abbrev pub SetAsked : World → SetNode → PlanNode → PlanNode → SetNode → PlanNode → PlanNode → Result (Option RankRow) ExecFault → ScorerState → ScorerState → Type 0
SetAsked w head left right new new_left new_right =
    Asked w 1 (SetOperator (tree_in left) (tree_in right)) head.tally.asked
    (SetAfter w (SetOperator (tree_in left) (tree_in right)) head.tally.asked new new_left new_right)
