use Rattle.std.proofs.Common.{◌+◌, ◌-◌, ◌*◌, suc, max}
use Rattle.rs_order.specs.Schedule.{Left, Right}
use Rattle.rs_plan.specs.Counts.{asked_of}
use Rattle.rs_plan.specs.Trees.{Distinct, JoinOperator, Rank, SetOperator}
use Rattle.rs_exec.specs.Asking.{world_of}
use Rattle.rs_exec.specs.Cores.{kind_of}
use Rattle.rs_exec.specs.Nodes.{asked_in, number_in, tree_in}
use Rattle.rs_exec.proofs.CycleFacts.{height}
use Rattle.rs_exec.proofs.DistinctCycleFacts.{DropsTurn}
use Rattle.rs_exec.proofs.JoinCycleFacts.{JoinTurn}
use Rattle.rs_exec.proofs.RankCycleFacts.{RankTurn}
use Rattle.rs_exec.proofs.SetCycleFacts.{SetTurn}
use Rattle.rs_exec.proofs.TurnFacts.{both, one_child}
use Rattle.rs_exec.proofs.+next.Given as goal

-- each call goes one node down
abbrev pub decreases-node::PlanNode::next : goal.decreases-node::PlanNode::next
decreases-node::PlanNode::next g l = 2 * height (tree_in l.self.now)

abbrev pub decreases-rank::next_ranked : goal.decreases-rank::next_ranked
decreases-rank::next_ranked g l = 2 * height (tree_in l.child.now) + 1

-- the operator stands between two asks of its input, which stands too and is of the same plan
abbrev pub invariant-rank::next_ranked-loop-child : goal.invariant-rank::next_ranked-loop-child
invariant-rank::next_ranked-loop-child g l =
    RankTurn l.context.catalog.now l.context.query.now (number_in l.fn.child) l.fn.head.term (tree_in l.fn.child) l.fn.head.tally.asked (g.S.Scorer.state l.fn.scorer) l.head (one_child l.child) (g.S.Scorer.state l.scorer)

-- the asks of the input that are left
abbrev pub decreases-rank::next_ranked-loop-child : goal.decreases-rank::next_ranked-loop-child
decreases-rank::next_ranked-loop-child g l =
    asked_of (world_of l.context.catalog.now (g.S.Scorer.state l.fn.scorer).answer l.context.query.now) (number_in l.fn.child) (Rank l.fn.head.term (tree_in l.fn.child)) (suc l.fn.head.tally.asked) Left - asked_in l.child

abbrev pub decreases-join::next_joined : goal.decreases-join::next_joined
decreases-join::next_joined g l = 2 * max (height (tree_in l.left.now)) (height (tree_in l.right.now)) + 1

-- the join stands between two asks of its sides, which stand too and are of the same plan
abbrev pub invariant-join::next_joined-loop-left : goal.invariant-join::next_joined-loop-left
invariant-join::next_joined-loop-left g l =
    JoinTurn l.context.catalog.now l.context.query.now l.fn.head.block (kind_of l.fn.head.core) (tree_in l.fn.left) (tree_in l.fn.right) l.fn.head.tally.asked (g.S.Scorer.state l.fn.scorer) l.head (both l.left l.right) (g.S.Scorer.state l.scorer)

-- the asks of both sides that are left
abbrev pub decreases-join::next_joined-loop-left : goal.decreases-join::next_joined-loop-left
decreases-join::next_joined-loop-left g l =
    (asked_of (world_of l.context.catalog.now (g.S.Scorer.state l.fn.scorer).answer l.context.query.now) l.fn.head.block (JoinOperator (kind_of l.fn.head.core) (tree_in l.fn.left) (tree_in l.fn.right)) (suc l.fn.head.tally.asked) Left - asked_in l.left)
    + (asked_of (world_of l.context.catalog.now (g.S.Scorer.state l.fn.scorer).answer l.context.query.now) l.fn.head.block (JoinOperator (kind_of l.fn.head.core) (tree_in l.fn.left) (tree_in l.fn.right)) (suc l.fn.head.tally.asked) Right - asked_in l.right)

abbrev pub decreases-distinct::next_distinct : goal.decreases-distinct::next_distinct
decreases-distinct::next_distinct g l = 2 * height (tree_in l.child.now) + 1

-- the operator stands between two asks of its input, which stands too and is of the same plan
abbrev pub invariant-distinct::next_distinct-loop-row : goal.invariant-distinct::next_distinct-loop-row
invariant-distinct::next_distinct-loop-row g l =
    DropsTurn l.context.catalog.now l.context.query.now (number_in l.fn.child) (tree_in l.fn.child) l.fn.head.tally.asked (g.S.Scorer.state l.fn.scorer) l.head (one_child l.child) (g.S.Scorer.state l.scorer)

-- the asks of the input that are left
abbrev pub decreases-distinct::next_distinct-loop-row : goal.decreases-distinct::next_distinct-loop-row
decreases-distinct::next_distinct-loop-row g l =
    asked_of (world_of l.context.catalog.now (g.S.Scorer.state l.fn.scorer).answer l.context.query.now) (number_in l.fn.child) (Distinct (tree_in l.fn.child)) (suc l.fn.head.tally.asked) Left - asked_in l.child

abbrev pub decreases-set::next_combined : goal.decreases-set::next_combined
decreases-set::next_combined g l = 2 * max (height (tree_in l.left.now)) (height (tree_in l.right.now)) + 1

-- the set operator stands between two asks of its sides, which stand too and are of the same plan
abbrev pub invariant-set::next_combined-loop-left : goal.invariant-set::next_combined-loop-left
invariant-set::next_combined-loop-left g l =
    SetTurn l.context.catalog.now l.context.query.now (tree_in l.fn.left) (tree_in l.fn.right) l.fn.head.tally.asked (g.S.Scorer.state l.fn.scorer) l.head (both l.left l.right) (g.S.Scorer.state l.scorer)

-- the asks of both sides that are left
abbrev pub decreases-set::next_combined-loop-left : goal.decreases-set::next_combined-loop-left
decreases-set::next_combined-loop-left g l =
    (asked_of (world_of l.context.catalog.now (g.S.Scorer.state l.fn.scorer).answer l.context.query.now) 1 (SetOperator (tree_in l.fn.left) (tree_in l.fn.right)) (suc l.fn.head.tally.asked) Left - asked_in l.left)
    + (asked_of (world_of l.context.catalog.now (g.S.Scorer.state l.fn.scorer).answer l.context.query.now) 1 (SetOperator (tree_in l.fn.left) (tree_in l.fn.right)) (suc l.fn.head.tally.asked) Right - asked_in l.right)
