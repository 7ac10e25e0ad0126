-- The tree that a plan is, without where its parts lie in memory.
use Rattle.rs_plan.specs.declared.plan.Plan.{Plan}
use Rattle.rs_plan.specs.declared.plan.Plan.TheVariants as plan
use Rattle.rs_plan.specs.Trees.{Distinct, Hash, JoinOperator, Nested, Rank, RankScan, SeqScan, SetOperator, PlanTree}

-- the tree of a plan: its operators, with their numbers
abbrev pub tree_of : Plan → PlanTree
tree_of (plan.SeqScan entry) = SeqScan entry
tree_of (plan.RankScan entry term index) = RankScan entry term index
tree_of (plan.Rank' term p child) = Rank term (tree_of child)
tree_of (plan.HashJoin' p left q right) = JoinOperator Hash (tree_of left) (tree_of right)
tree_of (plan.NestedJoin' p left q right) = JoinOperator Nested (tree_of left) (tree_of right)
tree_of (plan.Distinct' p child) = Distinct (tree_of child)
tree_of (plan.SetOperator' p left q right) = SetOperator (tree_of left) (tree_of right)
