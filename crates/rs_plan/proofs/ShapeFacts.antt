-- What a pattern that takes joins of either kind says of the tree.
use Rattle.std.proofs.Common.{◌≡◌, Box, Global, ◌⊎◌, inl, inr, ap}
use Rattle.rs_plan.specs.Shapes.{tree_of}
use Rattle.rs_plan.specs.Trees.{Hash, JoinKind, JoinOperator, Nested, PlanTree}
use Rattle.rs_plan.specs.declared.plan.Plan.{Plan}
use Rattle.rs_plan.specs.declared.plan.Plan.TheViews as view

-- a tree is a join of two others
pub record IsJoin (tree left right : PlanTree) : Type 0 where
  pub kind : JoinKind
  pub is : tree ≡ JoinOperator kind left right

pub join-shape : (plan : Plan) (left right : Box Plan Global) → (plan ≡ view.HashJoin left right) ⊎ (plan ≡ view.NestedJoin left right)
    → IsJoin (tree_of plan) (tree_of left.value) (tree_of right.value)
join-shape plan left right either = elim either [
  | inl hash ↦ record { kind = Hash; is = ap tree_of hash }
  | inr nested ↦ record { kind = Nested; is = ap tree_of nested }
]
