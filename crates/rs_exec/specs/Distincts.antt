-- What an operator that drops duplicates keeps after a number of asks.
use Rattle.std.specs.Prelude.{ℕ, ◌≡◌, false, take}
use Rattle.rs_order.specs.Schedule.{Left}
use Rattle.rs_outputs.specs.Rows.{lists_of}
use Rattle.rs_plan.specs.Counts.{asked_of, gave_of}
use Rattle.rs_plan.specs.Lists.{World}
use Rattle.rs_plan.specs.Trees.{Distinct, PlanTree}
use Rattle.rs_exec.specs.declared.distinct.DistinctNode.{DistinctNode}
use Rattle.rs_exec.specs.OutputValues.{outputs_in}

-- the output values of the rows that it drew: its input was asked as often as its answers take
abbrev pub distinct_node_after : World → ℕ → PlanTree → ℕ → DistinctNode
distinct_node_after w number child a = record {
  core = record { lists = lists_of (take (asked_of w number (Distinct child) a Left) (outputs_in w number child)); spent = false };
  tally = record { asked = a; gave = gave_of w number (Distinct child) a };
}

-- the operator over an input of this tree that was asked this many times keeps what its own asks give
pub record DropsStand (w : World) (number : ℕ) (head : DistinctNode) (child : PlanTree) (asks : ℕ) : Type 0 where
  pub keeps : head ≡ distinct_node_after w number child head.tally.asked
  pub asked : asks ≡ asked_of w number (Distinct child) head.tally.asked Left
