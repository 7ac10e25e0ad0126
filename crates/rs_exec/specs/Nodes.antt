-- The nodes of a plan that is executed: which tree they are, and what they count.
use Rattle.std.specs.Prelude.{ℕ, zero, suc, List, [], ◌∷◌, ◌++◌, Result, Ok, Err}
use Rattle.rs_plan.specs.declared.counts.Counts.{Counts}
use Rattle.rs_plan.specs.Trees.{Distinct, JoinOperator, Rank, RankScan, SeqScan, SetOperator, PlanTree}
use Rattle.rs_exec.specs.Cores.{kind_of}
use Rattle.rs_exec.specs.declared.node.PlanNode.{PlanNode}
use Rattle.rs_exec.specs.declared.node.PlanNode.TheVariants as node
use Rattle.rs_exec.specs.declared.tally.Tally.{Tally}

-- the tree, without where its parts lie in memory
abbrev pub tree_in : PlanNode → PlanTree
tree_in (node.SeqScan head) = SeqScan head.entry
tree_in (node.RankScan head) = RankScan head.entry head.term head.scan.index
tree_in (node.Rank' head p child) = Rank head.term (tree_in child)
tree_in (node.Join' head p left q right) = JoinOperator (kind_of head.core) (tree_in left) (tree_in right)
tree_in (node.Distinct' head p child) = Distinct (tree_in child)
tree_in (node.Set' head p left q right) = SetOperator (tree_in left) (tree_in right)

-- the number of the block whose rows it gives; from a set operator on that of the first block
abbrev pub number_in : PlanNode → ℕ
number_in (node.SeqScan head) = head.block
number_in (node.RankScan head) = head.block
number_in (node.Rank' head p child) = number_in child
number_in (node.Join' head p left q right) = head.block
number_in (node.Distinct' head p child) = number_in child
number_in (node.Set' head p left q right) = 1

-- how often it was asked, and how many rows it gave
abbrev pub tally_in : PlanNode → Tally
tally_in (node.SeqScan head) = head.tally
tally_in (node.RankScan head) = head.tally
tally_in (node.Rank' head p child) = head.tally
tally_in (node.Join' head p left q right) = head.tally
tally_in (node.Distinct' head p child) = head.tally
tally_in (node.Set' head p left q right) = head.tally

abbrev pub asked_in : PlanNode → ℕ
asked_in n = (tally_in n).asked

-- what it counts, and all below it, a node before its children, and the left one before the right one
abbrev pub counts_in : PlanNode → List Counts
counts_in (node.SeqScan head) = record { asked = head.tally.asked; gave = head.tally.gave; calls = 0; drawn = head.scan.drawn } ∷ []
counts_in (node.RankScan head) = record { asked = head.tally.asked; gave = head.tally.gave; calls = 0; drawn = head.scan.drawn } ∷ []
counts_in (node.Rank' head p child) =
    record { asked = head.tally.asked; gave = head.tally.gave; calls = head.calls; drawn = 0 } ∷ counts_in child
counts_in (node.Join' head p left q right) =
    record { asked = head.tally.asked; gave = head.tally.gave; calls = 0; drawn = 0 } ∷ counts_in left ++ counts_in right
counts_in (node.Distinct' head p child) = record { asked = head.tally.asked; gave = head.tally.gave; calls = 0; drawn = 0 } ∷ counts_in child
counts_in (node.Set' head p left q right) =
    record { asked = head.tally.asked; gave = head.tally.gave; calls = 0; drawn = 0 } ∷ counts_in left ++ counts_in right

-- the item at a place; past the last one, by how many places
abbrev pub at_or_past : {A : Type 0} → List A → ℕ → Result A ℕ
at_or_past [] place = Err place
at_or_past (x ∷ xs) zero = Ok x
at_or_past (x ∷ xs) (suc place) = at_or_past xs place
