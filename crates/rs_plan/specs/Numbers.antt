-- The numbers that stand in a tree, and the number of its kind.
use Rattle.std.specs.Prelude.{ℕ, ◌≤◌}
use Rattle.rs_plan.specs.Trees.{Distinct, JoinOperator, Rank, RankScan, SeqScan, SetOperator, PlanTree, join_number}

-- a number from 1 up to another one
pub record IsUpTo (most number : ℕ) : Type 0 where
  pub some : 1 ≤ number
  pub within : number ≤ most

-- entry numbers are 1 to 6, and term numbers 1 to 8, everywhere in the tree
abbrev pub HasNumbers : PlanTree → Type 0
HasNumbers (SeqScan entry) = IsUpTo 6 entry
HasNumbers (RankScan entry term index) = IsUpTo 6 entry × IsUpTo 8 term
HasNumbers (Rank term child) = IsUpTo 8 term × HasNumbers child
HasNumbers (JoinOperator kind left right) = HasNumbers left × HasNumbers right
HasNumbers (Distinct child) = HasNumbers child
HasNumbers (SetOperator left right) = HasNumbers left × HasNumbers right

-- the number of its kind, with which its code begins
abbrev pub kind_number : PlanTree → ℕ
kind_number (SeqScan entry) = 1
kind_number (RankScan entry term index) = 2
kind_number (Rank term child) = 3
kind_number (JoinOperator kind left right) = join_number kind
kind_number (Distinct child) = 6
kind_number (SetOperator left right) = 7
