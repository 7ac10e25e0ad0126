-- Which of the trees of a kind is found: the one that comes before all others of the kind, by a cost and at one cost by codes. Trees are
-- tried by where they start: the start of a tree is a number by which the codes of the kind are ordered.
use Rattle.std.specs.Prelude.{ℕ, ◌≡◌, ◌<◌, false, Option, Some, None}
use Rattle.std.specs.Ordering.{is_gt, nat_cmp, on, then_cmp}
use Rattle.rs_plan.specs.Trees.{PlanTree, code, code_cmp}
use Rattle.rs_enum.specs.declared.candidate.Candidate.{Candidate}

-- a tree comes at or before another one by costs, and at one cost by codes
abbrev pub NoLaterBy : (PlanTree → ℕ) → PlanTree → PlanTree → Type 0
NoLaterBy cost tree other = is_gt (then_cmp (on cost nat_cmp) (on code code_cmp) tree other) ≡ false

-- what is found stands for a tree that starts there, and that comes no later than all trees of the kind that do
pub record IsOneAt (Of : PlanTree → Type 0) (Stands : Candidate → PlanTree → Type 0) (value start : PlanTree → ℕ) (place : ℕ) (found : Candidate) : Type 0 where
  pub tree : PlanTree
  pub stands : Stands found tree
  pub starts : start tree ≡ place
  pub no_later : (other : PlanTree) → Of other → start other ≡ place → NoLaterBy value tree other

-- or there is none
abbrev pub IsTheOneAt : (PlanTree → Type 0) → (Candidate → PlanTree → Type 0) → (PlanTree → ℕ) → (PlanTree → ℕ) → ℕ → Option Candidate → Type 0
IsTheOneAt Of Stands value start place (Some found) = IsOneAt Of Stands value start place found
IsTheOneAt Of Stands value start place None = (other : PlanTree) → Of other → start other ≡ place → ⊥

-- what is found stands for a tree that starts below a number, and that comes no later than all trees of the kind that do
pub record IsFirstBelow (Of : PlanTree → Type 0) (Stands : Candidate → PlanTree → Type 0) (value start : PlanTree → ℕ) (bound : ℕ) (found : Candidate) : Type 0 where
  pub tree : PlanTree
  pub stands : Stands found tree
  pub below : start tree < bound
  pub no_later : (other : PlanTree) → Of other → start other < bound → NoLaterBy value tree other

-- or there is none
abbrev pub IsTheFirstBelow : (PlanTree → Type 0) → (Candidate → PlanTree → Type 0) → (PlanTree → ℕ) → (PlanTree → ℕ) → ℕ → Option Candidate → Type 0
IsTheFirstBelow Of Stands value start bound (Some found) = IsFirstBelow Of Stands value start bound found
IsTheFirstBelow Of Stands value start bound None = (other : PlanTree) → Of other → start other < bound → ⊥
