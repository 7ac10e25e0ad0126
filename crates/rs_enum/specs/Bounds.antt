-- How much plans can cost. The numbers are far from what any plan costs; they show that costs fit 128 bits.
use Rattle.std.specs.Prelude.{ℕ, ◌≤◌, ◌+◌, ◌*◌, ◌^◌, Bool, true, false, count_ones, length}
use Rattle.rs_catalog.specs.Catalog.{CatalogDef}
use Rattle.rs_query.specs.declared.block.Block.{Block}
use Rattle.rs_query.specs.declared.query.Query.{Query}
use Rattle.rs_query.specs.declared.query.Query.TheVariants.{One, Set}
use Rattle.rs_plan.specs.Plans.{IsSetPlan}
use Rattle.rs_plan.specs.Trees.{Distinct, JoinOperator, PlanTree, Rank, RankScan, SeqScan, SetOperator}

-- a part of a plan of a block, by its entries and evaluated terms
abbrev pub most_cost : ℕ → ℕ → ℕ
most_cost entries terms = count_ones terms * 2 ^ 118 + count_ones entries * 2 ^ 106

-- a set operator, or an operator above it, by the evaluated terms
abbrev pub most_set_cost : ℕ → ℕ
most_set_cost terms = count_ones terms * 2 ^ 119 + 2 ^ 110

-- the number of a term of a block
pub record IsNumberedTerm (block : Block) (number : ℕ) : Type 0 where
  pub some : 1 ≤ number
  pub most : number ≤ length block.terms

-- the set operator of a query, or operators for terms above it
abbrev pub has_set_operator : PlanTree → Bool
has_set_operator (SeqScan entry) = false
has_set_operator (RankScan entry term index) = false
has_set_operator (Rank term child) = has_set_operator child
has_set_operator (JoinOperator kind left right) = false
has_set_operator (Distinct child) = false
has_set_operator (SetOperator left right) = true

-- a part of a plan of two blocks that has the set operator
abbrev pub IsSetPart : CatalogDef → Query → PlanTree → Type 0
IsSetPart catalogue (One block limit) tree = ⊥
IsSetPart catalogue (Set op left right limit) tree = IsSetPlan catalogue left right tree
