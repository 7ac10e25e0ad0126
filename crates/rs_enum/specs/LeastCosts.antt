-- The least cost of the plans of a signature of a block that drop no duplicates.
use Rattle.std.specs.Prelude.{ℕ, ◌≡◌, ◌≤◌, ◌⊎◌, List, Option, Some, None}
use Rattle.rs_catalog.specs.Catalog.{CatalogDef}
use Rattle.rs_query.specs.Blocks.{block_in}
use Rattle.rs_query.specs.declared.query.Query.{Query}
use Rattle.rs_query.specs.declared.query.Query.TheVariants.{One, Set}
use Rattle.rs_sample.specs.Cards.{BlockCards}
use Rattle.rs_plan.specs.Plans.{HasNoDistinct, IsPart}
use Rattle.rs_plan.specs.Trees.{PlanTree, entries, terms}
use Rattle.rs_enum.specs.Costs.{cost_in}

-- the query has a block of this number
abbrev pub HasBlock : Query → ℕ → Type 0
HasBlock (One block limit) number = number ≡ 1
HasBlock (Set op left right limit) number = (number ≡ 1) ⊎ (number ≡ 2)

-- a part of a plan of the block of this number that drops no duplicates, of these entries and evaluated terms
pub record IsOfBlock (catalogue : CatalogDef) (query : Query) (number first second : ℕ) (tree : PlanTree) : Type 0 where
  pub block : HasBlock query number
  pub part : IsPart catalogue (block_in query number) tree
  pub whole : HasNoDistinct tree
  pub its_entries : entries tree ≡ first
  pub its_terms : terms tree ≡ second

-- one of them costs this much, and none less
pub record IsLeastCost (catalogue : CatalogDef) (query : Query) (cards : List BlockCards) (number first second cost : ℕ) : Type 0 where
  pub plan : PlanTree
  pub is : IsOfBlock catalogue query number first second plan
  pub its_cost : cost ≡ cost_in catalogue query cards number plan
  pub least : (other : PlanTree) → IsOfBlock catalogue query number first second other → cost ≤ cost_in catalogue query cards number other

-- the least cost, or there is no such part
abbrev pub HasCost : CatalogDef → Query → List BlockCards → ℕ → ℕ → ℕ → Option ℕ → Type 0
HasCost catalogue query cards number first second (Some cost) = IsLeastCost catalogue query cards number first second cost
HasCost catalogue query cards number first second None = (other : PlanTree) → IsOfBlock catalogue query number first second other → ⊥
