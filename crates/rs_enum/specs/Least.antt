-- The least plan of a query.
use Rattle.std.specs.Prelude.{◌≡◌, false, List, [], ◌∷◌, Option, Some, None, unwrap_or, if◌then◌else◌}
use Rattle.std.specs.Ordering.{is_gt, nat_cmp, on, then_cmp}
use Rattle.std.specs.declared.cmp.Ordering.{Ordering}
use Rattle.rs_catalog.specs.Catalog.{CatalogDef}
use Rattle.rs_query.specs.declared.query.Query.{Query}
use Rattle.rs_sample.specs.Cards.{BlockCards}
use Rattle.rs_plan.specs.Plans.{IsPlan}
use Rattle.rs_plan.specs.Trees.{PlanTree, SeqScan, code, code_cmp}
use Rattle.rs_enum.specs.AllPlans.{all_plans}
use Rattle.rs_enum.specs.Costs.{cost_of}

-- plans by their costs, and those of one cost by their codes
abbrev pub plan_cmp : CatalogDef → Query → List BlockCards → PlanTree → PlanTree → Ordering
plan_cmp catalogue query cards = then_cmp (on (cost_of catalogue query cards) nat_cmp) (on code code_cmp)

-- a plan comes at or before another one
abbrev pub ComesNoLater : CatalogDef → Query → List BlockCards → PlanTree → PlanTree → Type 0
ComesNoLater catalogue query cards tree other = is_gt (plan_cmp catalogue query cards tree other) ≡ false

-- the plan that comes at or before every plan of the query
pub record IsLeast (catalogue : CatalogDef) (query : Query) (cards : List BlockCards) (tree : PlanTree) : Type 0 where
  pub plan : IsPlan catalogue query tree
  pub first : (other : PlanTree) → IsPlan catalogue query other → ComesNoLater catalogue query cards tree other

-- the first of an item and others in an order
abbrev pub first_from : {X : Type 0} → (X → X → Ordering) → X → List X → X
first_from cmp best [] = best
first_from cmp best (x ∷ xs) = first_from cmp (if is_gt (cmp best x) then x else best) xs

abbrev pub first_of : {X : Type 0} → (X → X → Ordering) → List X → Option X
first_of cmp [] = None
first_of cmp (x ∷ xs) = Some (first_from cmp x xs)

-- the least plan of a query, which always has one
unfoldable pub least_plan : CatalogDef → Query → List BlockCards → PlanTree
least_plan catalogue query cards = unwrap_or (first_of (plan_cmp catalogue query cards) (all_plans catalogue query)) (SeqScan 1)
