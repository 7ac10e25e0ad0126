-- The cards of a query's sample, and the plan that is chosen by them.
use Rattle.std.proofs.Common.{◌≡◌, ◌∙◌, List}
use Rattle.std.specs.Prelude.{IfOk, Result, Ok, Err}
use Rattle.rs_value.specs.declared.memory.Memory as value
use Rattle.rs_catalog.specs.Catalog.{CatalogDef}
use Rattle.rs_query.specs.WellFormed.{IsQuery}
use Rattle.rs_query.specs.declared.query.Query.{Query}
use Rattle.rs_plan.specs.Plans.{IsPlan}
use Rattle.rs_plan.specs.Shapes.{tree_of}
use Rattle.rs_plan.specs.Trees.{PlanTree}
use Rattle.rs_plan.specs.declared.plan.Plan.{Plan}
use Rattle.rs_sample.specs.Cards.{AllSayTheSame, BlockCards}
use Rattle.rs_enum.specs.Least.{IsLeast, least_plan}
use Rattle.rs_enum.specs.QueryCards.{AreCards}

-- the laws of the least plan
abbrev pub OneLeast : Type 0
OneLeast = (catalogue : CatalogDef) (query : Query) (cards : List BlockCards) (a b : PlanTree) → IsLeast catalogue query cards a → IsLeast catalogue query cards b → a ≡ b

abbrev pub ThereIsOne : Type 0
ThereIsOne = (catalogue : CatalogDef) (query : Query) (cards : List BlockCards) → IsQuery catalogue query → IsLeast catalogue query cards (least_plan catalogue query cards)

abbrev pub CardsDecide : Type 0
CardsDecide = (catalogue : CatalogDef) (query : Query) (cards other : List BlockCards) → IsQuery catalogue query → AreCards query cards → AllSayTheSame cards other
    → least_plan catalogue query cards ≡ least_plan catalogue query other

-- what is chosen by cards is the least plan by all that say the same
pub chosen-tree : OneLeast → ThereIsOne → CardsDecide → (catalogue : CatalogDef) (query : Query) (cards other : List BlockCards) (chosen : Result Plan value.Memory)
    → IsQuery catalogue query → AreCards query cards → AllSayTheSame cards other → IfOk chosen (λ plan. IsLeast catalogue query cards (tree_of plan))
    → IfOk chosen (λ plan. tree_of plan ≡ least_plan catalogue query other)
chosen-tree one there decide catalogue query cards other (Ok plan) formed own same least =
    one catalogue query cards (tree_of plan) (least_plan catalogue query cards) least (there catalogue query cards formed) ∙ decide catalogue query cards other formed own same
chosen-tree one there decide catalogue query cards other (Err memory) formed own same least = tt

pub chosen-plan : (catalogue : CatalogDef) (query : Query) (cards : List BlockCards) (chosen : Result Plan value.Memory)
    → IfOk chosen (λ plan. IsLeast catalogue query cards (tree_of plan)) → IfOk chosen (λ plan. IsPlan catalogue query (tree_of plan))
chosen-plan catalogue query cards (Ok plan) least = least.plan
chosen-plan catalogue query cards (Err memory) least = tt
