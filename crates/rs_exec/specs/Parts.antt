-- The parts of a plan of a query: those of a plan of one of its blocks; and of a set query what stands at its set operator and above.
use Rattle.std.specs.Prelude.{ℕ, ◌≡◌}
use Rattle.rs_catalog.specs.Catalog.{CatalogDef}
use Rattle.rs_query.specs.declared.query.Query.{Query}
use Rattle.rs_query.specs.declared.query.Query.TheVariants.{One, Set}
use Rattle.rs_query.specs.Blocks.{block_in}
use Rattle.rs_plan.specs.Plans.{IsComplete, IsPart, IsRank}
use Rattle.rs_plan.specs.Trees.{Rank, SetOperator, PlanTree, terms}

-- plans of both blocks of a set query, which evaluate the same terms; what stands from their set operator on has the number of the
-- first block
abbrev pub AreSides : CatalogDef → Query → ℕ → PlanTree → PlanTree → Type 0
AreSides catalogue (One block limit) number left right = ⊥
AreSides catalogue (Set op left_block right_block limit) number left right =
    (number ≡ 1) × IsComplete catalogue left_block left × IsComplete catalogue right_block right × (terms left ≡ terms right)

-- a tree is a part of a plan of a query, with this number
abbrev pub IsPartOf : CatalogDef → Query → ℕ → PlanTree → Type 0
IsPartOf catalogue query number (Rank term child) = IsPartOf catalogue query number child × IsRank (block_in query number) term child
IsPartOf catalogue query number (SetOperator left right) = AreSides catalogue query number left right
IsPartOf catalogue query number tree = IsPart catalogue (block_in query number) tree
