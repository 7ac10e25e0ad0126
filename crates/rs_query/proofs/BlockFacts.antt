-- The blocks of a query.
use Rattle.std.proofs.Common.{ℕ, true, false}
use Rattle.std.specs.Prelude.{◌==◌, if◌then◌else◌}
use Rattle.rs_catalog.specs.Catalog.{CatalogDef}
use Rattle.rs_query.specs.Blocks.{block_in}
use Rattle.rs_query.specs.WellFormed.{IsBlock, IsQuery}
use Rattle.rs_query.specs.declared.query.Query.{Query}
use Rattle.rs_query.specs.declared.query.Query.TheVariants.{One, Set}

-- each block of a well-formed query is well-formed
pub block-formed : (catalogue : CatalogDef) (query : Query) (number : ℕ) → IsQuery catalogue query → IsBlock catalogue (block_in query number)
block-formed catalogue (One block limit) number formed = formed.0
block-formed catalogue (Set op left right limit) number formed =
    elim (number == 1) as (λ b. IsBlock catalogue (if b then left else right)) [ true ↦ formed.0.left_block | false ↦ formed.0.right_block ]
