-- The blocks of a query by their numbers.
use Rattle.std.specs.Prelude.{ℕ, ◌==◌, if◌then◌else◌}
use Rattle.rs_query.specs.declared.block.Block.{Block}
use Rattle.rs_query.specs.declared.query.Query.{Query}
use Rattle.rs_query.specs.declared.query.Query.TheVariants.{One, Set}

-- the block of this number; a query of one block has block 1 alone
abbrev pub block_in : Query → ℕ → Block
block_in (One block limit) number = block
block_in (Set op left right limit) number = if number == 1 then left else right
