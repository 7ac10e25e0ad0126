-- The counts are those of the block.
use Rattle.std.proofs.Common.{◌∙◌, ap, length}
use Rattle.rs_query.specs.declared.block.Block.{Block}
use Rattle.rs_enum.proofs.block_grid.BlockGrid.fill.Goals as goal

pub returns : goal.returns
returns c = record {
  entries = c.len.ensures ∙ ap (λ (b : Block). length b.from) c.block_in-block.ensures;
  terms = c.len-2.ensures ∙ ap (λ (b : Block). length b.terms) c.block_in-block.ensures;
  found = c.fill_block.ensures.found;
}
