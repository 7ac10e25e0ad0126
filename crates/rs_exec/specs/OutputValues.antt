-- Rows with the values of their output columns, which are those of their blocks.
use Rattle.std.specs.Prelude.{ℕ, ◌≡◌, true, List, map}
use Rattle.rs_catalog.specs.Catalog.{CatalogDef}
use Rattle.rs_outputs.specs.Rows.{OutputRow}
use Rattle.rs_plan.specs.Lists.{World, list_of}
use Rattle.rs_query.specs.Blocks.{block_in}
use Rattle.rs_plan.specs.Trees.{PlanTree}
use Rattle.rs_query.specs.Meaning.{is_inside, outputs_of}
use Rattle.rs_query.specs.Tables.{HasRows}
use Rattle.rs_query.specs.WellFormed.{IsBlock, entries_mask}
use Rattle.rs_query.specs.declared.query.Query.{Query}
use Rattle.rs_rank.specs.declared.row.RankRow.{RankRow}
use Rattle.rs_value.specs.declared.value.Value.{Value}

-- a row has a row of each entry of which its block's output columns are
pub record CanPutOut (catalogue : CatalogDef) (query : Query) (row : RankRow) : Type 0 where
  pub block : IsBlock catalogue (block_in query row.ids.block)
  pub inside : is_inside (entries_mask (block_in query row.ids.block).items) row.ids.mask ≡ true
  pub rows : HasRows catalogue (block_in query row.ids.block) row.ids.mask row.ids.rows

-- its output values
abbrev pub values_for : CatalogDef → Query → RankRow → List Value
values_for catalogue query row = outputs_of catalogue (block_in query row.ids.block) row.ids.rows

-- a row with its output values
abbrev pub output_row : World → RankRow → OutputRow
output_row w row = record { row = row; values = values_for w.catalogue w.query row }

-- the rows of a node's list, with theirs
abbrev pub outputs_in : World → ℕ → PlanTree → List OutputRow
outputs_in w number tree = map (output_row w) (list_of w number tree)
