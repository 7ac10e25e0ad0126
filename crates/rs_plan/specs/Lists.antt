-- The list of a node of a plan: the rows that it gives, one after another, until it is asked no more.
use Rattle.std.specs.Prelude.{ℕ, ◌==◌, List, bit_or, map, if◌then◌else◌}
use Rattle.rs_catalog.specs.Catalog.{CatalogDef}
use Rattle.rs_order.specs.Sorting.{sorted}
use Rattle.rs_rank.specs.Keys.{key_cmp}
use Rattle.rs_rank.specs.Masks.{mask_of}
use Rattle.rs_rank.specs.Rows.{key_of}
use Rattle.rs_rank.specs.Weights.{evaluated}
use Rattle.rs_rank.specs.declared.answer.Answer.{Answer}
use Rattle.rs_rank.specs.declared.ids.Ids.{Ids}
use Rattle.rs_rank.specs.declared.key.Key.{Key}
use Rattle.rs_rank.specs.declared.row.RankRow.{RankRow}
use Rattle.rs_rank.specs.declared.weights.Weights.{Weights}
use Rattle.rs_expr.specs.Scoring.{Answering}
use Rattle.rs_query.specs.Answers.{base_of, rows_of, weights_of, worths_of}
use Rattle.rs_query.specs.Blocks.{block_in}
use Rattle.rs_query.specs.Combinations.{combinations}
use Rattle.rs_query.specs.Views.{View}
use Rattle.rs_query.specs.declared.block.Block.{Block}
use Rattle.rs_query.specs.declared.query.Query.{Query}
use Rattle.rs_plan.specs.Trees.{Distinct, JoinOperator, Rank, RankScan, SeqScan, SetOperator, PlanTree, entries, terms}

-- what the rows of a query are made of: the catalogue, what the scorer answers, the query, and how many rows of its tables it sees
pub record World : Type 0 where
  pub catalogue : CatalogDef
  pub answer : Answering
  pub query : Query
  pub view : View

-- the block of this number, and the numbers of rows of its entries
abbrev pub numbered_block : World → ℕ → Block
numbered_block w number = block_in w.query number

abbrev pub sizes_in : World → ℕ → List ℕ
sizes_in w number = if number == 1 then w.view.first else w.view.second

-- the weights of the terms, which are those of both blocks
abbrev pub weights_in : World → Weights
weights_in w = weights_of (numbered_block w 1)

-- the ids of the combinations of some entries of a block
abbrev pub ids_of : World → ℕ → ℕ → List Ids
ids_of w number mask =
    map (λ rows. record { block = number; mask = mask; rows = rows }) (combinations w.catalogue (numbered_block w number) (sizes_in w number) mask)

-- the ids of the rows of a node of a plan of a block, in no order that matters: all combinations of its entries; from where
-- duplicates are dropped those of the block; from the set operator on those of the query
abbrev pub sources : World → ℕ → PlanTree → List Ids
sources w number (SeqScan entry) = ids_of w number (mask_of entry)
sources w number (RankScan entry term index) = ids_of w number (mask_of entry)
sources w number (Rank term child) = sources w number child
sources w number (JoinOperator kind left right) = ids_of w number (bit_or (entries left) (entries right))
sources w number (Distinct child) = map (λ (row : Answer). row.ids) (base_of w.answer w.catalogue number (numbered_block w number) (sizes_in w number))
sources w number (SetOperator left right) = map (λ (row : Answer). row.ids) (rows_of w.answer w.catalogue w.query w.view)

-- the worths of the terms for some ids
abbrev pub worths : World → Ids → List ℕ
worths w ids = worths_of w.answer w.catalogue (numbered_block w ids.block) ids.rows

-- a row of these ids, with the sum of the terms in a mask
abbrev pub row_under : World → ℕ → Ids → RankRow
row_under w mask ids = record { ids = ids; sum = evaluated (weights_in w) mask (worths w ids) }

-- the key of a row, where the terms in a mask are evaluated
abbrev pub key_under : World → ℕ → RankRow → Key
key_under w mask row = key_of (weights_in w) mask row

-- the list of a node: its rows in the order of their keys
abbrev pub list_of : World → ℕ → PlanTree → List RankRow
list_of w number tree = sorted key_cmp (key_under w (terms tree)) (map (row_under w (terms tree)) (sources w number tree))

-- the list of a plan
abbrev pub list_of_plan : World → PlanTree → List RankRow
list_of_plan w tree = list_of w 1 tree
