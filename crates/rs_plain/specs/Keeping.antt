-- What is kept of a combination until the rows of the answer are known, and the row that is made of it.
use Rattle.std.specs.Prelude.{ℕ, ◌≡◌, ◌++◌, ◌&&◌, Bool, false, not, List, map, Option}
use Rattle.rs_value.specs.declared.set_op.SetOp.TheVariants.{UnionAll}
use Rattle.rs_rank.specs.declared.answer.Answer.{Answer}
use Rattle.rs_rank.specs.declared.row.RankRow.{RankRow}
use Rattle.rs_rank.specs.Stable.{stable}
use Rattle.rs_expr.specs.Scoring.{Answering}
use Rattle.rs_catalog.specs.Catalog.{CatalogDef}
use Rattle.rs_query.specs.Answers.{cut, score_of}
use Rattle.rs_query.specs.Blocks.{block_in}
use Rattle.rs_query.specs.Combinations.{all_combinations}
use Rattle.rs_query.specs.Meaning.{outputs_of}
use Rattle.rs_query.specs.Tables.{HasRows, all_entries}
use Rattle.rs_query.specs.declared.block.Block.{Block}
use Rattle.rs_query.specs.declared.query.Query.{Query}
use Rattle.rs_query.specs.declared.query.Query.TheVariants.{One, Set}

-- a combination of a block of this number, and its score
abbrev pub scored_for : Answering → CatalogDef → ℕ → Block → List ℕ → RankRow
scored_for answer catalogue number block rows = record {
  ids = record { block = number; mask = all_entries block; rows = rows };
  sum = score_of answer catalogue block rows block.terms;
}

-- all combinations of the block
abbrev pub scored_block : Answering → CatalogDef → ℕ → Block → List RankRow
scored_block answer catalogue number block = map (scored_for answer catalogue number block) (all_combinations catalogue block)

-- those of a query, block after block
abbrev pub scored_query : Answering → CatalogDef → Query → List RankRow
scored_query answer catalogue (One block limit) = scored_block answer catalogue 1 block
scored_query answer catalogue (Set op left right limit) = scored_block answer catalogue 1 left ++ scored_block answer catalogue 2 right

-- the first rows of their stable order, as many as LIMIT says
abbrev pub best_of : Option ℕ → List RankRow → List RankRow
best_of limit rows = cut limit (stable (λ (row : RankRow). row.sum) rows)

-- the best of the kept rows are the best of all rows, whatever rows come behind both
abbrev pub HasBest : Option ℕ → List RankRow → List RankRow → Type 0
HasBest limit kept all = (more : List RankRow) → best_of limit (kept ++ more) ≡ best_of limit (all ++ more)

-- the row of the answer that is made of one: its output values are those of this block
abbrev pub answer_for : CatalogDef → Block → RankRow → Answer
answer_for catalogue block row = record { ids = row.ids; score = row.sum; values = outputs_of catalogue block row.ids.rows }

-- or of the block of its number
abbrev pub answer_in : CatalogDef → Query → RankRow → Answer
answer_in catalogue query row = answer_for catalogue (block_in query row.ids.block) row

-- a row of all entries of a block
pub record IsWhole (catalogue : CatalogDef) (block : Block) (row : RankRow) : Type 0 where
  pub mask : row.ids.mask ≡ all_entries block
  pub rows : HasRows catalogue block row.ids.mask row.ids.rows

-- or of the block of its number
abbrev pub IsWholeIn : CatalogDef → Query → RankRow → Type 0
IsWholeIn catalogue query row = IsWhole catalogue (block_in query row.ids.block) row

-- no row of the query is compared with another one by its output values
abbrev pub keeps_duplicates : Query → Bool
keeps_duplicates (One block limit) = not block.distinct
keeps_duplicates (Set UnionAll left right limit) = not left.distinct && not right.distinct
keeps_duplicates (Set op left right limit) = false
