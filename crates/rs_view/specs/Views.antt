-- Views that are kept: the first rows of the answer of a query, while its tables grow.
use Rattle.std.specs.Prelude.{ℕ, ◌≡◌, false, List, [], map, take, unwrap_or}
use Rattle.rs_rank.specs.declared.answer.Answer.{Answer}
use Rattle.rs_rank.specs.declared.row.RankRow.{RankRow}
use Rattle.rs_expr.specs.Scoring.{Answering}
use Rattle.rs_catalog.specs.Catalog.{CatalogDef}
use Rattle.rs_query.specs.Answers.{answer_of, limit_of}
use Rattle.rs_query.specs.Blocks.{block_in}
use Rattle.rs_query.specs.Growth.{IsSizes}
use Rattle.rs_query.specs.WellFormed.{IsQuery}
use Rattle.rs_query.specs.declared.query.Query.{Query}
use Rattle.rs_query.specs.declared.query.Query.TheVariants.{One, Set}
use Rattle.rs_plain.specs.Keeping.{answer_for}

-- a view as contracts see it: its query, how many rows each FROM entry had when it was made or grew last, and its rows, each by its ids and its score
pub record ViewDef : Type 0 where
  pub query : Query
  pub lengths : List ℕ
  pub rows : List RankRow

-- the rows of a view with their output values, which this catalogue gives
abbrev pub rows_in : CatalogDef → ViewDef → List Answer
rows_in catalogue view = map (answer_for catalogue (block_in view.query 1)) view.rows

-- a row of an answer without its output values
abbrev pub without_values : Answer → RankRow
without_values row = record { ids = row.ids; sum = row.score }

-- a query of which a view may be kept: one block, of which no row is compared with another one by its output values
abbrev pub IsKeepable : Query → Type 0
IsKeepable (One block limit) = block.distinct ≡ false
IsKeepable (Set op left right limit) = ⊥

-- how many rows a view has at most: as many as LIMIT says, or 10
abbrev pub most_kept : Query → ℕ
most_kept query = unwrap_or (limit_of query) 10

-- the first rows of the answer of a query that sees this many rows of its FROM entries
abbrev pub kept_rows : Answering → CatalogDef → Query → List ℕ → List Answer
kept_rows answer catalogue query lengths = take (most_kept query) (answer_of answer catalogue query (record { first = lengths; second = [] }))

-- the view of a query for this many rows of its FROM entries
abbrev pub view_of : Answering → CatalogDef → Query → List ℕ → ViewDef
view_of answer catalogue query lengths = record { query = query; lengths = lengths; rows = map without_values (kept_rows answer catalogue query lengths) }

-- a view stands for a scorer's answers and a catalogue: its query is well formed there, its tables have at least as many rows as it
-- keeps of each entry, and its rows are the first ones of the answer over so many rows
pub record Stands (answer : Answering) (catalogue : CatalogDef) (view : ViewDef) : Type 0 where
  pub query : IsQuery catalogue view.query
  pub keepable : IsKeepable view.query
  pub lengths : IsSizes catalogue (block_in view.query 1) view.lengths
  pub rows : view.rows ≡ map without_values (kept_rows answer catalogue view.query view.lengths)
