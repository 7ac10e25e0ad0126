-- Views that have their answers: what each view of a script is between two statements, in the words of a plain evaluation alone.
use Rattle.std.specs.Prelude.{ℕ, ◌≡◌, Some, Ok, map, take}
use Rattle.rs_expr.specs.Scoring.{Answering}
use Rattle.rs_catalog.specs.Catalog.{CatalogDef}
use Rattle.rs_query.specs.Answers.{answer_of}
use Rattle.rs_query.specs.Blocks.{block_in}
use Rattle.rs_query.specs.Tables.{sizes_of}
use Rattle.rs_query.specs.Views.{all_rows}
use Rattle.rs_query.specs.WellFormed.{IsQuery}
use Rattle.rs_query.specs.declared.block.Block.{Block}
use Rattle.rs_query.specs.declared.term.Term.{Term}
use Rattle.rs_query.specs.declared.query.Query.{Query}
use Rattle.rs_query.specs.declared.query.Query.TheVariants.{One, Set}
use Rattle.rs_plain.specs.Plain.{evaluation_of}
use Rattle.rs_view.specs.Views.{IsKeepable, ViewDef, most_kept, rows_in}

-- the same query with this LIMIT
abbrev pub limited : ℕ → Query → Query
limited n (One block limit) = One block (Some n)
limited n (Set op left right limit) = Set op left right (Some n)

-- a view has the first rows of its query's answer over the tables as they are, and no call of a plain evaluation of the query is answered by a bad number
pub record HasItsAnswer (answer : Answering) (catalogue : CatalogDef) (view : ViewDef) : Type 0 where
  pub query : IsQuery catalogue view.query
  pub keepable : IsKeepable view.query
  pub lengths : view.lengths ≡ sizes_of catalogue (block_in view.query 1)
  pub rows : rows_in catalogue view ≡ take (most_kept view.query) (answer_of answer catalogue view.query (all_rows catalogue view.query))
  pub well : (evaluation_of answer catalogue view.query (all_rows catalogue view.query)).outcome ≡ Ok (answer_of answer catalogue view.query (all_rows catalogue view.query))

-- a query with no tops of its terms: 0 stands in place of each
abbrev pub without_top : Term → Term
without_top term = record term { max = 0 }

abbrev pub block_without_tops : Block → Block
block_without_tops block = record block { terms = map without_top block.terms }

abbrev pub without_tops : Query → Query
without_tops (One block limit) = One (block_without_tops block) limit
without_tops (Set op left right limit) = Set op (block_without_tops left) (block_without_tops right) limit

-- two queries are the same but for the tops of their terms. Where an index joins between two places of a script, one text is bound to two such queries there
abbrev pub AreSameButTops : Query → Query → Type 0
AreSameButTops query other = without_tops query ≡ without_tops other
