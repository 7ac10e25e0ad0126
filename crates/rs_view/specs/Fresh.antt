-- What a growth asks, and what comes of it.
use Rattle.std.specs.Prelude.{ℕ, List, map, Result, Ok, Err}
use Rattle.std.specs.List.{flat_map}
use Rattle.rs_rank.specs.declared.row.RankRow.{RankRow}
use Rattle.rs_expr.specs.InOrder.{Inquiry}
use Rattle.rs_expr.specs.Scoring.{Answering}
use Rattle.rs_catalog.specs.Catalog.{CatalogDef}
use Rattle.rs_query.specs.Blocks.{block_in}
use Rattle.rs_query.specs.Fresh.{fresh_combinations}
use Rattle.rs_query.specs.Questions.{Question, asking}
use Rattle.rs_query.specs.Tables.{sizes_of}
use Rattle.rs_query.specs.Views.{all_rows}
use Rattle.rs_query.specs.declared.block.Block.{Block}
use Rattle.rs_query.specs.declared.query.Query.{Query}
use Rattle.rs_plain.specs.Keeping.{scored_for}
use Rattle.rs_plain.specs.Plain.{plain_faults, questions_of, row_questions}
use Rattle.rs_plain.specs.declared.fault.PlainFault.{PlainFault}
use Rattle.rs_view.specs.Views.{ViewDef, view_of}

-- the combinations of all rows that have a row behind those that a view has of its entry
abbrev pub fresh : CatalogDef → Block → List ℕ → List (List ℕ)
fresh catalogue block old = fresh_combinations catalogue block old (sizes_of catalogue block)

-- the questions for them in lexicographic order, and for each the terms in order
abbrev pub fresh_questions : CatalogDef → Block → List ℕ → List Question
fresh_questions catalogue block old = flat_map (row_questions 1 block) (fresh catalogue block old)

-- the rows that they make, without output values
abbrev pub fresh_rows : Answering → CatalogDef → Block → List ℕ → List RankRow
fresh_rows answer catalogue block old = map (scored_for answer catalogue 1 block) (fresh catalogue block old)

-- a view of a query over all rows that the tables have
abbrev pub whole_view : Answering → CatalogDef → Query → ViewDef
whole_view answer catalogue query = view_of answer catalogue query (sizes_of catalogue (block_in query 1))

-- a view is made: all questions of its query are asked in order, up to the first bad number; where there is none, this is the view
abbrev pub making : Answering → CatalogDef → Query → Inquiry ViewDef PlainFault
making answer catalogue query =
    asking plain_faults answer catalogue (questions_of catalogue query (all_rows catalogue query)) (whole_view answer catalogue query)

-- a view grows: the questions for the combinations with a new row alone
abbrev pub growing : Answering → CatalogDef → ViewDef → Inquiry ViewDef PlainFault
growing answer catalogue view =
    asking plain_faults answer catalogue (fresh_questions catalogue (block_in view.query 1) view.lengths) (whole_view answer catalogue view.query)

-- what a growth gives: the view as it is then, or a fault
abbrev pub as_grown : ViewDef → Result (Unit {0}) PlainFault → Result ViewDef PlainFault
as_grown view (Ok done) = Ok view
as_grown view (Err fault) = Err fault
