-- A rank operator takes the next row of its input: it asks the scorer for the row, and keeps the row with its worth.
use Rattle.std.specs.Prelude.{ℕ, ◌≡◌, ◌≤◌, ◌<◌, ◌+◌, ◌-◌, ◌^◌, true, [], ◌∷◌, Some, Result, Ok, Err, slice_get}
use Rattle.rs_expr.specs.InOrder.{Inquiry}
use Rattle.rs_expr.specs.Scoring.{Answering}
use Rattle.rs_rank.specs.declared.row.RankRow.{RankRow}
use Rattle.rs_catalog.specs.Catalog.{CatalogDef}
use Rattle.rs_query.specs.Answers.{worth_of}
use Rattle.rs_query.specs.Meaning.{is_inside}
use Rattle.rs_query.specs.Questions.{asking, question_of}
use Rattle.rs_query.specs.Tables.{HasRows}
use Rattle.rs_query.specs.WellFormed.{IsBlock}
use Rattle.rs_query.specs.declared.query.Query.{Query}
use Rattle.rs_query.specs.declared.term.Term.{Term}
use Rattle.rs_query.specs.Blocks.{block_in}
use Rattle.rs_mu.specs.Mu.{CanFeed, fed}
use Rattle.rs_exec.specs.Asking.{exec_faults}
use Rattle.rs_exec.specs.declared.fault.ExecFault.{ExecFault}
use Rattle.rs_exec.specs.declared.rank.RankNode.{RankNode}

-- a row can be taken: its block has the operator's term, it has the rows of the term's entries, and with the term's worth on it it
-- can be fed
pub record CanTake (catalogue : CatalogDef) (answer : Answering) (query : Query) (row : RankRow) (head : RankNode) : Type 0 where
  pub block : IsBlock catalogue (block_in query row.ids.block)
  pub least : 1 ≤ head.term
  pub term : Term
  pub is_term : slice_get (block_in query row.ids.block).terms (head.term - 1) ≡ Some term
  pub inside : is_inside term.entries row.ids.mask ≡ true
  pub rows : HasRows catalogue (block_in query row.ids.block) row.ids.mask row.ids.rows
  pub few : head.calls < 2 ^ 128 - 1
  pub feeds : CanFeed row (worth_of answer catalogue (block_in query row.ids.block) row.ids.rows term) head.core

-- the operator after one call more, with the row of this worth
abbrev pub with_row : RankRow → ℕ → RankNode → RankNode
with_row row worth head = record head { core = fed row worth head.core; calls = head.calls + 1 }

-- the one question for the row, and the operator after it
abbrev pub feeding : Answering → CatalogDef → Query → RankRow → Term → RankNode → Inquiry RankNode ExecFault
feeding answer catalogue query row term head =
    asking exec_faults answer catalogue (question_of row.ids.block (block_in query row.ids.block) row.ids.rows term ∷ [])
    (with_row row (worth_of answer catalogue (block_in query row.ids.block) row.ids.rows term) head)

-- what a call left, as its result
abbrev pub left_by : {A B : Type 0} → Result A ExecFault → B → Result B ExecFault
left_by (Ok a) left = Ok left
left_by (Err fault) left = Err fault
