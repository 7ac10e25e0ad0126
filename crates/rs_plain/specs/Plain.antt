-- The plain way to answer a query: every combination is scored, term by term, up to the first number that is no score.
use Rattle.std.specs.Prelude.{ℕ, List, ◌++◌, map}
use Rattle.std.specs.List.{flat_map}
use Rattle.rs_rank.specs.declared.answer.Answer.{Answer}
use Rattle.rs_expr.specs.InOrder.{Inquiry}
use Rattle.rs_expr.specs.Scoring.{Answering}
use Rattle.rs_catalog.specs.Catalog.{CatalogDef}
use Rattle.rs_query.specs.Answers.{answer_of}
use Rattle.rs_query.specs.Asking.{faults_by}
use Rattle.rs_query.specs.Combinations.{combinations}
use Rattle.rs_query.specs.Questions.{Faults, Question, asking, question_of}
use Rattle.rs_query.specs.Tables.{all_entries}
use Rattle.rs_query.specs.Views.{View}
use Rattle.rs_query.specs.declared.ask.AskFault.{AskFault}
use Rattle.rs_query.specs.declared.ask.AskFault.TheVariants as asked
use Rattle.rs_query.specs.declared.block.Block.{Block}
use Rattle.rs_query.specs.declared.query.Query.{Query}
use Rattle.rs_query.specs.declared.query.Query.TheVariants.{One, Set}
use Rattle.rs_plain.specs.declared.fault.PlainFault.{PlainFault}
use Rattle.rs_plain.specs.declared.fault.PlainFault.TheVariants.{BadScore, Memory, Probe}

-- the questions for these rows: the terms in order
abbrev pub row_questions : ℕ → Block → List ℕ → List Question
row_questions number block rows = map (question_of number block rows) block.terms

-- the questions of a block whose entries have this many rows: every combination in lexicographic order, and for each the terms
abbrev pub block_questions : CatalogDef → ℕ → Block → List ℕ → List Question
block_questions catalogue number block sizes =
    flat_map (row_questions number block) (combinations catalogue block sizes (all_entries block))

-- the questions of a query, block after block
abbrev pub questions_of : CatalogDef → Query → View → List Question
questions_of catalogue (One block limit) view = block_questions catalogue 1 block view.first
questions_of catalogue (Set op left right limit) view = block_questions catalogue 1 left view.first ++ block_questions catalogue 2 right view.second

-- what is told of a question that ends all: where its call failed, the predicate; where its number is no score, the predicate, the
-- rows of the term's entries, the number, and the greatest score
abbrev pub plain_fault : AskFault → PlainFault
plain_fault (asked.BadScore predicate ids got max) = BadScore predicate ids got max
plain_fault (asked.Probe predicate) = Probe predicate
plain_fault asked.Memory = Memory

abbrev pub plain_faults : Faults PlainFault
plain_faults = faults_by plain_fault

-- all questions of a query are asked in order, up to the first bad number; where there is none, it has its answer
abbrev pub evaluation_of : Answering → CatalogDef → Query → View → Inquiry (List Answer) PlainFault
evaluation_of answer catalogue query view =
    asking plain_faults answer catalogue (questions_of catalogue query view) (answer_of answer catalogue query view)
