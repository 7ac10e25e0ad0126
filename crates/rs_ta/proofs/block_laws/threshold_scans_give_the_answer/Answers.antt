-- The lists have the rows of the table, and the sums of rows are their scores.
use Rattle.rs_ta.proofs.AnswerFacts.{input-rows, scan-answer}
use Rattle.rs_ta.proofs.TermFacts.{IndexLaw}
use Rattle.rs_ta.proofs.block_laws.threshold_scans_give_the_answer.Goals as goal

pub returns : goal.returns
returns c = let law : IndexLaw = record { is_ranking = c.rankings_are_in_order.ensures.ranking; scores_are = c.rankings_are_in_order.ensures.scores } in record {
  rows = λ answer catalogue block indexes formed eligible holds. input-rows law answer catalogue block indexes formed eligible holds;
  answer = λ answer catalogue block limit indexes formed eligible holds. scan-answer law answer catalogue block indexes formed eligible holds limit;
}
