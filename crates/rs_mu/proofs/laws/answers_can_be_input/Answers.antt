-- The answers are the sorted rows, each with its worth.
use Rattle.rs_mu.proofs.AnswerFacts.{answers-climb, answers-others, answers-sums, length-answers}
use Rattle.rs_mu.proofs.laws.answers_can_be_input.Goals as goal

pub returns-clause-count : goal.returns-clause-count
returns-clause-count c = λ e rows. length-answers e rows

pub returns-clause-rising : goal.returns-clause-rising
returns-clause-rising c = λ e rows input. answers-climb e rows input

pub returns-clause-sums : goal.returns-clause-sums
returns-clause-sums c = λ e rows input. answers-sums e rows input

pub returns-clause-others : goal.returns-clause-others
returns-clause-others c = λ e rows input. answers-others e rows input
