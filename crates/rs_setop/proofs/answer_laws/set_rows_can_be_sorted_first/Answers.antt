-- Of rows with the same output values the first by ids is the first by keys.
use Rattle.rs_setop.proofs.BaseFacts.{answers-sorted, sides-sorted}
use Rattle.rs_setop.proofs.answer_laws.set_rows_can_be_sorted_first.Goals as goal

pub returns-clause-sides : goal.returns-clause-sides
returns-clause-sides c = λ s lefts rights bases. sides-sorted s lefts rights bases

pub returns-clause-answers : goal.returns-clause-answers
returns-clause-answers c = λ s op lefts rights bases. answers-sorted s lefts rights bases op
