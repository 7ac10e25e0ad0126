-- The rows of each operator are those of lists whose keys rise.
use Rattle.rs_setop.proofs.BaseFacts.{answers-climb}
use Rattle.rs_setop.proofs.answer_laws.set_answers_rise.Goals as goal

pub returns : goal.returns
returns c = λ s op lefts rights input. answers-climb s op lefts rights input
