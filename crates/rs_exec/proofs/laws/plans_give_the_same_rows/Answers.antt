use Rattle.rs_exec.proofs.AnswerFacts.{lists-same}
use Rattle.rs_exec.proofs.laws.plans_give_the_same_rows.Goals as goal

pub returns : goal.returns
returns c = λ w tree other plan second. lists-same w tree other plan second
