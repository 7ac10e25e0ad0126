use Rattle.rs_exec.proofs.PartFacts.{parts-in-turn}
use Rattle.rs_exec.proofs.laws.rows_give_the_parts_in_turn.Goals as goal

pub returns : goal.returns
returns c = λ w tree n formed bounded view weights plan. parts-in-turn w tree n formed bounded view weights plan
