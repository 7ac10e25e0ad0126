use Rattle.rs_plain.proofs.OrderFacts.{Climbs-answer}
use Rattle.rs_plain.proofs.laws.answers_climb.Goals as goal

pub returns : goal.returns
returns c = λ answer catalogue query view. Climbs-answer answer catalogue query view
