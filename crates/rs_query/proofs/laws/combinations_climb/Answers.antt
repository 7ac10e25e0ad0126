-- Choices rise, and what is left of them rises too.
use Rattle.rs_query.proofs.ChoiceFacts.{Climbs-combinations}
use Rattle.rs_query.proofs.laws.combinations_climb.Goals as goal

pub returns : goal.returns
returns c = λ catalogue block sizes mask. Climbs-combinations catalogue block sizes mask
