-- A combination is a choice that passes the test, and each of these is found.
use Rattle.rs_query.proofs.ChoiceFacts.{In-combinations, In-combinations-back}
use Rattle.rs_query.proofs.laws.combinations_are_choices_that_satisfy.Goals as goal

pub returns : goal.returns
returns c = λ catalogue block sizes mask rows. (
  λ h. In-combinations-back catalogue block sizes mask rows h,
  λ both. In-combinations catalogue block sizes mask rows both.0 both.1,
)
