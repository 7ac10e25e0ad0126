-- An entry or a term of a well-formed block has such a number.
use Rattle.rs_plan.proofs.DecidingFacts.{plan-numbers}
use Rattle.rs_plan.proofs.laws.plans_have_numbers.Goals as goal

pub returns : goal.returns
returns c = plan-numbers
