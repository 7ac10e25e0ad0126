-- Two least plans tie, so their codes do, and plans of one code are one plan. The first of all plans is one.
use Rattle.rs_enum.proofs.LeastFacts.{least-found}
use Rattle.rs_enum.proofs.OrderOfPlans.{least-one}
use Rattle.rs_enum.proofs.laws.there_is_one_least_plan.Goals as goal

pub returns : goal.returns
returns c = record { unique = least-one; there_is_one = least-found }
