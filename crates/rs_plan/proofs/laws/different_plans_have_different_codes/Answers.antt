-- Where a comparison doesn't tell two codes apart, the trees are built alike, and validity makes the indexes equal.
use Rattle.rs_plan.proofs.LawFacts.{plan-tied, plan-unique}
use Rattle.rs_plan.proofs.laws.different_plans_have_different_codes.Goals as goal

pub returns : goal.returns
returns c = record { codes = plan-unique; order = plan-tied }
