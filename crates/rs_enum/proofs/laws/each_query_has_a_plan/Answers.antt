-- Scans are joined one after another, and terms evaluated above.
use Rattle.rs_enum.proofs.ExistenceFacts.{some-plan}
use Rattle.rs_enum.proofs.laws.each_query_has_a_plan.Goals as goal

pub returns : goal.returns
returns c = some-plan
