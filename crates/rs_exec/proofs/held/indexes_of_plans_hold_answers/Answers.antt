use Rattle.rs_exec.proofs.HeldFacts.{held-plan}
use Rattle.rs_exec.proofs.held.indexes_of_plans_hold_answers.Goals as goal

pub returns : goal.returns
returns c = λ catalogue answer tree held. held-plan answer catalogue held tree
