use Rattle.rs_exec.specs.Nodes.{counts_in}
use Rattle.rs_exec.proofs.CountFacts.{at_or_past-found, at_or_past-none}
use Rattle.rs_exec.proofs.node.PlanNode.counts_at.Goals as goal

pub returns-in-Ok : goal.returns-in-Ok
returns-in-Ok c = at_or_past-found (counts_in c.args.self.now) c.args.place c.in-Ok.counts c.in-Ok.ensures

pub returns-in-Err : goal.returns-in-Err
returns-in-Err c = at_or_past-none (counts_in c.args.self.now) c.args.place c.in-Err.field-0 c.in-Err.ensures
