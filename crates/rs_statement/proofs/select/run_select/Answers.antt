use Rattle.rs_statement.proofs.select.run_select.Goals as goal

pub returns-in-Plainly : goal.returns-in-Plainly
returns-in-Plainly g c = rw c.in-Plainly.is c.run_query.ensures

pub returns-in-Planned : goal.returns-in-Planned
returns-in-Planned g c = rw c.in-Planned.is c.run_planned.ensures
