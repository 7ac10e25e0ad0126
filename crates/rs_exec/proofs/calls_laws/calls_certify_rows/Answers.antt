-- The questions of a plan certify its rows, those of each node by those of its input.
use Rattle.rs_exec.proofs.CertifiedFacts.{certified-calls, certified-next, certified-rows}
use Rattle.rs_exec.proofs.calls_laws.calls_certify_rows.Goals as goal

pub returns-clause-rows : goal.returns-clause-rows
returns-clause-rows c = λ catalogue query tree answer other n fits other_fits alike. certified-rows catalogue answer other query tree n fits other_fits alike

pub returns-clause-calls : goal.returns-clause-calls
returns-clause-calls c = λ catalogue query tree answer other n fits other_fits alike. certified-calls catalogue answer other query tree n fits other_fits alike

pub returns-clause-asks : goal.returns-clause-asks
returns-clause-asks c = λ catalogue query tree answer other n fits other_fits alike. certified-next catalogue answer other query tree n fits other_fits alike
