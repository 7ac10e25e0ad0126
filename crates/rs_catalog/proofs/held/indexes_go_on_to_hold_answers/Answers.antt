use Rattle.rs_catalog.proofs.HeldFacts.{held-makes, held-with_predicate, held-with_table}
use Rattle.rs_catalog.proofs.HeldRowsFacts.{held-grows}
use Rattle.rs_catalog.proofs.held.indexes_go_on_to_hold_answers.Goals as goal

pub returns-clause-tables : goal.returns-clause-tables
returns-clause-tables c = λ catalogue answer name table held. held-with_table catalogue answer name table held

pub returns-clause-predicates : goal.returns-clause-predicates
returns-clause-predicates c = λ catalogue answer predicate held. held-with_predicate catalogue answer predicate held

pub returns-clause-indexes : goal.returns-clause-indexes
returns-clause-indexes c = λ catalogue new def result before after is held makes. held-makes catalogue new def result before after is held makes

pub returns-clause-rows : goal.returns-clause-rows
returns-clause-rows c = λ catalogue new table rows result before after join held grows. held-grows catalogue new table rows result before after join held grows
