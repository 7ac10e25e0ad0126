use Rattle.rs_bind.proofs.StatementRuleFacts.{counts_by_rules, counts_refused_by_rules, indexes_by_rules, indexes_refused_by_rules, names_by_rules, names_refused_by_rules, predicates_by_rules, predicates_refused_by_rules}
use Rattle.rs_bind.proofs.InsertRuleFacts.{inserts_by_rules, inserts_refused_by_rules}
use Rattle.rs_bind.proofs.laws.statements_are_typed_by_rules.Goals as goal

pub returns-clause-table : goal.returns-clause-table
returns-clause-table c = λ columns made. names_by_rules 64 columns made

pub returns-clause-no_table : goal.returns-clause-no_table
returns-clause-no_table c = λ columns fault. names_refused_by_rules 64 columns fault

pub returns-clause-predicate : goal.returns-clause-predicate
returns-clause-predicate c = λ name params max cost formula made. predicates_by_rules name params max cost formula made

pub returns-clause-no_predicate : goal.returns-clause-no_predicate
returns-clause-no_predicate c = λ name params max cost formula fault. predicates_refused_by_rules name params max cost formula fault

pub returns-clause-index : goal.returns-clause-index
returns-clause-index c = λ catalogue name table predicate args at made. indexes_by_rules catalogue name table predicate args at made

pub returns-clause-no_index : goal.returns-clause-no_index
returns-clause-no_index c = λ catalogue name table predicate args at fault. indexes_refused_by_rules catalogue name table predicate args at fault

pub returns-clause-insert : goal.returns-clause-insert
returns-clause-insert c = λ catalogue table rows made. inserts_by_rules catalogue table rows made

pub returns-clause-no_insert : goal.returns-clause-no_insert
returns-clause-no_insert c = λ catalogue table rows fault. inserts_refused_by_rules catalogue table rows fault

pub returns-clause-count : goal.returns-clause-count
returns-clause-count c = λ count made. counts_by_rules count made

pub returns-clause-no_count : goal.returns-clause-no_count
returns-clause-no_count c = λ count fault. counts_refused_by_rules count fault
