use Rattle.rs_bind.proofs.QueryRuleFacts.{queries_bound_by_rules, queries_not_bound_by_rules, queries_typed_by_rules, typed_once}
use Rattle.rs_bind.proofs.laws.queries_are_typed_by_rules.Goals as goal

pub returns-clause-typed : goal.returns-clause-typed
returns-clause-typed c = λ catalogue select query. queries_typed_by_rules catalogue select query

pub returns-clause-bound : goal.returns-clause-bound
returns-clause-bound c = λ catalogue select query. queries_bound_by_rules catalogue select query

pub returns-clause-refused : goal.returns-clause-refused
returns-clause-refused c = λ catalogue select fault. queries_not_bound_by_rules catalogue select fault

pub returns-clause-one : goal.returns-clause-one
returns-clause-one c = λ catalogue select query other. typed_once catalogue select query other
