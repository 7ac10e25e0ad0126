use Rattle.std.proofs.Common.{subst}
use Rattle.rs_catalog.proofs.JoinedFacts.{joined-index, joined-predicate, joined-table, only_index, only_predicate, only_table}
use Rattle.rs_query.specs.Growth.{CatalogueGrows}
use Rattle.rs_query.proofs.GrowthFacts.{grows-by, grows-joined, grows-same, grows-snapshot, grows-steps}
use Rattle.rs_query.proofs.growth_laws.catalogues_grow.Goals as goal

pub returns-clause-rows : goal.returns-clause-rows
returns-clause-rows c = λ old new table rows result before after grows. grows-by old new table rows result before after grows

pub returns-clause-tables : goal.returns-clause-tables
returns-clause-tables c = λ catalogue name table. subst (CatalogueGrows catalogue) (joined-table catalogue name table) (grows-joined catalogue (only_table name table))

pub returns-clause-predicates : goal.returns-clause-predicates
returns-clause-predicates c = λ catalogue predicate. subst (CatalogueGrows catalogue) (joined-predicate catalogue predicate) (grows-joined catalogue (only_predicate predicate))

pub returns-clause-indexes : goal.returns-clause-indexes
returns-clause-indexes c = λ catalogue def ranking. subst (CatalogueGrows catalogue) (joined-index catalogue def ranking) (grows-joined catalogue (only_index def ranking))

pub returns-clause-snapshots : goal.returns-clause-snapshots
returns-clause-snapshots c = λ sizes catalogue. grows-snapshot sizes catalogue

pub returns-clause-same : goal.returns-clause-same
returns-clause-same c = λ catalogue. grows-same catalogue

pub returns-clause-steps : goal.returns-clause-steps
returns-clause-steps c = λ old middle new first second. grows-steps old middle new first second
