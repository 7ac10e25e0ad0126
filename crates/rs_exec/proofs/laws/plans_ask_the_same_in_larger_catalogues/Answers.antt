use Rattle.std.proofs.Common.{subst}
use Rattle.rs_catalog.specs.Catalog.{CatalogDef}
use Rattle.rs_exec.specs.Asking.{world_of}
use Rattle.rs_exec.specs.Cursors.{SameAsks}
use Rattle.rs_exec.proofs.LargerAnswers.{asks-larger}
use Rattle.rs_catalog.proofs.JoinedFacts.{joined-index, joined-predicate, joined-table, only_index, only_predicate, only_table}
use Rattle.rs_exec.proofs.laws.plans_ask_the_same_in_larger_catalogues.Goals as goal

pub returns-clause-tables : goal.returns-clause-tables
returns-clause-tables c = λ catalogue answer query tree name table covered.
    subst (λ (larger : CatalogDef). SameAsks (world_of larger answer query) (world_of catalogue answer query) tree) (joined-table catalogue name table)
    (asks-larger catalogue (only_table name table) answer query covered tree)

pub returns-clause-predicates : goal.returns-clause-predicates
returns-clause-predicates c = λ catalogue answer query tree predicate covered.
    subst (λ (larger : CatalogDef). SameAsks (world_of larger answer query) (world_of catalogue answer query) tree) (joined-predicate catalogue predicate)
    (asks-larger catalogue (only_predicate predicate) answer query covered tree)

pub returns-clause-indexes : goal.returns-clause-indexes
returns-clause-indexes c = λ catalogue answer query tree def ranking covered.
    subst (λ (larger : CatalogDef). SameAsks (world_of larger answer query) (world_of catalogue answer query) tree) (joined-index catalogue def ranking)
    (asks-larger catalogue (only_index def ranking) answer query covered tree)
