use Rattle.std.proofs.Common.{subst, sym}
use Rattle.rs_catalog.specs.Catalog.{CatalogDef}
use Rattle.rs_exec.specs.Cursors.{StandsFor}
use Rattle.rs_catalog.proofs.JoinedFacts.{joined-index, joined-predicate, joined-table, only_index, only_predicate, only_table}
use Rattle.rs_exec.proofs.LargerNodes.{cursor-larger}
use Rattle.rs_exec.proofs.laws.cursors_stand_in_larger_catalogues.Goals as goal

pub returns-clause-tables : goal.returns-clause-tables
returns-clause-tables c = λ catalogue answer cursor name table stands.
    subst (λ (larger : CatalogDef). StandsFor larger answer cursor) (joined-table catalogue name table)
    (cursor-larger catalogue (only_table name table) answer cursor stands)

pub returns-clause-predicates : goal.returns-clause-predicates
returns-clause-predicates c = λ catalogue answer cursor predicate stands.
    subst (λ (larger : CatalogDef). StandsFor larger answer cursor) (joined-predicate catalogue predicate)
    (cursor-larger catalogue (only_predicate predicate) answer cursor stands)

pub returns-clause-indexes : goal.returns-clause-indexes
returns-clause-indexes c = λ catalogue answer cursor def ranking stands.
    subst (λ (larger : CatalogDef). StandsFor larger answer cursor) (joined-index catalogue def ranking)
    (cursor-larger catalogue (only_index def ranking) answer cursor stands)

pub returns-clause-rows : goal.returns-clause-rows
returns-clause-rows c = λ sizes catalogue new answer cursor table rows result before after can have holds grows stands.
    subst (λ (seen : CatalogDef). StandsFor seen answer cursor)
    (sym (c.snapshots_stay.ensures.rows sizes catalogue new table rows result before after can have holds grows)) stands
