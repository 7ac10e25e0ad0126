-- An index stands in the catalogue where it stands in the map, and it is one of the catalogue.
use Rattle.std.proofs.Common.{◌≡◌, Some, length, subst, ap}
use Rattle.std.specs.Prelude.{option_map, slice_get}
use Rattle.rs_catalog.specs.Indexes.{IsIndex, IsRanking, rows_for, predicate_for, ranking_at}
use Rattle.rs_catalog.proofs.InsideFacts.{index_at, ranked_at}
use Rattle.rs_catalog.proofs.catalog.Catalog.index.Goals as goal

pub returns-clause-value : goal.returns-clause-value
returns-clause-value c =
    let fields = c.self.inside in
    subst (λ catalogue. option_map (λ i. i.def) (slice_get catalogue.indexes c.args.number) ≡ Some c.index.result.now.def) c.self.view_is
    (ap (option_map (λ i. i.def)) (index_at fields.tables.entries fields.predicates.entries fields.indexes.entries c.args.number c.index.result.now c.index.ensures))

pub returns-clause-fits : goal.returns-clause-fits
returns-clause-fits c =
    let fields = c.self.inside in
    subst (λ catalogue. IsIndex catalogue c.index.result.now.def) c.self.view_is
    (ranked_at fields.tables.entries fields.predicates.entries fields.indexes.entries c.self.invariant c.args.number c.index.result.now c.index.ensures).fits

pub returns-clause-ranking : goal.returns-clause-ranking
returns-clause-ranking c =
    let fields = c.self.inside in
    let stored = index_at fields.tables.entries fields.predicates.entries fields.indexes.entries c.args.number c.index.result.now c.index.ensures in
    let ranked = ranked_at fields.tables.entries fields.predicates.entries fields.indexes.entries c.self.invariant c.args.number c.index.result.now c.index.ensures in
    subst (λ catalogue. IsRanking (length (rows_for catalogue c.index.result.now.def)) (predicate_for catalogue c.index.result.now.def).max (ranking_at catalogue c.args.number)) c.self.view_is
    (rw stored ranked.ranking)
