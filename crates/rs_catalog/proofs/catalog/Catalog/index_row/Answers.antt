-- The index stands in the catalogue where it stands in the map.
use Rattle.std.proofs.Common.{◌≡◌, ◌≤◌, ◌-◌, Some, arith, length, refl, subst}
use Rattle.std.specs.Prelude.{option_map, slice_get}
use Rattle.std.proofs.lemmas.Option.{slice_get_read}
use Rattle.rs_catalog.specs.Indexes.{IsIndexEntry, predicate_for, ranking_at, rows_for}
use Rattle.rs_catalog.specs.declared.index.IndexDef.{IndexDef}
use Rattle.rs_catalog.proofs.InsideFacts.{entry_fits, ranking_at-index}
use Rattle.rs_catalog.proofs.catalog.Catalog.index_row.Goals as goal

pub index-entry-requires : goal.index-entry-requires
index-entry-requires c =
    let fields = c.self.inside in
    let ranking : ranking_at c.args.self.now c.args.index ≡ c.index.result.now.ranking.items =
    ranking_at-index fields.tables.entries fields.predicates.entries fields.indexes.entries c.args.self.now c.self.view_is c.args.index c.index.result.now c.index.ensures in
    let within : c.args.place ≤ length c.index.result.now.ranking.items = subst (λ ranking. c.args.place ≤ length ranking) ranking c.requires.place_in in
    omega (arith, c.index.result.now.ranking.ok.0)

pub returns-clause-entry : goal.returns-clause-entry
returns-clause-entry c =
    let fields = c.self.inside in
    let ranking : ranking_at c.args.self.now c.args.index ≡ c.index.result.now.ranking.items =
    ranking_at-index fields.tables.entries fields.predicates.entries fields.indexes.entries c.args.self.now c.self.view_is c.args.index c.index.result.now c.index.ensures in
    let within : c.args.place ≤ length c.index.result.now.ranking.items = subst (λ ranking. c.args.place ≤ length ranking) ranking c.requires.place_in in
    rw ranking (slice_get_read c.index.result.now.ranking.items _ (c.args.place - 1) c.index-entry.result.now refl (omega (arith, c.requires.some_place)) c.index-entry.ensures)

pub returns-clause-fits : goal.returns-clause-fits
returns-clause-fits c =
    let fields = c.self.inside in
    let ranking : ranking_at c.args.self.now c.args.index ≡ c.index.result.now.ranking.items =
    ranking_at-index fields.tables.entries fields.predicates.entries fields.indexes.entries c.args.self.now c.self.view_is c.args.index c.index.result.now c.index.ensures in
    let within : c.args.place ≤ length c.index.result.now.ranking.items = subst (λ ranking. c.args.place ≤ length ranking) ranking c.requires.place_in in
    let there = slice_get_read c.index.result.now.ranking.items _ (c.args.place - 1) c.index-entry.result.now refl (omega (arith, c.requires.some_place)) c.index-entry.ensures in
    subst (λ catalogue. (def : IndexDef) → option_map (λ i. i.def) (slice_get catalogue.indexes c.args.index) ≡ Some def → IsIndexEntry (length (rows_for catalogue def)) (predicate_for catalogue def).max c.index-entry.result.now) c.self.view_is
    (entry_fits fields.tables.entries fields.predicates.entries fields.indexes.entries c.self.invariant c.args.index c.index.result.now c.index.ensures (c.args.place - 1) c.index-entry.result.now there)
