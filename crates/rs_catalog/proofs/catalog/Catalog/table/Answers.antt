-- A table stands in the catalogue where it stands in the map.
use Rattle.std.proofs.Common.{◌≡◌, Some, subst}
use Rattle.std.specs.Prelude.{option_map, slice_get}
use Rattle.rs_catalog.proofs.InsideFacts.{table_at}
use Rattle.rs_catalog.proofs.catalog.Catalog.table.Goals as goal

pub returns : goal.returns
returns c =
    let fields = c.self.inside in
    subst (λ catalogue. option_map (λ t. t.table) (slice_get catalogue.tables c.args.number) ≡ Some c.index.result.now) c.self.view_is
    (table_at fields.tables.entries fields.predicates.entries fields.indexes.entries c.args.number c.index.result.now c.index.ensures)
