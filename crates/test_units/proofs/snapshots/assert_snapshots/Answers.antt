-- What is seen of the two tables is two tables.
use Rattle.std.proofs.Common.{◌∙◌, length, ap}
use Rattle.rs_catalog.specs.Catalog.{CatalogDef}
use Rattle.test_units.proofs.SeenFacts.{two_tables_seen}
use Rattle.test_units.proofs.snapshots.assert_snapshots.Goals as goal

pub assert_seen-requires-2-clause-tables : goal.assert_seen-requires-2-clause-tables
assert_seen-requires-2-clause-tables g c =
    ap (λ (seen : CatalogDef). length seen.tables) c.of.ensures ∙ two_tables_seen _ 5 3 c.args.catalog.now c.in_ok-assert_sizes.ensures

pub assert_seen-requires-3-clause-tables : goal.assert_seen-requires-3-clause-tables
assert_seen-requires-3-clause-tables g c =
    ap (λ (seen : CatalogDef). length seen.tables) c.of-2.ensures ∙ two_tables_seen _ 5 3 c.args.catalog.now c.in_ok-assert_sizes.ensures

pub assert_seen-requires-4-clause-tables : goal.assert_seen-requires-4-clause-tables
assert_seen-requires-4-clause-tables g c =
    ap (λ (seen : CatalogDef). length seen.tables) c.of-3.ensures ∙ two_tables_seen _ 5 3 c.args.catalog.now c.in_ok-assert_sizes.ensures

pub assert_seen-requires-5-clause-tables : goal.assert_seen-requires-5-clause-tables
assert_seen-requires-5-clause-tables g c =
    ap (λ (seen : CatalogDef). length seen.tables) c.of-4.ensures ∙ two_tables_seen _ 5 3 c.args.catalog.now c.in_ok-assert_sizes.ensures
