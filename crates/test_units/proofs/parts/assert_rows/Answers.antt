-- The catalogue as it is shows all that is in it.
use Rattle.std.proofs.Common.{◌≡◌, length, sym, subst}
use Rattle.rs_catalog.specs.Catalog.{CatalogDef}
use Rattle.rs_query.specs.WellFormed.{IsBlock}
use Rattle.test_units.proofs.parts.assert_rows.Goals as goal

pub assert_rows_of-requires-clause-tables : goal.assert_rows_of-requires-clause-tables
assert_rows_of-requires-clause-tables g c = subst (λ (seen : CatalogDef). length seen.tables ≡ 2) (sym c.current.ensures) c.requires.tables

pub assert_rows_of-requires-clause-block : goal.assert_rows_of-requires-clause-block
assert_rows_of-requires-clause-block g c = subst (λ (seen : CatalogDef). IsBlock seen c.in_ok-block.block) (sym c.current.ensures) c.in_ok-block.ensures.formed
