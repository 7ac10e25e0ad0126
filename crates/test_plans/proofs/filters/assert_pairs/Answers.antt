-- The catalogue as it is shows all that is in it.
use Rattle.std.proofs.Common.{sym, subst}
use Rattle.rs_catalog.specs.Catalog.{CatalogDef}
use Rattle.rs_query.specs.WellFormed.{IsBlock}
use Rattle.test_plans.proofs.filters.assert_pairs.Goals as goal

pub assert_pairs_of-requires : goal.assert_pairs_of-requires
assert_pairs_of-requires g c = subst (λ (seen : CatalogDef). IsBlock seen c.in_ok-block.block) (sym c.current.ensures) c.in_ok-block.ensures.formed
