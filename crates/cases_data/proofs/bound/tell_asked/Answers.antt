-- The catalogue as it is shows all that is in it.
use Rattle.std.proofs.Common.{sym, subst}
use Rattle.rs_catalog.specs.Catalog.{CatalogDef}
use Rattle.rs_query.specs.WellFormed.{IsQuery}
use Rattle.cases_data.proofs.bound.tell_asked.Goals as goal

pub tell_combinations-requires : goal.tell_combinations-requires
tell_combinations-requires c = subst (λ (seen : CatalogDef). IsQuery seen c.args.query.now) (sym c.current.ensures) c.requires
