-- The catalogue as it is shows all that is in it.
use Rattle.std.proofs.Common.{◌∙◌, ap, sym, subst}
use Rattle.rs_catalog.specs.Catalog.{CatalogDef}
use Rattle.rs_query.specs.Tables.{size_of}
use Rattle.rs_query.specs.WellFormed.{IsBlock}
use Rattle.rs_enum.proofs.costs.table_rows.Goals as goal

pub size_of-requires-clause-block : goal.size_of-requires-clause-block
size_of-requires-clause-block c = subst (λ (seen : CatalogDef). IsBlock seen c.args.block.now) (sym c.current.ensures) c.requires.block

pub returns-clause-value : goal.returns-clause-value
returns-clause-value c = c.size_of.ensures.value ∙ ap (λ (seen : CatalogDef). size_of seen c.args.block.now c.args.entry) c.current.ensures
