-- The names of the tables are the keys.
use Rattle.std.proofs.Common.{sym, ap, ◌∙◌}
use Rattle.rs_catalog.specs.Catalog.{place_of_name, number_named}
use Rattle.rs_catalog.specs.declared.room.What.TheVariants.{Table}
use Rattle.rs_catalog.proofs.InsideFacts.{names_of_tables}
use Rattle.rs_catalog.proofs.catalog.Catalog.find.Goals as goal

pub returns-in-Table-clause-value : goal.returns-in-Table-clause-value
returns-in-Table-clause-value c =
    let fields = c.self.inside in
    rw c.in-Table.is (c.number_in.ensures.value
    ∙ ap (place_of_name c.args.name.now) (sym (names_of_tables fields.tables.entries fields.predicates.entries fields.indexes.entries))
    ∙ ap (number_named Table c.args.name.now) c.self.view_is)
