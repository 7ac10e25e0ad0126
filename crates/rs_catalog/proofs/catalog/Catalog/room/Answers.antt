-- The names of the tables are the keys.
use Rattle.std.proofs.Common.{sym, ap, ◌∙◌}
use Rattle.rs_catalog.specs.Catalog.{room_in, room_for}
use Rattle.rs_catalog.specs.declared.room.What.TheVariants.{Table}
use Rattle.rs_catalog.proofs.InsideFacts.{names_of_tables}
use Rattle.rs_catalog.proofs.catalog.Catalog.room.Goals as goal

pub returns-in-Table : goal.returns-in-Table
returns-in-Table c =
    let fields = c.self.inside in
    rw c.in-Table.is (c.room_in.ensures
    ∙ ap (room_in c.args.name.now 16) (sym (names_of_tables fields.tables.entries fields.predicates.entries fields.indexes.entries))
    ∙ ap (room_for Table c.args.name.now) c.self.view_is)
