-- A name for which there is room is new, and one more table may be inside.
use Rattle.std.proofs.Common.{◌≤◌, ap, ◌∙◌, subst, sym}
use Rattle.std.specs.Map.{keys_of}
use Rattle.rs_table.specs.Relation.{most_rows}
use Rattle.rs_catalog.specs.Catalog.{room_in, room_for}
use Rattle.rs_catalog.specs.declared.room.What.TheVariants.{Table}
use Rattle.rs_catalog.proofs.GrowthFacts.{IsInside-table_put}
use Rattle.rs_catalog.proofs.InsideFacts.{names_of_tables}
use Rattle.rs_catalog.proofs.NameFacts.{free_from_room}
use Rattle.rs_catalog.proofs.catalog.Catalog.add_table.Goals as goal

pub put_last-requires : goal.put_last-requires
put_last-requires c =
    let fields = c.self.inside in
    (free_from_room c.args.name 16 (keys_of fields.tables.entries)
    (ap (room_in c.args.name 16) (sym (names_of_tables fields.tables.entries fields.predicates.entries fields.indexes.entries))
    ∙ ap (room_for Table c.args.name) c.self.view_is ∙ c.requires)).new_name

pub invariant_of-self : goal.invariant_of-self
invariant_of-self c =
    let fields = c.self.inside in
    IsInside-table_put fields.tables.entries fields.predicates.entries fields.indexes.entries c.self.invariant c.args.name c.args.table c.put_last.new.list.entries c.put_last.result c.put_last.ensures.ok c.put_last.ensures.err
    (subst (λ n. n ≤ most_rows) c.len.ensures.value c.len.ensures.few)
    (free_from_room c.args.name 16 (keys_of fields.tables.entries)
    (ap (room_in c.args.name 16) (sym (names_of_tables fields.tables.entries fields.predicates.entries fields.indexes.entries))
    ∙ ap (room_for Table c.args.name) c.self.view_is ∙ c.requires))
