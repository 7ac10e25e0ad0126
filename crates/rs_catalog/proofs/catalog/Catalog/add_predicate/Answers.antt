-- One more predicate may be inside, where there is room for its name.
use Rattle.std.proofs.Common.{◌≡◌, ap, ◌∙◌, arith, subst}
use Rattle.std.specs.Prelude.{OnOk, ◌++◌, ◌∷◌, []}
use Rattle.std.specs.Map.{keys_of}
use Rattle.rs_catalog.specs.Catalog.{room_in, room_for}
use Rattle.rs_catalog.specs.declared.room.What.TheVariants.{Predicate}
use Rattle.rs_catalog.proofs.GrowthFacts.{IsInside-predicate_put}
use Rattle.rs_catalog.proofs.NameFacts.{free_from_room}
use Rattle.rs_catalog.proofs.catalog.Catalog.add_predicate.Goals as goal

pub invariant_of-self : goal.invariant_of-self
invariant_of-self c =
    let fields = c.self.inside in
    IsInside-predicate_put fields.tables.entries fields.predicates.entries fields.indexes.entries c.self.invariant c.args.predicate c.put_last.new.list.entries c.put_last.result
    (subst (λ name. OnOk c.put_last.result (c.put_last.new.list.entries ≡ fields.predicates.entries ++ (name, c.args.predicate) ∷ [])) (c.in_ok-name.ensures ∙ c.name.ensures) c.put_last.ensures.ok) c.put_last.ensures.err
    (let most = c.max.type_inv in let value = c.max.ensures.value in omega arith)
    (free_from_room c.args.predicate.name 64 (keys_of fields.predicates.entries)
    (ap (room_in c.args.predicate.name 64) c.self.invariant.predicate_keys
    ∙ ap (room_for Predicate c.args.predicate.name) c.self.view_is ∙ c.requires))
