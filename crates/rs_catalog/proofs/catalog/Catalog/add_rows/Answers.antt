-- The indexes were asked about; then the rows stand behind those of the table, and what became of the indexes in their places.
use Rattle.std.proofs.Common.{ℕ, ◌≡◌, ◌∙◌, List, ap, length, refl, subst, sym}
use Rattle.std.specs.Prelude.{Err, Ok}
use Rattle.rs_value.proofs.ResultFacts.{given-err}
use Rattle.rs_value.specs.declared.value.Value.{Value}
use Rattle.rs_expr.specs.InOrder.{Inquires}
use Rattle.rs_expr.proofs.InOrderFacts.{Inquires-unheld}
use Rattle.rs_table.specs.Relation.{Relation}
use Rattle.rs_catalog.specs.Catalog.{CatalogDef}
use Rattle.rs_catalog.specs.Growing.{CanJoin, grown, growing}
use Rattle.rs_catalog.specs.Grown.{AllOrdered, AreGrown, KeptIndex, all_renewed, all_renewed_kept}
use Rattle.rs_catalog.specs.Inside.{IsInside, catalogue_of}
use Rattle.rs_catalog.specs.declared.growth.GrowFault.TheVariants.{Memory}
use Rattle.rs_catalog.proofs.JoinRowsFacts.{AllOrdered-indexes, IsInside-grown, IsInside-kept, catalogue-grown, catalogue-kept, stored-at}
use Rattle.rs_catalog.proofs.catalog.Catalog.add_rows.Goals as goal

pub put_rows-requires : goal.put_rows-requires
put_rows-requires g c =
    let join = subst (λ (catalogue : CatalogDef). CanJoin catalogue c.args.table c.args.rows.items) (sym c.self.view_is) c.requires in
    (join.named.table, (stored-at c.self.inside.tables.entries c.args.table join.named join.has_table, (join.fit, join.few)))

pub returns-in_err-put_rows : goal.returns-in_err-put_rows
returns-in_err-put_rows g c =
    let old = g.S.Scorer.state c.args.scorer.now in
    let new = g.S.Scorer.state c.grow_indexes.new.scorer in
    let indexes = all_renewed c.args.self.now.indexes c.in_ok-grown.grown.items in
    let asked = subst (λ (rows : List (List Value)). Inquires Memory (growing old.answer c.args.self.now c.args.table rows) (Ok indexes) old new) c.as_slice.ensures.value c.in_ok-grown.ensures.grows in
    record {
      indexes = Err Memory;
      inquires = Inquires-unheld Memory (growing old.answer c.args.self.now c.args.table c.args.rows.items) indexes old new asked;
      answers = given-err c.from_residual-in_err-put_rows.result Memory c.from_residual-in_err-put_rows.ensures;
      joins = ap (λ (tables : List (List ℕ × Relation)). catalogue_of tables c.self.inside.predicates.entries c.make_room.new.indexes.entries) c.in_err-put_rows.ensures.err
          ∙ catalogue-kept c.self.inside.tables.entries c.self.inside.predicates.entries c.self.inside.indexes.entries c.make_room.new.indexes.entries c.in_ok-make_room.ensures.same ∙ c.self.view_is;
    }

pub returns-in_err-make_room : goal.returns-in_err-make_room
returns-in_err-make_room g c =
    let old = g.S.Scorer.state c.args.scorer.now in
    let new = g.S.Scorer.state c.grow_indexes.new.scorer in
    let indexes = all_renewed c.args.self.now.indexes c.in_ok-grown.grown.items in
    let asked = subst (λ (rows : List (List Value)). Inquires Memory (growing old.answer c.args.self.now c.args.table rows) (Ok indexes) old new) c.as_slice.ensures.value c.in_ok-grown.ensures.grows in
    record {
      indexes = Err Memory;
      inquires = Inquires-unheld Memory (growing old.answer c.args.self.now c.args.table c.args.rows.items) indexes old new asked;
      answers = given-err c.from_residual-in_err-make_room.result Memory c.from_residual-in_err-make_room.ensures;
      joins = catalogue-kept c.self.inside.tables.entries c.self.inside.predicates.entries c.self.inside.indexes.entries c.make_room.new.indexes.entries c.in_err-make_room.ensures.same ∙ c.self.view_is;
    }

pub invariant_of-self : goal.invariant_of-self
invariant_of-self g c = IsInside-kept c.self.inside.tables.entries c.self.inside.predicates.entries c.self.inside.indexes.entries c.make_room.new.indexes.entries c.in_err-make_room.ensures.same c.self.invariant

pub invariant_of-self-in_err-put_rows : goal.invariant_of-self-in_err-put_rows
invariant_of-self-in_err-put_rows g c =
    subst (λ (tables : List (List ℕ × Relation)). IsInside tables c.self.inside.predicates.entries c.make_room.new.indexes.entries) (sym c.in_err-put_rows.ensures.err)
    (IsInside-kept c.self.inside.tables.entries c.self.inside.predicates.entries c.self.inside.indexes.entries c.make_room.new.indexes.entries c.in_ok-make_room.ensures.same c.self.invariant)

pub renew-requires-clause-ordered : goal.renew-requires-clause-ordered
renew-requires-clause-ordered g c =
    let tables = c.self.inside.tables.entries in
    let predicates = c.self.inside.predicates.entries in
    let indexes = c.self.inside.indexes.entries in
    let rows = c.args.rows.items in
    let last = c.in_ok-grown.grown.items in
    let view : catalogue_of tables predicates indexes ≡ c.args.self.now = c.self.view_is in
    let are : AreGrown (catalogue_of tables predicates indexes) c.args.table (length rows) (catalogue_of tables predicates indexes).indexes last =
    subst (λ (catalogue : CatalogDef). AreGrown catalogue c.args.table (length rows) catalogue.indexes last) (sym view)
    (subst (λ (rows : List (List Value)). AreGrown c.args.self.now c.args.table (length rows) c.args.self.now.indexes last) c.as_slice.ensures.value c.in_ok-grown.ensures.all) in
    subst (λ (kept : List KeptIndex). AllOrdered kept last) (sym c.in_ok-make_room.ensures.same)
    (AllOrdered-indexes tables predicates indexes c.self.invariant c.args.table (length rows) last are)

pub invariant_of-self-2 : goal.invariant_of-self-2
invariant_of-self-2 g c =
    let tables = c.self.inside.tables.entries in
    let predicates = c.self.inside.predicates.entries in
    let indexes = c.self.inside.indexes.entries in
    let rows = c.args.rows.items in
    let last = c.in_ok-grown.grown.items in
    let view : catalogue_of tables predicates indexes ≡ c.args.self.now = c.self.view_is in
    let join = subst (λ (catalogue : CatalogDef). CanJoin catalogue c.args.table rows) (sym view) c.requires in
    let size : length (catalogue_of tables predicates indexes).indexes ≡ length last = ap (λ (catalogue : CatalogDef). length catalogue.indexes) view ∙ sym c.in_ok-grown.ensures.len in
    let are : AreGrown (catalogue_of tables predicates indexes) c.args.table (length rows) (catalogue_of tables predicates indexes).indexes last =
    subst (λ (catalogue : CatalogDef). AreGrown catalogue c.args.table (length rows) catalogue.indexes last) (sym view)
    (subst (λ (rows : List (List Value)). AreGrown c.args.self.now c.args.table (length rows) c.args.self.now.indexes last) c.as_slice.ensures.value c.in_ok-grown.ensures.all) in
    let kept = c.renew.ensures ∙ ap (λ (kept : List KeptIndex). all_renewed_kept kept last) c.in_ok-make_room.ensures.same in
    subst (λ (entries : List (List ℕ × Relation)). IsInside entries predicates c.renew.new.indexes.entries) (sym c.in_ok-put_rows.ensures.ok)
    (IsInside-grown tables predicates indexes c.self.invariant c.args.table rows last join c.renew.new.indexes.entries kept size are)

pub returns : goal.returns
returns g c =
    let old = g.S.Scorer.state c.args.scorer.now in
    let new = g.S.Scorer.state c.grow_indexes.new.scorer in
    let tables = c.self.inside.tables.entries in
    let predicates = c.self.inside.predicates.entries in
    let entries = c.self.inside.indexes.entries in
    let rows = c.args.rows.items in
    let last = c.in_ok-grown.grown.items in
    let view : catalogue_of tables predicates entries ≡ c.args.self.now = c.self.view_is in
    let join = subst (λ (catalogue : CatalogDef). CanJoin catalogue c.args.table rows) (sym view) c.requires in
    let indexes = all_renewed c.args.self.now.indexes last in
    let kept = c.renew.ensures ∙ ap (λ (kept : List KeptIndex). all_renewed_kept kept last) c.in_ok-make_room.ensures.same in
    record {
      indexes = Ok indexes;
      inquires = subst (λ (rows : List (List Value)). Inquires Memory (growing old.answer c.args.self.now c.args.table rows) (Ok indexes) old new) c.as_slice.ensures.value c.in_ok-grown.ensures.grows;
      answers = refl;
      joins = ap (λ (list : List (List ℕ × Relation)). catalogue_of list predicates c.renew.new.indexes.entries) c.in_ok-put_rows.ensures.ok
          ∙ catalogue-grown tables predicates entries c.self.invariant c.args.table rows last join c.renew.new.indexes.entries kept
          ∙ ap (λ (catalogue : CatalogDef). grown c.args.table rows (all_renewed catalogue.indexes last) catalogue) view;
    }
