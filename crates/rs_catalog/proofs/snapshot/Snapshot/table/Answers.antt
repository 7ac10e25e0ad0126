-- A table of a snapshot is its first rows.
use Rattle.std.proofs.Common.{◌≡◌, ◌∙◌, ◌<◌, ◌≤◌, ℕ, Bor, List, length, ap, sym, subst}
use Rattle.std.specs.Prelude.{Option, Some, option_map, slice_get}
use Rattle.rs_table.specs.FirstRows.{first_rows}
use Rattle.rs_table.specs.Relation.{Relation}
use Rattle.rs_catalog.specs.Catalog.{CatalogDef, NamedTable}
use Rattle.rs_catalog.specs.Snapshot.{seen_of}
use Rattle.rs_catalog.proofs.SeenFacts.{HaveSeen, HaveSeen-borrowed, length-seen, rows-seen, size_seen, size_seen-few, table-seen}
use Rattle.rs_catalog.proofs.snapshot.Snapshot.table.Goals as goal

-- so many rows are seen of a table
size_is : (sizes : Option (List ℕ)) (catalogue : CatalogDef) (place size : ℕ) (table : Relation) → HaveSeen sizes catalogue
    → option_map (λ (t : NamedTable). t.table) (slice_get catalogue.tables place) ≡ Some table → option_map (λ (t : NamedTable). length t.table.rows) (slice_get (seen_of sizes catalogue).tables place) ≡ Some size
    → size ≡ size_seen sizes place table
size_is sizes catalogue place size table have is there = let known = rows-seen sizes catalogue place table have is in cc

pub table-requires : goal.table-requires
table-requires c =
    let sizes : Option (List ℕ) = option_map (λ (s : Bor (List ℕ)). s.now) c.self.inside.sizes in
    subst (λ n. c.args.number < n) (length-seen sizes c.self.inside.catalog.now) (subst (λ (seen : CatalogDef). c.args.number < length seen.tables) (sym c.self.view_is) c.requires)

pub of-requires : goal.of-requires
of-requires c =
    let sizes : Option (List ℕ) = option_map (λ (s : Bor (List ℕ)). s.now) c.self.inside.sizes in
    let catalogue = c.self.inside.catalog.now in
    let have = HaveSeen-borrowed c.self.inside.sizes catalogue c.self.invariant in
    let rows = subst (λ (seen : CatalogDef). option_map (λ (t : NamedTable). length t.table.rows) (slice_get seen.tables c.args.number) ≡ Some c.size.result) (sym c.self.view_is) c.size.ensures in
    subst (λ n. n ≤ length c.table.result.now.rows) (sym (size_is sizes catalogue c.args.number c.size.result c.table.result.now have c.table.ensures rows))
    (size_seen-few sizes catalogue c.args.number c.table.result.now have c.table.ensures)

pub returns : goal.returns
returns c =
    let sizes : Option (List ℕ) = option_map (λ (s : Bor (List ℕ)). s.now) c.self.inside.sizes in
    let catalogue = c.self.inside.catalog.now in
    let table = c.table.result.now in
    let have = HaveSeen-borrowed c.self.inside.sizes catalogue c.self.invariant in
    let rows = subst (λ (seen : CatalogDef). option_map (λ (t : NamedTable). length t.table.rows) (slice_get seen.tables c.args.number) ≡ Some c.size.result) (sym c.self.view_is) c.size.ensures in
    subst (λ (seen : CatalogDef). option_map (λ (t : NamedTable). t.table) (slice_get seen.tables c.args.number) ≡ Some (first_rows (size_seen sizes c.args.number table) table)) c.self.view_is
    (table-seen sizes catalogue c.args.number table c.table.ensures)
    ∙ ap (λ n. Some (first_rows n table)) (sym (size_is sizes catalogue c.args.number c.size.result table have c.table.ensures rows))
    ∙ ap (λ (t : Relation). Some t) (sym c.of.ensures)
