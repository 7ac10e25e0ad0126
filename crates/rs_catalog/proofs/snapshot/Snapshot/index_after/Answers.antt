-- The entries of a snapshot's index are those of its rows.
use Rattle.std.proofs.Common.{◌≡◌, ◌∙◌, ◌<◌, ℕ, Bor, List, length, ap, sym, subst}
use Rattle.std.specs.Prelude.{Option, Some, option_map, slice_get}
use Rattle.std.specs.List.{filter}
use Rattle.std.proofs.lemmas.Option.{slice_get_within}
use Rattle.rs_rank.specs.declared.scored_row.ScoredRow.{ScoredRow}
use Rattle.rs_catalog.specs.After.{first_entry, is_behind}
use Rattle.rs_catalog.specs.Catalog.{CatalogDef, NamedTable}
use Rattle.rs_catalog.specs.Indexes.{ranking_at}
use Rattle.rs_catalog.proofs.SeenFacts.{HaveSeen-borrowed, IsIndex-seen, entries-seen}
use Rattle.rs_catalog.proofs.snapshot.Snapshot.index_after.Goals as goal

pub size-requires : goal.size-requires
size-requires c =
    let sizes : Option (List ℕ) = option_map (λ (s : Bor (List ℕ)). s.now) c.self.inside.sizes in
    let is = IsIndex-seen sizes c.self.inside.catalog.now c.index.result.now c.index.ensures.fits in
    subst (λ (seen : CatalogDef). c.index.result.now.table < length seen.tables) c.self.view_is (slice_get_within _ c.index.result.now.table is.table is.has_table)

pub returns : goal.returns
returns c =
    let sizes : Option (List ℕ) = option_map (λ (s : Bor (List ℕ)). s.now) c.self.inside.sizes in
    let catalogue = c.self.inside.catalog.now in
    let def = c.index.result.now in
    let rows = subst (λ (seen : CatalogDef). option_map (λ (t : NamedTable). length t.table.rows) (slice_get seen.tables def.table) ≡ Some c.size.result) (sym c.self.view_is) c.size.ensures in
    let same = entries-seen sizes catalogue c.args.index def (HaveSeen-borrowed c.self.inside.sizes catalogue c.self.invariant) c.index.ensures.value c.index.ensures.ranking c.size.result rows in
    c.index_after.ensures
    ∙ ap (λ (entries : List ScoredRow). first_entry (filter (is_behind c.args.after) entries)) same
    ∙ ap (λ (seen : CatalogDef). first_entry (filter (is_behind c.args.after) (ranking_at seen c.args.index))) c.self.view_is
