-- What is seen of two tables is two tables, and the first entry of an index is the first one behind none.
use Rattle.std.proofs.Common.{ℕ, ◌≡◌, ◌∙◌, List, [], ◌∷◌, length, Some, sym, ap}
use Rattle.std.proofs.lemmas.List.{length-map}
use Rattle.std.specs.List.{filter}
use Rattle.std.specs.Prelude.{None}
use Rattle.rs_rank.specs.declared.scored_row.ScoredRow.{ScoredRow}
use Rattle.rs_catalog.specs.After.{first_entry, is_behind}
use Rattle.rs_catalog.specs.Catalog.{CatalogDef, NamedTable}
use Rattle.rs_catalog.specs.Snapshot.{sizes_in, snapshot}
use Rattle.rs_catalog.proofs.AfterFacts.{filter-none}
use Rattle.rs_catalog.proofs.SnapshotFacts.{length-tables_at}

two_tables : (left right : ℕ) (catalogue : CatalogDef) → sizes_in catalogue ≡ left ∷ right ∷ [] → length catalogue.tables ≡ 2
two_tables left right catalogue known = sym (length-map catalogue.tables (λ (named : NamedTable). length named.table.rows)) ∙ ap length known

pub two_tables_seen : (sizes : List ℕ) (left right : ℕ) (catalogue : CatalogDef) → sizes_in catalogue ≡ left ∷ right ∷ [] → length (snapshot sizes catalogue).tables ≡ 2
two_tables_seen sizes left right catalogue known = length-tables_at sizes catalogue.tables ∙ two_tables left right catalogue known

pub first_of : (ranking : List ScoredRow) (score row : ℕ) → Some (score, row) ≡ first_entry (filter (is_behind None) ranking) → (score ≡ 8) × (row ≡ 1)
    → first_entry ranking ≡ Some (8, 1)
first_of ranking score row found known =
    ap first_entry (sym (filter-none ranking)) ∙ (sym found ∙ (ap (λ (s : ℕ). Some (s, row)) known.0 ∙ ap (λ (r : ℕ). Some (8, r)) known.1))
