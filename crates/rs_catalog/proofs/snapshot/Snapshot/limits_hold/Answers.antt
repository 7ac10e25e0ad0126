-- No table has more rows in a snapshot than in its catalogue.
use Rattle.std.proofs.Common.{ℕ, ◌≤◌, Bor, List, length, subst}
use Rattle.std.specs.Prelude.{option_map}
use Rattle.std.specs.List.{AllByRecursion}
use Rattle.rs_table.specs.Relation.{most_rows}
use Rattle.rs_catalog.specs.Catalog.{CatalogDef, NamedTable}
use Rattle.rs_catalog.proofs.SeenFacts.{few_rows-seen}
use Rattle.rs_catalog.proofs.snapshot.Snapshot.limits_hold.Goals as goal

pub returns-clause-rows : goal.returns-clause-rows
returns-clause-rows c =
    subst (λ (seen : CatalogDef). AllByRecursion (λ (t : NamedTable). length t.table.rows ≤ most_rows) seen.tables) c.self.view_is
    (few_rows-seen (option_map (λ (s : Bor (List ℕ)). s.now) c.self.inside.sizes) c.self.inside.catalog.now most_rows c.limits_hold.ensures.rows)
