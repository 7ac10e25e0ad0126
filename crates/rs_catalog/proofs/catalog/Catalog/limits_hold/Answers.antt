-- What holds of each entry of a map holds of what stands at its name in the catalogue.
use Rattle.std.proofs.Common.{ℕ, ◌≤◌, List, length, subst}
use Rattle.std.specs.List.{AllByRecursion}
use Rattle.rs_table.specs.Relation.{Relation, most_rows}
use Rattle.rs_expr.specs.Predicates.{PredicateDef}
use Rattle.rs_catalog.specs.Catalog.{CatalogDef, NamedTable, greatest_max}
use Rattle.rs_order.proofs.EachFacts.{each-map}
use Rattle.rs_catalog.proofs.catalog.Catalog.limits_hold.Goals as goal

pub returns-clause-rows : goal.returns-clause-rows
returns-clause-rows c =
    subst (λ (catalogue : CatalogDef). AllByRecursion (λ (t : NamedTable). length t.table.rows ≤ most_rows) catalogue.tables) c.self.view_is
    (each-map (λ (t : NamedTable). length t.table.rows ≤ most_rows) (λ (t : List ℕ × Relation). record { name = t.0; table = t.1 }) c.self.inside.tables.entries c.self.invariant.few_rows)

pub returns-clause-scores : goal.returns-clause-scores
returns-clause-scores c =
    subst (λ (catalogue : CatalogDef). AllByRecursion (λ (p : PredicateDef). p.max ≤ greatest_max) catalogue.predicates) c.self.view_is
    (each-map (λ (p : PredicateDef). p.max ≤ greatest_max) (λ (p : List ℕ × PredicateDef). p.1) c.self.inside.predicates.entries c.self.invariant.low_scores)
