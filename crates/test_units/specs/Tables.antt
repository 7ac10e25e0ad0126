-- The catalogue that the tests build: a predicate, beside two tables.
use Rattle.std.specs.Prelude.{ℕ, ◌≡◌, List, [], ◌∷◌}
use Rattle.rs_value.specs.declared.kind.Kind.{Kind}
use Rattle.rs_expr.specs.Formulas.{Argument}
use Rattle.rs_catalog.specs.Catalog.{CatalogDef}

-- its one predicate is of these parameters, and has scores up to max
pub record HasPredicate (params : List Kind) (max : ℕ) (catalogue : CatalogDef) : Type 0 where
  pub name : List ℕ
  pub predicates : catalogue.predicates ≡ record {
    name = name;
    params = params;
    max = max;
    cost = 1;
    formula = Argument 0;
  } ∷ []
