-- The catalogue and the query that the tests build.
use Rattle.std.specs.Prelude.{ℕ, ◌≡◌, List, [], ◌∷◌, Some}
use Rattle.rs_value.specs.declared.kind.Kind.TheVariants as kind
use Rattle.rs_value.specs.declared.rel.Rel.TheVariants.{Eq}
use Rattle.rs_expr.specs.Formulas.{Argument, Numbers}
use Rattle.rs_catalog.specs.Catalog.{CatalogDef}
use Rattle.rs_catalog.specs.declared.index.BoundArg.TheVariants as arg
use Rattle.rs_query.specs.declared.block.Block.{Block}

-- its one predicate is of a number, which is its score
pub record HasPredicate (catalogue : CatalogDef) : Type 0 where
  pub name : List ℕ
  pub predicates : catalogue.predicates ≡ record {
    name = name;
    params = kind.Int ∷ [];
    max = 10;
    cost = 1;
    formula = Argument 0;
  } ∷ []

-- two entries of the first table
pub record ArePair (from : List (ℕ × List ℕ)) : Type 0 where
  pub left : List ℕ
  pub right : List ℕ
  pub are : from ≡ (0, left) ∷ (0, right) ∷ []

-- the block of both, whose first columns are equal, and whose output and whose term are that of the first one
pub record IsPair (block : Block) : Type 0 where
  pub entries : ArePair block.from
  pub conjuncts : block.conjuncts ≡ record {
    condition = Numbers Eq (Argument 0) (Argument 1);
    columns = (1, 0) ∷ (2, 0) ∷ [];
    entries = 3;
    equality = Some ((1, 0), (2, 0));
  } ∷ []
  pub items : block.items ≡ (1, 0) ∷ []
  pub terms : block.terms ≡ record {
    weight = 1;
    predicate = 0;
    args = arg.Column 1 0 ∷ [];
    max = 10;
    entries = 1;
  } ∷ []
