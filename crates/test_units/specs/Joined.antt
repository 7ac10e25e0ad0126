-- The block that the tests build: of two tables whose first columns are equal.
use Rattle.std.specs.Prelude.{ℕ, ◌≡◌, List, [], ◌∷◌, Some, pos}
use Rattle.rs_value.specs.declared.rel.Rel.TheVariants.{Eq}
use Rattle.rs_expr.specs.Formulas.{Argument, Numbers}
use Rattle.rs_catalog.specs.declared.index.BoundArg.TheVariants as arg
use Rattle.rs_query.specs.declared.block.Block.{Block}

-- what is known of the block
pub record IsJoin (block : Block) : Type 0 where
  pub left : List ℕ
  pub right : List ℕ
  pub from : block.from ≡ (0, left) ∷ (1, right) ∷ []
  pub conjuncts : block.conjuncts ≡ record {
    condition = Numbers Eq (Argument 0) (Argument 1);
    columns = (1, 0) ∷ (2, 0) ∷ [];
    entries = 3;
    equality = Some ((1, 0), (2, 0));
  } ∷ []
  pub items : block.items ≡ (2, 0) ∷ (1, 0) ∷ []
  pub terms : block.terms ≡ record {
    weight = 3;
    predicate = 0;
    args = arg.Column 2 0 ∷ arg.Int (pos 7) ∷ [];
    max = 100;
    entries = 2;
  } ∷ []
