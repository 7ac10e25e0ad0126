-- What a join of two sides of a block looks at.
use Rattle.std.specs.Prelude.{ℕ, ◌≡◌, List}
use Rattle.std.specs.List.{flat_map}
use Rattle.rs_catalog.specs.Catalog.{CatalogDef}
use Rattle.rs_query.specs.Conjuncts.{ConjunctDef}
use Rattle.rs_query.specs.Tables.{sizes_of}
use Rattle.rs_query.specs.declared.block.Block.{Block}
use Rattle.rs_filter.specs.JoinValues.{equated_across, is_equi}
use Rattle.rs_filter.specs.Matching.{conjuncts_across}
use Rattle.rs_filter.specs.declared.conditions.JoinConditions.{JoinConditions}

-- the columns that conjuncts equate across the sides, in the order of the conjuncts
abbrev pub equated_columns : ℕ → ℕ → List ConjunctDef → List ((ℕ × ℕ) × (ℕ × ℕ))
equated_columns left right conjuncts = flat_map (equated_across left right) conjuncts

-- what a join of sides with the entries of these masks looks at
abbrev pub conditions_of : CatalogDef → Block → ℕ → ℕ → JoinConditions
conditions_of catalogue block left right = record {
  left = left;
  right = right;
  sizes = sizes_of catalogue block;
  across = conjuncts_across left right block.conjuncts;
  columns = equated_columns left right block.conjuncts;
  exact = is_equi left right block.conjuncts;
}

-- what a join looks at is what is to be looked at of a block
abbrev pub AreConditions : CatalogDef → Block → JoinConditions → Type 0
AreConditions catalogue block conditions = conditions ≡ conditions_of catalogue block conditions.left conditions.right
