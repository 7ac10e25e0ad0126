-- The rows of a table for which the conditions of a block hold.
use Rattle.std.specs.Prelude.{ℕ, Bool, List, [], ◌∷◌, refl}
use Rattle.std.specs.Coded.{Coded, code_by, coded×}
use Rattle.rs_catalog.specs.Catalog.{CatalogDef}
use Rattle.rs_catalog.specs.Stored.{catalogue_code}
use Rattle.rs_query.specs.Combinations.{satisfies}
use Rattle.rs_query.specs.Tables.{all_entries}
use Rattle.rs_query.specs.contracts.block.Block as block
use Rattle.rs_query.specs.declared.block.Block.{Block}

-- a block of a catalogue
pub record BlockTestState : Type 0 where
  pub catalogue : CatalogDef
  pub block : Block

-- the row numbers that a row of the only FROM entry makes
abbrev pub rows_of_one : ℕ → List ℕ
rows_of_one row = row ∷ 0 ∷ 0 ∷ 0 ∷ 0 ∷ 0 ∷ []

-- whether all conditions of a block of one FROM entry hold on a row
abbrev pub holds_on : CatalogDef → Block → ℕ → Bool
holds_on catalogue block row = satisfies catalogue block (all_entries block) (rows_of_one row)

-- how the logic stores it: as the pair of its fields
abbrev pub block_test_code : Coded BlockTestState
block_test_code = code_by (CatalogDef × Block) (coded× catalogue_code block.the_row.coded) (λ t. (t.catalogue, t.block)) (λ p. record { catalogue = p.0; block = p.1 }) (λ _. refl)
