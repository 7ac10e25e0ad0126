-- Cells that stand as the arguments of a condition.
use Rattle.std.specs.Prelude.{ℕ, ◌≡◌, Bool, List, Some, map, refl, slice_get}
use Rattle.std.specs.Coded.{Coded, code_by, coded×, coded_list, coded_ℕ}
use Rattle.std.specs.List.{AllByRecursion}
use Rattle.rs_value.specs.declared.kind.Kind.{Kind}
use Rattle.rs_value.specs.declared.value.Value.{Value}
use Rattle.rs_catalog.specs.Catalog.{CatalogDef}
use Rattle.rs_catalog.specs.Stored.{catalogue_code}
use Rattle.rs_query.specs.contracts.block.Block as block
use Rattle.rs_query.specs.declared.block.Block.{Block}
use Rattle.rs_query.specs.Meaning.{column_value}
use Rattle.rs_query.specs.Tables.{HasRow}
use Rattle.rs_query.specs.WellFormed.{IsBlock, IsColumn, has_kind}

-- columns of a block, and rows of its entries
pub record Lent : Type 0 where
  pub catalogue : CatalogDef
  pub block : Block
  pub columns : List (ℕ × ℕ)
  pub rows : List ℕ

-- what is stored is the tuple of the fields
abbrev pub lent_code : Coded Lent
lent_code =
    code_by (CatalogDef × (Block × (List (ℕ × ℕ) × List ℕ)))
    (coded× catalogue_code (coded× block.the_row.coded (coded× (coded_list (coded× coded_ℕ coded_ℕ)) (coded_list coded_ℕ))))
    (λ l. (l.catalogue, (l.block, (l.columns, l.rows))))
    (λ t. record { catalogue = t.0; block = t.1.0; columns = t.1.1.0; rows = t.1.1.1 }) (λ _. refl)

-- each column is one of the block, and its entry has a row
pub record AreLent (lent : Lent) : Type 0 where
  pub block : IsBlock lent.catalogue lent.block
  pub columns : AllByRecursion (IsColumn lent.catalogue lent.block) lent.columns
  pub rows : (i : ℕ) (column : ℕ × ℕ) → slice_get lent.columns i ≡ Some column → HasRow lent.catalogue lent.block lent.rows column.0

-- the kinds and the values of the cells, by the places of their columns
abbrev pub lent_has : Lent → Kind → ℕ → Bool
lent_has lent = has_kind lent.catalogue lent.block lent.columns

abbrev pub lent_values : Lent → List Value
lent_values lent = map (column_value lent.catalogue lent.block lent.rows) lent.columns
