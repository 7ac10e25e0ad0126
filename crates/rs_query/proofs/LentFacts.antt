-- Cells that a condition looks at: which column they are of, and that its entry has a row.
use Rattle.std.proofs.Common.{ℕ, ◌≡◌, ◌∙◌, ◌<◌, true, List, Some, length, get_or, ap, subst}
use Rattle.std.specs.Prelude.{option_map, slice_get}
use Rattle.std.proofs.lemmas.Option.{slice_get-get_or, slice_get-map}
use Rattle.rs_order.proofs.EachFacts.{each-slice_get}
use Rattle.rs_value.specs.declared.kind.Kind.{Kind}
use Rattle.rs_catalog.specs.Catalog.{CatalogDef}
use Rattle.rs_query.specs.declared.block.Block.{Block}
use Rattle.rs_query.specs.Conjuncts.{ConjunctDef}
use Rattle.rs_query.specs.Lent.{AreLent, Lent, lent_has, lent_values}
use Rattle.rs_query.specs.Meaning.{column_value, is_inside}
use Rattle.rs_query.specs.Tables.{HasRow, HasRows}
use Rattle.rs_query.specs.WellFormed.{IsBlock, IsColumn, IsConjunct, column_kind}
use Rattle.rs_query.proofs.CellFacts.{has_kind-within, kind-at}
use Rattle.rs_query.proofs.EntryFacts.{column-inside, row-inside}

-- those of a conjunct, for rows of its entries
pub AreLent-conjunct : (catalogue : CatalogDef) (block : Block) → IsBlock catalogue block → (conjunct : ConjunctDef) → IsConjunct catalogue block conjunct
    → (mask : ℕ) (rows : List ℕ) → is_inside conjunct.entries mask ≡ true → HasRows catalogue block mask rows
    → AreLent (record { catalogue = catalogue; block = block; columns = conjunct.columns; rows = rows })
AreLent-conjunct catalogue block is_block conjunct is mask rows inside have = record {
  block = is_block;
  columns = is.columns;
  rows = λ i column at. row-inside catalogue block mask rows column have (each-slice_get (IsColumn catalogue block) conjunct.columns i column is.columns at)
      (column-inside conjunct.columns i column mask (subst (λ entries. is_inside entries mask ≡ true) is.entries inside) at);
}

-- the column at a place
abbrev pub column-at : Lent → ℕ → ℕ × ℕ
column-at lent i = get_or lent.columns i (0, 0)

module _ (lent : Lent) (kind : Kind) (i : ℕ) (has : lent_has lent kind i ≡ true) where
  pub at-within : i < length lent.columns
  at-within = has_kind-within lent.catalogue lent.block lent.columns kind i has

  at-there : slice_get lent.columns i ≡ Some (column-at lent i)
  at-there = slice_get-get_or lent.columns i (0, 0) at-within

  pub at-kind : column_kind lent.catalogue lent.block (column-at lent i) ≡ Some kind
  at-kind = kind-at lent.catalogue lent.block lent.columns kind i (column-at lent i) at-there has

  pub at-column : AreLent lent → IsColumn lent.catalogue lent.block (column-at lent i)
  at-column are = each-slice_get (IsColumn lent.catalogue lent.block) lent.columns i (column-at lent i) are.columns at-there

  pub at-row : AreLent lent → HasRow lent.catalogue lent.block lent.rows (column-at lent i).0
  at-row are = are.rows i (column-at lent i) at-there

  pub at-value : slice_get (lent_values lent) i ≡ Some (column_value lent.catalogue lent.block lent.rows (column-at lent i))
  at-value =
      slice_get-map (column_value lent.catalogue lent.block lent.rows) lent.columns i
      ∙ ap (option_map (column_value lent.catalogue lent.block lent.rows)) at-there
