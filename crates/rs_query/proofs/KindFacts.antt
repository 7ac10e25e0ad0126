-- The cells of a table's column are of its kind.
use Rattle.std.proofs.Common.{ℕ, ◌≡◌, ◌∙◌, ◌-◌, ◌<◌, true, List, [], Some, length, get_or, refl, ap, inl, inr, arith}
use Rattle.std.specs.List.{AllByRecursion}
use Rattle.std.specs.Prelude.{option_and_then, slice_get}
use Rattle.std.proofs.lemmas.Bool.{false≢true}
use Rattle.std.proofs.lemmas.Option.{slice_get-get_or, slice_get_cases, slice_get_within}
use Rattle.rs_value.specs.Value.{fits, kind_of}
use Rattle.rs_value.specs.declared.kind.Kind.{Kind}
use Rattle.rs_value.specs.declared.kind.Kind.TheVariants as kind
use Rattle.rs_value.specs.declared.value.Value.{Value}
use Rattle.rs_value.specs.declared.value.Value.TheVariants as value
use Rattle.rs_table.proofs.RelationFacts.{fits-at, length-row_fits}
use Rattle.rs_table.specs.Relation.{Relation, row_fits}
use Rattle.rs_order.proofs.EachFacts.{each-slice_get}
use Rattle.rs_catalog.specs.Catalog.{CatalogDef}
use Rattle.rs_query.specs.declared.block.Block.{Block}
use Rattle.rs_query.specs.Searching.{HasKinds}
use Rattle.rs_query.specs.Tables.{entry_table}
use Rattle.rs_query.proofs.CellFacts.{IsOf-table}
use Rattle.rs_query.proofs.TieFacts.{cell_of-value}

-- a value that fits a kind is of that kind
kind-fits : (k : Kind) (v : Value) → fits k v ≡ true → kind_of v ≡ k
kind-fits kind.Int (value.Int n) fit = refl
kind-fits kind.Int (value.Text t) fit = absurd (false≢true fit)
kind-fits kind.Text (value.Int n) fit = absurd (false≢true fit)
kind-fits kind.Text (value.Text t) fit = refl

pub HasKinds-table : (catalogue : CatalogDef) (block : Block) (column : ℕ × ℕ) (table : Relation) → entry_table catalogue block column.0 ≡ Some table
    → AllByRecursion (λ row. row_fits table.schema row ≡ true) table.rows → HasKinds catalogue block column
HasKinds-table catalogue block column table is_table fit kind row is_kind some most =
    let of = IsOf-table catalogue block column table is_table in
    let typed = of.typed kind is_kind in
    let size = of.size in
    let within : row - 1 < length table.rows = omega arith in
    let values : List Value = get_or table.rows (row - 1) [] in
    let there = slice_get-get_or table.rows (row - 1) [] within in
    let fits_row = each-slice_get (λ (r : List Value). row_fits table.schema r ≡ true) table.rows (row - 1) values fit there in
    let known = slice_get_within table.schema column.1 typed.0 typed.1 in
    let count = length-row_fits table.schema values fits_row in
    elim (slice_get_cases values column.1).1 [
      | inl at ↦
          ap kind_of (cell_of-value catalogue block column row table at.0 is_table (ap (option_and_then (λ (vs : List Value). slice_get vs column.1)) there ∙ at.2))
          ∙ kind-fits typed.0.1 at.0 (fits-at table.schema values column.1 typed.0 at.0 fits_row typed.1 at.2)
          ∙ typed.2
      | inr past ↦ absurd (omega (arith, past.0))
    ]
