-- Catalogues that grow: what was in the tables is still there, and more rows may stand behind it.
use Rattle.std.specs.Prelude.{ℕ, ◌≡◌, ◌≤◌, List, length, Some, option_map, slice_get}
use Rattle.rs_value.specs.declared.value.Value.{Value}
use Rattle.rs_table.specs.Lent.{with_rows}
use Rattle.rs_table.specs.Relation.{Relation}
use Rattle.rs_expr.specs.Predicates.{PredicateDef}
use Rattle.rs_catalog.specs.Catalog.{CatalogDef}
use Rattle.rs_query.specs.Tables.{row_number, size_of}
use Rattle.rs_query.specs.Views.{View}
use Rattle.rs_query.specs.declared.block.Block.{Block}
use Rattle.rs_query.specs.declared.query.Query.{Query}
use Rattle.rs_query.specs.declared.query.Query.TheVariants.{One, Set}

-- the table of this number has the columns and the rows of another one, and perhaps more rows behind them
pub record HasRowsOf (catalogue : CatalogDef) (number : ℕ) (table : Relation) : Type 0 where
  pub more : List (List Value)
  pub there : option_map (λ t. t.table) (slice_get catalogue.tables number) ≡ Some (with_rows more table)

-- each table of a catalogue still has its rows in another one, and each predicate is there, both at their numbers; what queries
-- mean reads no index
pub record CatalogueGrows (old new : CatalogDef) : Type 0 where
  pub tables : (number : ℕ) (table : Relation) → option_map (λ t. t.table) (slice_get old.tables number) ≡ Some table → HasRowsOf new number table
  pub predicates : (number : ℕ) (predicate : PredicateDef) → slice_get old.predicates number ≡ Some predicate → slice_get new.predicates number ≡ Some predicate

-- a number of rows for each entry of a block, none greater than that of its table
pub record IsSizes (catalogue : CatalogDef) (block : Block) (sizes : List ℕ) : Type 0 where
  pub all : length block.from ≤ length sizes
  pub each : (entry : ℕ) → 1 ≤ entry → entry ≤ length block.from → row_number sizes entry ≤ size_of catalogue block entry

-- a view of a query has such numbers for each of its blocks
abbrev pub IsViewOf : CatalogDef → Query → View → Type 0
IsViewOf catalogue (One block limit) view = IsSizes catalogue block view.first
IsViewOf catalogue (Set op left right limit) view = IsSizes catalogue left view.first × IsSizes catalogue right view.second
