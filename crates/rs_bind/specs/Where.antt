-- What WHERE means: for which rows of the FROM entries it holds.
use Rattle.std.specs.Prelude.{ℕ, ◌≡◌, Bool, true, List, map, Option, Some, None}
use Rattle.std.specs.List.{list_all}
use Rattle.rs_syntax.specs.Syntax.{Expression}
use Rattle.rs_expr.specs.Formulas.{Condition}
use Rattle.rs_expr.specs.Meaning.{holds}
use Rattle.rs_catalog.specs.Catalog.{CatalogDef}
use Rattle.rs_query.specs.Meaning.{column_value, conjunct_holds}
use Rattle.rs_query.specs.declared.block.Block.{Block}
use Rattle.rs_typing.specs.Rules.{Types}
use Rattle.rs_typing.specs.Typing.{Truth}
use Rattle.rs_bind.specs.Conditions.{named_columns, own_places}
use Rattle.rs_bind.specs.Sources.{sources_of}

-- whether a condition whose arguments are these columns holds of the values that they have in these rows
abbrev pub holds_of : CatalogDef → Block → List ℕ → List (ℕ × ℕ) → Condition → Bool
holds_of catalogue block rows columns condition = holds condition (map (column_value catalogue block rows) columns)

-- whether every conjunct of a block holds of these rows
abbrev pub conjuncts_hold : CatalogDef → Block → List ℕ → Bool
conjuncts_hold catalogue block rows = list_all (conjunct_holds catalogue block rows) block.conjuncts

-- WHERE holds of these rows: it isn't written, or the condition that it is, over the columns that it names, holds of their values
pub data WhereHolds (catalogue : CatalogDef) (block : Block) (rows : List ℕ) : Option Expression → Type 0 where
  no_where : WhereHolds catalogue block rows None
  condition : (x : Expression) (c : Condition) → Types (own_places (sources_of catalogue block.from) x) x (Truth c)
      → holds_of catalogue block rows (named_columns (sources_of catalogue block.from) x) c ≡ true → WhereHolds catalogue block rows (Some x)
