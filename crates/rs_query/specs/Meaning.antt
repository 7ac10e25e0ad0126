-- What the columns, conditions, arguments and outputs of a block are for some rows of its entries.
use Rattle.std.specs.Prelude.{ℕ, ◌≡◌, pos, ◌+◌, ◌*◌, ◌/◌, ◌%◌, ◌==◌, ◌&&◌, Bool, true, List, [], ◌∷◌, map, bit_and, option_and_then, unwrap_or, if◌then◌else◌}
use Rattle.rs_value.specs.declared.value.Value.{Value}
use Rattle.rs_value.specs.declared.value.Value.TheVariants as value
use Rattle.rs_table.specs.Relation.{Relation, cell_at}
use Rattle.rs_catalog.specs.Catalog.{CatalogDef}
use Rattle.rs_catalog.specs.declared.index.BoundArg.{BoundArg}
use Rattle.rs_catalog.specs.declared.index.BoundArg.TheVariants as arg
use Rattle.rs_expr.specs.Meaning.{holds}
use Rattle.rs_query.specs.declared.block.Block.{Block}
use Rattle.rs_query.specs.declared.term.Term.{Term}
use Rattle.rs_query.specs.Conjuncts.{ConjunctDef}
use Rattle.rs_query.specs.Tables.{row_number, entry_table}

-- whether all entries of a mask are in another one
abbrev pub is_inside : ℕ → ℕ → Bool
is_inside entries mask = bit_and entries mask == entries

-- the value of a column for these rows
abbrev pub column_value : CatalogDef → Block → List ℕ → ℕ × ℕ → Value
column_value catalogue block rows column =
    unwrap_or (option_and_then (λ (table : Relation). cell_at table (row_number rows column.0) column.1) (entry_table catalogue block column.0)) (value.Int (pos 0))

-- whether a conjunct holds of these rows
abbrev pub conjunct_holds : CatalogDef → Block → List ℕ → ConjunctDef → Bool
conjunct_holds catalogue block rows conjunct = holds conjunct.condition (map (column_value catalogue block rows) conjunct.columns)

-- whether all conjuncts in a mask hold; the first conjunct has the lowest bit
abbrev pub all_hold : CatalogDef → Block → ℕ → List ℕ → List ConjunctDef → Bool
all_hold catalogue block mask rows [] = true
all_hold catalogue block mask rows (conjunct ∷ rest) =
    (if mask % 2 == 1 then conjunct_holds catalogue block rows conjunct else true) && all_hold catalogue block (mask / 2) rows rest

-- the mask of the conjuncts whose entries are all in a mask of entries
abbrev pub conjuncts_within : ℕ → List ConjunctDef → ℕ
conjuncts_within mask [] = 0
conjuncts_within mask (conjunct ∷ rest) = (if is_inside conjunct.entries mask then 1 else 0) + 2 * conjuncts_within mask rest

-- the entries of each conjunct in a mask of conjuncts are in a mask of entries
abbrev pub AreInside : ℕ → ℕ → List ConjunctDef → Type 0
AreInside conjuncts mask [] = Unit {0}
AreInside conjuncts mask (conjunct ∷ rest) = (conjuncts % 2 ≡ 1 → is_inside conjunct.entries mask ≡ true) × AreInside (conjuncts / 2) mask rest

-- the value of an argument for these rows
abbrev pub argument_value : CatalogDef → Block → List ℕ → BoundArg → Value
argument_value catalogue block rows (arg.Column entry column) = column_value catalogue block rows (entry, column)
argument_value catalogue block rows (arg.Int n) = value.Int n
argument_value catalogue block rows (arg.Text t) = value.Text t

-- the arguments of a term
abbrev pub argument_values : CatalogDef → Block → List ℕ → Term → List Value
argument_values catalogue block rows term = map (argument_value catalogue block rows) term.args

-- the values of the output columns
abbrev pub outputs_of : CatalogDef → Block → List ℕ → List Value
outputs_of catalogue block rows = map (column_value catalogue block rows) block.items
