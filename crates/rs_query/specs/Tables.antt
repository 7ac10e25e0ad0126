-- The FROM entries of a block, counted from 1, and the tables that they stand for.
use Rattle.std.specs.Prelude.{ℕ, ◌≡◌, ◌≤◌, ◌-◌, ◌^◌, true, List, [], ◌∷◌, length, map, Option, option_and_then, option_map, slice_get, unwrap_or}
use Rattle.rs_table.specs.Column.{Column}
use Rattle.rs_table.specs.Relation.{Relation}
use Rattle.rs_catalog.specs.Catalog.{CatalogDef}
use Rattle.rs_rank.specs.Masks.{has_number}
use Rattle.rs_query.specs.declared.block.Block.{Block}

-- the table of a FROM entry
abbrev pub entry_table : CatalogDef → Block → ℕ → Option Relation
entry_table catalogue block entry =
    option_and_then (λ (from : ℕ × List ℕ). option_map (λ t. t.table) (slice_get catalogue.tables from.0)) (slice_get block.from (entry - 1))

-- the number of its rows; 0 where there is no such entry
abbrev pub size_of : CatalogDef → Block → ℕ → ℕ
size_of catalogue block entry = unwrap_or (option_map (λ (table : Relation). length table.rows) (entry_table catalogue block entry)) 0

-- the numbers of rows of six entries
abbrev pub sizes_of : CatalogDef → Block → List ℕ
sizes_of catalogue block = map (size_of catalogue block) (1 ∷ 2 ∷ 3 ∷ 4 ∷ 5 ∷ 6 ∷ [])

-- the mask of all entries of a block
abbrev pub all_entries : Block → ℕ
all_entries block = 2 ^ length block.from - 1

-- the row number that stands for an entry; 0 where there is none
abbrev pub row_number : List ℕ → ℕ → ℕ
row_number rows entry = unwrap_or (slice_get rows (entry - 1)) 0

-- an entry has a row of its table, counted from 1
abbrev pub HasRow : CatalogDef → Block → List ℕ → ℕ → Type 0
HasRow catalogue block rows entry = (1 ≤ row_number rows entry) × (row_number rows entry ≤ size_of catalogue block entry)

-- each entry in a mask has one
abbrev pub HasRows : CatalogDef → Block → ℕ → List ℕ → Type 0
HasRows catalogue block mask rows =
    (entry : ℕ) → 1 ≤ entry → entry ≤ length block.from → has_number mask entry ≡ true → HasRow catalogue block rows entry

-- the column of an entry, counted from 0
abbrev pub column_of : CatalogDef → Block → ℕ × ℕ → Option Column
column_of catalogue block column = option_and_then (λ (table : Relation). slice_get table.schema column.1) (entry_table catalogue block column.0)
