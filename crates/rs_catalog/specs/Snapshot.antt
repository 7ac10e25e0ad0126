-- A catalogue as it was when its tables had so many rows.
use Rattle.std.specs.Prelude.{ℕ, ◌≤◌, List, [], ◌∷◌, length, map, Option, Some, None, slice_get, unwrap_or}
use Rattle.rs_table.specs.FirstRows.{first_rows}
use Rattle.rs_catalog.specs.After.{entries_within}
use Rattle.rs_catalog.specs.Catalog.{CatalogDef, NamedTable, RankIndex}

-- so many rows of the table of a number; a table for which no number of rows is given has none
abbrev pub size_at : List ℕ → ℕ → ℕ
size_at sizes table = unwrap_or (slice_get sizes table) 0

-- tables, each with so many of its first rows
abbrev pub tables_at : List ℕ → List NamedTable → List NamedTable
tables_at sizes [] = []
tables_at [] (named ∷ tables) = record named { table = first_rows 0 named.table } ∷ tables_at [] tables
tables_at (count ∷ sizes) (named ∷ tables) = record named { table = first_rows count named.table } ∷ tables_at sizes tables

-- an index with the entries of these rows
abbrev pub index_at : List ℕ → RankIndex → RankIndex
index_at sizes index = record index { ranking = entries_within (size_at sizes index.def.table) index.ranking }

-- a catalogue as it was when its tables had so many rows: the first rows of each table, and the entries of these rows in each index
abbrev pub snapshot : List ℕ → CatalogDef → CatalogDef
snapshot sizes catalogue = record catalogue { tables = tables_at sizes catalogue.tables; indexes = map (index_at sizes) catalogue.indexes }

-- the first tables have so many rows
abbrev pub HaveRows : List ℕ → List NamedTable → Type 0
HaveRows [] tables = Unit {0}
HaveRows (count ∷ sizes) [] = ⊥
HaveRows (count ∷ sizes) (named ∷ tables) = (count ≤ length named.table.rows) × HaveRows sizes tables

-- how many rows each table has
abbrev pub sizes_in : CatalogDef → List ℕ
sizes_in catalogue = map (λ (named : NamedTable). length named.table.rows) catalogue.tables

-- what is seen of a catalogue: all that is in it, or what was when its tables had so many rows
abbrev pub seen_of : Option (List ℕ) → CatalogDef → CatalogDef
seen_of None catalogue = catalogue
seen_of (Some sizes) catalogue = snapshot sizes catalogue
