-- The first rows of a table.
use Rattle.std.specs.Prelude.{ℕ, take}
use Rattle.rs_table.specs.Relation.{Relation}

-- a table as it was when it had so many rows
abbrev pub first_rows : ℕ → Relation → Relation
first_rows count table = record table { rows = take count table.rows }
