use Rattle.std.proofs.Common.{◌≡◌}
use Rattle.std.specs.String.{string_bytes}
use Rattle.std.specs.Prelude.{codes}
use Rattle.rs_gen.specs.Tables.{hotel_line, table}
use Rattle.rs_gen.proofs.tables.hotel_table.Given as goal

-- the header and the rows so far
abbrev pub invariant-loop-place : goal.invariant-loop-place
invariant-loop-place l = string_bytes l.table ≡ table (codes "name,price,city\n") (hotel_line l.number l.cities) l.place
