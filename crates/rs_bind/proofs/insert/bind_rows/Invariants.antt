use Rattle.std.proofs.Common.{◌≡◌, ◌+◌, drop, length}
use Rattle.rs_table.specs.Appended.{appended}
use Rattle.rs_bind.specs.Inserts.{rows_for_table, rows_values}
use Rattle.rs_bind.proofs.insert.bind_rows.Given as goal

abbrev pub invariant-loop-index : goal.invariant-loop-index
invariant-loop-index l =
    appended l.made.items (rows_values l.table.schema (length l.table.rows + 1 + l.index) (drop l.index l.rows)) ≡ rows_for_table l.table l.rows
