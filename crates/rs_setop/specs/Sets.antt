-- The rows that a set operator makes of those of two sides.
use Rattle.std.specs.Prelude.{not, List, ◌++◌}
use Rattle.std.specs.List.{filter}
use Rattle.rs_value.specs.declared.set_op.SetOp.{SetOp}
use Rattle.rs_value.specs.declared.set_op.SetOp.TheVariants as op
use Rattle.rs_outputs.specs.Rows.{OutputRow, firsts, occurs_in}

-- of each list of output values the first row, but for UNION ALL
abbrev pub set_rows : SetOp → List OutputRow → List OutputRow → List OutputRow
set_rows op.UnionAll lefts rights = lefts ++ rights
set_rows op.Union lefts rights = firsts (lefts ++ rights)
set_rows op.Intersect lefts rights = firsts (filter (occurs_in rights) lefts)
set_rows op.Except lefts rights = firsts (filter (λ row. not (occurs_in rights row)) lefts)
