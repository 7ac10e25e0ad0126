-- No row was fed.
use Rattle.std.proofs.Common.{◌≤◌, List, length, refl, arith}
use Rattle.rs_outputs.specs.Rows.{OutputRow}
use Rattle.rs_filter.proofs.distinct_laws.new_distinct_stands.Goals as goal

pub returns : goal.returns
returns c = λ rows. record { within = least rows; state = refl }
  where
    least : (rows : List OutputRow) → 0 ≤ length rows
    least rows = omega arith
