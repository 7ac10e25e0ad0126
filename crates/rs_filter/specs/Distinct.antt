-- What DISTINCT keeps, which rows it gives, and where it stands, of the rows of its input.
use Rattle.std.specs.Prelude.{ℕ, ◌≡◌, ◌≤◌, Bool, false, List, [], length, take, Option, Some, None, if◌then◌else◌}
use Rattle.rs_rank.specs.declared.row.RankRow.{RankRow}
use Rattle.rs_value.specs.declared.value.Value.{Value}
use Rattle.rs_outputs.specs.Rows.{OutputRow, firsts, lists_of}
use Rattle.rs_outputs.specs.Seen.{has_list}

-- the output values of the rows that were fed, each list once, and whether memory ran out
pub record Distinct : Type 0 where
  pub lists : List (List Value)
  pub spent : Bool

-- no row was fed
abbrev pub new_distinct : Distinct
new_distinct = record { lists = []; spent = false }

-- a row, where no earlier one had its output values
abbrev pub given_for : RankRow → List Value → List (List Value) → Option RankRow
given_for row values lists = if has_list values lists then None else Some row

-- after this many rows it keeps their lists of values
pub record DistinctStands (rows : List OutputRow) (fed : ℕ) (d : Distinct) : Type 0 where
  pub within : fed ≤ length rows
  pub state : d ≡ record { lists = lists_of (take fed rows); spent = false }

-- how many rows it gave then
abbrev pub given_count : List OutputRow → ℕ → ℕ
given_count rows fed = length (firsts (take fed rows))
