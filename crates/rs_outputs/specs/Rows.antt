-- Rows with the values of their output columns, and the first of them with each list of values.
use Rattle.std.specs.Prelude.{not, Bool, List, [], ◌∷◌, map}
use Rattle.std.specs.List.{filter}
use Rattle.rs_rank.specs.declared.row.RankRow.{RankRow}
use Rattle.rs_value.specs.declared.value.Value.{Value}
use Rattle.rs_outputs.specs.Seen.{has_list, same_values, with_list}

-- a row, and the values of its output columns
pub record OutputRow : Type 0 where
  pub row : RankRow
  pub values : List Value

-- the output values of some rows
abbrev pub values_of : List OutputRow → List (List Value)
values_of rows = map (λ row. row.values) rows

-- whether a row's output values are those of one of these rows
abbrev pub occurs_in : List OutputRow → OutputRow → Bool
occurs_in rows row = has_list row.values (values_of rows)

-- the rows with other output values
abbrev pub others : OutputRow → List OutputRow → List OutputRow
others row rows = filter (λ other. not (same_values other.values row.values)) rows

-- the first row of each list of output values
abbrev pub firsts : List OutputRow → List OutputRow
firsts [] = []
firsts (row ∷ rows) = row ∷ others row (firsts rows)

-- the rows whose output values aren't among these lists
abbrev pub unseen : List (List Value) → List OutputRow → List OutputRow
unseen lists rows = filter (λ row. not (has_list row.values lists)) rows

-- the lists of output values of some rows, each once, in the order of the rows
abbrev pub lists_from : List (List Value) → List OutputRow → List (List Value)
lists_from lists [] = lists
lists_from lists (row ∷ rows) = lists_from (with_list row.values lists) rows

-- the lists of output values of some rows, each once
abbrev pub lists_of : List OutputRow → List (List Value)
lists_of rows = lists_from [] rows
