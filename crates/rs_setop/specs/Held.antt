-- What is known of the next row of a side.
use Rattle.std.specs.Prelude.{ℕ, List, Option, Some, None}
use Rattle.rs_rank.specs.declared.row.RankRow.{RankRow}
use Rattle.rs_rank.specs.declared.weights.Weights.{Weights}
use Rattle.rs_rank.specs.Rows.{key_of}
use Rattle.rs_value.specs.declared.value.Value.{Value}
use Rattle.rs_setop.specs.declared.held.Head.{Head}
use Rattle.rs_setop.specs.declared.held.Head.TheVariants.{Unknown, Held, Ended}
use Rattle.rs_setop.specs.declared.held.HeldRow.{HeldRow}

-- a row with its key by these terms, and its output values
abbrev pub held_row : Weights → ℕ → RankRow → List Value → HeldRow
held_row weights terms row values = record { key = key_of weights terms row; row = row; values = values }

abbrev pub head_of_row : Weights → ℕ → RankRow → List Value → Head
head_of_row weights terms row values = Held (held_row weights terms row values)

-- the row that is held, if there is one
abbrev pub held_of : Head → Option HeldRow
held_of Unknown = None
held_of (Held held) = Some held
held_of Ended = None

-- what is left without it
abbrev pub without_held : Head → Head
without_held Unknown = Unknown
without_held (Held held) = Unknown
without_held Ended = Ended

-- its row alone
abbrev pub row_of : Option HeldRow → Option RankRow
row_of None = None
row_of (Some held) = Some held.row

-- how many rows are held
abbrev pub count_of : Head → ℕ
count_of Unknown = 0
count_of (Held held) = 1
count_of Ended = 0
