-- What INTERSECT and EXCEPT keep, and what each call does to it.
use Rattle.std.specs.Prelude.{ℕ, ◌&&◌, Bool, true, false, not, List, [], Option, Some, None, if◌then◌else◌}
use Rattle.rs_rank.specs.declared.ask.JoinAsk.{JoinAsk}
use Rattle.rs_rank.specs.declared.ask.JoinAsk.TheVariants.{NeedLeft, NeedRight, Ready, End}
use Rattle.rs_rank.specs.declared.row.RankRow.{RankRow}
use Rattle.rs_rank.specs.declared.weights.Weights.{Weights}
use Rattle.rs_rank.specs.Rows.{key_of}
use Rattle.rs_value.specs.declared.value.Value.{Value}
use Rattle.rs_outputs.specs.Seen.{has_list, with_list}
use Rattle.rs_setop.specs.declared.held.Head.{Head}
use Rattle.rs_setop.specs.declared.held.Head.TheVariants.{Unknown, Held, Ended}
use Rattle.rs_setop.specs.declared.held.HeldRow.{HeldRow}
use Rattle.rs_setop.specs.Held.{head_of_row, held_of, row_of, without_held}
use Rattle.rs_setop.specs.Reached.{Reach, fed, is_past}

-- the terms that are evaluated on the rows of both sides; whether the rows count whose output values the right side has, or
-- those whose values it hasn't; the next row of the left side; the output values of the left rows that were taken or dropped;
-- how far the right side was drawn; and whether memory ran out
pub record Comparison : Type 0 where
  pub weights : Weights
  pub terms : ℕ
  pub shared : Bool
  pub left : Head
  pub passed : List (List Value)
  pub right : Reach
  pub spent : Bool

-- no side was asked
abbrev pub new_compared : Weights → ℕ → Bool → Comparison
new_compared weights terms shared = record {
  weights = weights;
  terms = terms;
  shared = shared;
  left = Unknown;
  passed = [];
  right = record { last = None; ended = false; values = [] };
  spent = false;
}

-- a held row is ready once no right row still to come has its bound or a greater one
abbrev pub ask_for : Head → Reach → JoinAsk
ask_for Unknown right = NeedLeft
ask_for (Held held) right = if is_past right held.key.bound then Ready else NeedRight
ask_for Ended right = End

abbrev pub ask_of : Comparison → JoinAsk
ask_of c = ask_for c.left c.right

-- whether the truth of this is the one that is wanted
abbrev pub is_other : Bool → Bool → Bool
is_other true wanted = not wanted
is_other false wanted = wanted

-- whether a row is held that the right side tells not to count
abbrev pub is_out : Head → Bool → Reach → Bool
is_out Unknown shared right = false
is_out (Held held) shared right = is_past right held.key.bound && is_other (has_list held.values right.values) shared
is_out Ended shared right = false

abbrev pub is_unwanted : Comparison → Bool
is_unwanted c = is_out c.left c.shared c.right

-- the output values that were kept, with those of a row
abbrev pub with_values : Option HeldRow → List (List Value) → List (List Value)
with_values None lists = lists
with_values (Some held) lists = with_list held.values lists

-- what is left without the held row
abbrev pub passed : Comparison → Comparison
passed c = record c { left = without_held c.left; passed = with_values (held_of c.left) c.passed }

-- a row that doesn't count is dropped
abbrev pub settled : Comparison → Comparison
settled c = if is_unwanted c then passed c else c

-- after one more left row: it is dropped at once where a left row had its values before
abbrev pub left_fed : RankRow → List Value → Comparison → Comparison
left_fed row values c =
    if has_list values c.passed then c else settled (record c { left = head_of_row c.weights c.terms row values })

-- after one more right row
abbrev pub right_fed : RankRow → List Value → Comparison → Comparison
right_fed row values c = settled (record c { right = fed (key_of c.weights c.terms row).bound values c.right })

-- after the end of a side
abbrev pub left_ended : Comparison → Comparison
left_ended c = record c { left = Ended }

abbrev pub right_ended : Comparison → Comparison
right_ended c = settled (record c { right = record c.right { ended = true } })

-- the held row, if it can be taken
abbrev pub taken_for : JoinAsk → Comparison → Option RankRow
taken_for Ready c = row_of (held_of c.left)
taken_for NeedLeft c = None
taken_for NeedRight c = None
taken_for End c = None

-- what is left without it
abbrev pub left_for : JoinAsk → Comparison → Comparison
left_for Ready c = passed c
left_for NeedLeft c = c
left_for NeedRight c = c
left_for End c = c
