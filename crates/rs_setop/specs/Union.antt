-- What UNION ALL and UNION keep, and what each call does to it. UNION drops a row once it comes first, if its output values were
-- taken.
use Rattle.std.specs.Prelude.{ℕ, ◌+◌, ◌&&◌, Bool, false, List, [], Option, Some, None, if◌then◌else◌}
use Rattle.rs_rank.specs.declared.ask.JoinAsk.{JoinAsk}
use Rattle.rs_rank.specs.declared.ask.JoinAsk.TheVariants.{NeedLeft, NeedRight, Ready, End}
use Rattle.rs_rank.specs.declared.row.RankRow.{RankRow}
use Rattle.rs_rank.specs.declared.weights.Weights.{Weights}
use Rattle.rs_value.specs.declared.value.Value.{Value}
use Rattle.rs_outputs.specs.Seen.{has_list, with_list}
use Rattle.rs_setop.specs.declared.heads.Heads.{Heads}
use Rattle.rs_setop.specs.declared.held.Head.TheVariants.{Ended}
use Rattle.rs_setop.specs.declared.held.HeldRow.{HeldRow}
use Rattle.rs_setop.specs.Heads.{ask_of, first_of, no_heads, without_first}
use Rattle.rs_setop.specs.Held.{count_of, head_of_row, row_of}

-- the terms that are evaluated on the rows of both sides; whether of the rows with the same output values only the first is given;
-- the next row of each side; the output values of the rows that UNION gave, in the order of taking; and whether memory ran out
pub record Union : Type 0 where
  pub weights : Weights
  pub terms : ℕ
  pub distinct : Bool
  pub heads : Heads
  pub taken : List (List Value)
  pub spent : Bool

-- no side was asked
abbrev pub new_union : Weights → ℕ → Bool → Union
new_union weights terms distinct = record { weights = weights; terms = terms; distinct = distinct; heads = no_heads; taken = []; spent = false }

-- whether these are the values of a row that was taken
abbrev pub was_taken : Option HeldRow → List (List Value) → Bool
was_taken None taken = false
was_taken (Some held) taken = has_list held.values taken

-- whether the next row of each side is known, and the values of the one that comes first were taken
abbrev pub is_repeated : JoinAsk → Union → Bool
is_repeated Ready u = was_taken (first_of u.heads) u.taken
is_repeated NeedLeft u = false
is_repeated NeedRight u = false
is_repeated End u = false

abbrev pub first_was_taken : Union → Bool
first_was_taken u = u.distinct && is_repeated (ask_of u.heads) u

-- UNION drops such a row; then nothing is known of the next row of its side
abbrev pub settled : Union → Union
settled u = if first_was_taken u then record u { heads = without_first u.heads } else u

-- after one more row of a side
abbrev pub left_fed : RankRow → List Value → Union → Union
left_fed row values u = settled (record u { heads = record u.heads { left = head_of_row u.weights u.terms row values } })

abbrev pub right_fed : RankRow → List Value → Union → Union
right_fed row values u = settled (record u { heads = record u.heads { right = head_of_row u.weights u.terms row values } })

-- after the end of a side
abbrev pub left_ended : Union → Union
left_ended u = settled (record u { heads = record u.heads { left = Ended } })

abbrev pub right_ended : Union → Union
right_ended u = settled (record u { heads = record u.heads { right = Ended } })

-- the held row whose key comes first, if it can be taken
abbrev pub taken_for : JoinAsk → Union → Option RankRow
taken_for Ready u = row_of (first_of u.heads)
taken_for NeedLeft u = None
taken_for NeedRight u = None
taken_for End u = None

-- the values that were taken, with those of a row
abbrev pub with_taken : Option HeldRow → List (List Value) → List (List Value)
with_taken None taken = taken
with_taken (Some held) taken = with_list held.values taken

-- what is left without it
abbrev pub left_for : JoinAsk → Union → Union
left_for Ready u = record u { heads = without_first u.heads; taken = if u.distinct then with_taken (first_of u.heads) u.taken else u.taken }
left_for NeedLeft u = u
left_for NeedRight u = u
left_for End u = u

-- for how many rows there is to be room: for those that are held, where their values are to be kept
abbrev pub room_for : Bool → Heads → ℕ
room_for distinct heads = if distinct then count_of heads.left + count_of heads.right else 0
