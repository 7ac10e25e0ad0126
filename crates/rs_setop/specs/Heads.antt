-- The next rows of both sides of a union: which side is asked, and which row is taken.
use Rattle.std.specs.Prelude.{Bool, true, false, not, Option, if◌then◌else◌}
use Rattle.std.specs.Ordering.{is_gt}
use Rattle.rs_rank.specs.declared.ask.JoinAsk.{JoinAsk}
use Rattle.rs_rank.specs.declared.ask.JoinAsk.TheVariants.{NeedLeft, NeedRight, Ready, End}
use Rattle.rs_rank.specs.Keys.{key_cmp}
use Rattle.rs_setop.specs.declared.heads.Heads.{Heads}
use Rattle.rs_setop.specs.declared.held.Head.{Head}
use Rattle.rs_setop.specs.declared.held.Head.TheVariants.{Unknown, Held, Ended}
use Rattle.rs_setop.specs.declared.held.HeldRow.{HeldRow}
use Rattle.rs_setop.specs.Held.{held_of, without_held}

-- no side was asked
abbrev pub no_heads : Heads
no_heads = record { left = Unknown; right = Unknown }

-- a side whose next row isn't known is asked, the left one first
abbrev pub ask_for : Head → Head → JoinAsk
ask_for Unknown right = NeedLeft
ask_for (Held held) Unknown = NeedRight
ask_for (Held held) (Held other) = Ready
ask_for (Held held) Ended = Ready
ask_for Ended Unknown = NeedRight
ask_for Ended (Held other) = Ready
ask_for Ended Ended = End

abbrev pub ask_of : Heads → JoinAsk
ask_of heads = ask_for heads.left heads.right

-- the left row comes first where its key doesn't come after that of the right row
abbrev pub left_is_first : Head → Head → Bool
left_is_first Unknown right = false
left_is_first (Held held) Unknown = true
left_is_first (Held held) (Held other) = not (is_gt (key_cmp held.key other.key))
left_is_first (Held held) Ended = true
left_is_first Ended right = false

abbrev pub is_left_first : Heads → Bool
is_left_first heads = left_is_first heads.left heads.right

-- of the held rows the one whose key comes first
abbrev pub first_of : Heads → Option HeldRow
first_of heads = if is_left_first heads then held_of heads.left else held_of heads.right

-- what is left without it
abbrev pub without_first : Heads → Heads
without_first heads =
    if is_left_first heads then record heads { left = without_held heads.left } else record heads { right = without_held heads.right }
