-- What holds of each of two sides.
use Rattle.std.proofs.Common.{ℕ, ◌+◌, ◌<◌, arith}
use Rattle.rs_order.specs.Schedule.{JoinSide, Left, Right}
use Rattle.rs_rank.specs.declared.ask.JoinAsk.{JoinAsk}
use Rattle.rs_rank.specs.declared.ask.JoinAsk.TheVariants.{NeedLeft, NeedRight}

pub on-both : (P : JoinSide → Type 0) → P Left → P Right → (side : JoinSide) → P side
on-both P left right Left = left
on-both P left right Right = right

-- what a core says that needs a row of a side
abbrev pub need_of : JoinSide → JoinAsk
need_of Left = NeedLeft
need_of Right = NeedRight

-- where less is left of one side, less is left of both together
pub less-left : (next left right : ℕ) → next < left → next + right < left + right
less-left next left right less = omega arith

pub less-right : (left next right : ℕ) → next < right → left + next < left + right
less-right left next right less = omega arith
