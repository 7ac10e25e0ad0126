-- Two things, one for each side of an operator, as a function of the side.
use Rattle.rs_order.specs.Schedule.{JoinSide, Left, Right}

-- that of a side
abbrev pub of_side : {A : Type 0} → A → A → JoinSide → A
of_side left right Left = left
of_side left right Right = right
